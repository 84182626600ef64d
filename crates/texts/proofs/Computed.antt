-- Every case answers what it says: the definition is run. Assumes nothing.
use mathlib.Core.Path.{◌≡◌, refl}
use Rattle.octets.specs.Reading.{be, part, number_in}
use Rattle.utf8.specs.Utf8.{opens, spells, utf8}
use Rattle.texts.specs.Texts.{octets_in, led_in}
use Rattle.texts.specs.Cases.{asked, each, cases}

pub all_answer : each asked cases ≡ each (λ c. c.answer) cases
unfolding be part number_in opens spells utf8 octets_in led_in
all_answer = refl
