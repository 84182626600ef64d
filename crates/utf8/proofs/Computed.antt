-- Every string that was tried gets its answer: one statement, which antt computes. Assumes nothing.
use mathlib.Core.Path.{◌≡◌, refl}
use Rattle.octets.specs.Writing.{word}
use Rattle.utf8.specs.Utf8.{opens, spells, utf8}
use Rattle.utf8.specs.Cases.{cases, each}

pub all_hold : each (λ c. utf8 c.octets) cases ≡ each (λ c. c.answer) cases
unfolding word opens spells utf8
all_hold = refl
