-- Every script answers and leaves what it says: the definition is run. Assumes nothing.
use mathlib.Core.Path.{◌≡◌, refl}
use mathlib.Core.Bool.{true}
use Rattle.octets.specs.Reading.{be, part, number_in, count, run}
use Rattle.octets.specs.Writing.{word, images, over}
use Rattle.utf8.specs.Utf8.{opens, spells, utf8}
use Rattle.texts.specs.Texts.{octets_in, led_in, led_image}
use Rattle.kinds.specs.Kinds.{among, basic_of, kind_at}
use Rattle.layouts.specs.Layout.{attribute_at, layout_at, attribute_image, layout_image}
use Rattle.layouts.specs.Book.{find, layouts_at, book_of, book_in}
use Rattle.writer.specs.Writer.{room, bounded, row_layout, does, layout_so_far, fault_of, deed_answer, call}
use Rattle.writer.specs.Cases.{play, plays, scripts}

pub all_play : plays scripts ≡ true
unfolding be part number_in opens spells utf8 octets_in led_in count run word led_image images over among basic_of kind_at attribute_at layout_at attribute_image layout_image find layouts_at book_of book_in room bounded row_layout does layout_so_far fault_of deed_answer call play plays scripts
all_play = refl
