-- Every case marked as proved gets its answer: one statement, which antt computes. Assumes nothing.
use mathlib.Core.Path.{◌≡◌, refl}
use Rattle.octets.specs.Reading.{be, part, number_in, count, exactly, run}
use Rattle.octets.specs.Writing.{word, images}
use Rattle.kinds.specs.Kinds.{among, basic_of, signed, kind_at}
use Rattle.layouts.specs.Layout.{attribute_at, layout_at, attribute_image, layout_image}
use Rattle.layouts.specs.Book.{find, book_image, layouts_at, book_of, learn}
use Rattle.rows.specs.Row.{fields_in, values_at, row_at}
use Rattle.kinds.specs.Forms.{value_in}
use Rattle.headers.specs.Header.{namespace_at, id_at, header_from, header_at}
use Rattle.elements.specs.Element.{finish_at, element_at}
use Rattle.elements.specs.Steps.{lent_book}
use Rattle.elements.specs.Walk.{walk, through}
use Rattle.elements.specs.Reading.{reading_from, reading, whole}
use Rattle.octets.specs.Asked.{nth}
use Rattle.utf8.specs.Utf8.{opens, spells, utf8}
use Rattle.texts.specs.Texts.{octets_in, led_in, led_image}
use Rattle.questions.specs.Questions.{kind_asked, book_asked, row_asked, field_asked}
use Rattle.promises.specs.Specimen.{specimen, shorts, layout_book, short_book, empty_book}
use Rattle.promises_questions.specs.Cases.{cases, asks, expects}

pub all_hold : asks cases ≡ expects cases
unfolding specimen shorts layout_book short_book empty_book be part number_in opens spells utf8 octets_in led_in count exactly run word led_image images among basic_of signed kind_at attribute_at layout_at attribute_image layout_image find
    book_image layouts_at book_of learn value_in fields_in values_at row_at namespace_at id_at header_from header_at finish_at element_at lent_book walk through reading_from reading whole kind_asked book_asked nth row_asked field_asked
all_hold = refl
