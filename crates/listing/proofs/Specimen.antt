-- The lines that the scope has proved of the specimen, computed.
use mathlib.Core.Path.{refl}
use Rattle.octets.specs.Reading.{be, part, number_in, count, exactly, run}
use Rattle.octets.specs.Writing.{word, images}
use Rattle.utf8.specs.Utf8.{opens, spells, utf8}
use Rattle.texts.specs.Texts.{octets_in, led_in, led_image}
use Rattle.kinds.specs.Kinds.{among, basic_of, signed, kind_at}
use Rattle.layouts.specs.Layout.{attribute_at, layout_at, attribute_image, layout_image}
use Rattle.layouts.specs.Book.{find, book_image, learn}
use Rattle.rows.specs.Row.{fields_in, values_at, row_at}
use Rattle.kinds.specs.Forms.{value_in}
use Rattle.headers.specs.Header.{namespace_at, id_at, header_from, header_at}
use Rattle.elements.specs.Element.{finish_at, element_at}
use Rattle.elements.specs.Walk.{walk, through}
use Rattle.printing.specs.Text.{digits, filled}
use Rattle.dates.specs.Calendar.{year_days, month_days, span_of, date_after}
use Rattle.dates.specs.Times.{moment_text, time_text}
use Rattle.promises.specs.Specimen.{specimen, shorts}
use Rattle.listing.specs.Specimen.{Printed}

pub printed : Printed
unfolding specimen shorts be part number_in opens spells utf8 octets_in led_in count exactly run word led_image images among basic_of signed kind_at attribute_at layout_at
    attribute_image layout_image find book_image learn value_in fields_in values_at row_at namespace_at id_at header_from header_at finish_at element_at walk through
    digits filled year_days month_days span_of date_after moment_text time_text
printed = record { five = refl; rest = refl; short = refl }
