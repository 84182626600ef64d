-- Every listed refusal number of a question is given, for an input that antt runs; but 2 takes a document too long to lay out, and is by its length. Assumes nothing.
use Prim.Native.Nat.{ℕ}
use mathlib.Core.Path.{◌≡◌, ap}
use mathlib.Core.List.{List, [], ◌∷◌, ◌++◌}
use lib.ListN.{length, set}
use borrow.Author.Tests.{lt-leb}
use Rattle.octets.specs.Limits.{longest}
use Rattle.octets.specs.Reading.{Read, no, be, part, number_in, count, exactly, run}
use Rattle.octets.specs.Writing.{word, images}
use Rattle.kinds.specs.Kinds.{among, basic_of, kind_at}
use Rattle.layouts.specs.Layout.{Attribute, Layout, attribute_at, layout_at, attribute_image, layout_image}
use Rattle.layouts.specs.Book.{find, book_image, layouts_at, book_of, learn}
use Rattle.rows.specs.Row.{Field, fields_in, values_at, row_at}
use Rattle.kinds.specs.Forms.{value_in}
use Rattle.headers.specs.Header.{Namespace, namespace_at, id_at, header_from, header_at}
use Rattle.elements.specs.Element.{element_at}
use Rattle.elements.specs.Steps.{lent_book}
use Rattle.octets.specs.Asked.{nth}
use Rattle.utf8.specs.Utf8.{opens, spells, utf8}
use Rattle.texts.specs.Texts.{octets_in, led_in, led_image}
use Rattle.questions.specs.Questions.{kind_asked, book_asked, row_asked, field_asked, layout_asked, attribute_asked}
use Rattle.header_questions.specs.Questions.{namespace_asked, service_asked}
use Rattle.promises.specs.Specimen.{specimen, layout_book, empty_book}
use Rattle.promises.specs.Refusals.{refusal_of, refusals_of, Inputs}
use Rattle.promises.proofs.Given.{layouts, long, too_long, header_long}
use Rattle.promises_questions.specs.Numbers.{field_numbers, layout_numbers, attribute_numbers, listed_numbers, Indexed, Listed, Numbers}
use Rattle.promises_questions.proofs.RunNumbers.{run_gives}
use Rattle.promises_questions.proofs.Asked.{field_asked_lem, layout_asked_lem, attribute_asked_lem, namespace_asked_lem, service_asked_lem}

field_long : field_asked long 0 0 [] 0 0 ≡ no 2 0
unfolding field_asked row_asked book_asked lent_book
field_long = rw (lt-leb (length long) longest too_long)

layout_long : layout_asked long 0 0 [] 0 ≡ no 2 0
unfolding layout_asked book_asked lent_book
layout_long = rw (lt-leb (length long) longest too_long)

attribute_long : attribute_asked long 0 0 [] 0 0 ≡ no 2 0
unfolding attribute_asked
attribute_long = rw layout_long

namespace_long : namespace_asked long 0 ≡ no 2 0
unfolding namespace_asked
namespace_long = rw header_long

service_long : service_asked long 0 ≡ no 2 0
unfolding service_asked
service_long = rw header_long

-- A document at a place, over an empty book, the book with the specimen's layout, or no book.
abbrev bare : List ℕ → ℕ → Inputs
bare s at = record { document = s; place = at; rows = 0; octets = empty_book; used = 0 }

abbrev booked : List ℕ → ℕ → Inputs
booked s at = record { document = s; place = at; rows = 0; octets = layout_book; used = 31 }

abbrev unlent : List ℕ → ℕ → Inputs
unlent s at = record { document = s; place = at; rows = 0; octets = []; used = 0 }

abbrev first : Inputs → Indexed
first i = record { step = i; index = 0 }

field_inputs : List Indexed
field_inputs =
    first (bare specimen 137) ∷ first (unlent long 0) ∷ first (bare specimen 0) ∷ first (bare specimen 87) ∷ first (booked (set specimen 98 6) 87)
    ∷ first (record { document = specimen; place = 87; rows = 0; octets = set layout_book 30 0x29; used = 31 }) ∷ first (unlent specimen 87)
    ∷ record { step = booked specimen 87; index = 2 } ∷ first (bare specimen 52)
    ∷ first (record { document = set (set specimen 119 1) 120 0xe9; place = 104; rows = 0; octets = set layout_book 21 0x28; used = 31 }) ∷ []

abbrev field : Indexed → Read Field
field i = field_asked i.step.document i.step.place i.step.rows i.step.octets i.step.used i.index

field_each : refusals_of field field_inputs ≡ field_numbers
unfolding field_inputs specimen layout_book empty_book be part number_in opens spells utf8 octets_in led_in count run among basic_of kind_at attribute_at layout_at find layouts_at book_of value_in fields_in values_at row_at element_at lent_book kind_asked book_asked nth row_asked field_asked
field_each = ap (λ (r : Read Field). 1 ∷ refusal_of r ∷ 7 ∷ 12 ∷ 13 ∷ 14 ∷ 17 ∷ 18 ∷ 19 ∷ 24 ∷ []) field_long

layout_inputs : List Inputs
layout_inputs =
    bare specimen 137 ∷ unlent long 0 ∷ bare (set specimen 68 65) 52 ∷ bare specimen 0 ∷ bare (set specimen 77 0x20) 52 ∷ bare (set specimen 74 0x80) 52
    ∷ booked (set specimen 64 0x42) 52 ∷ record { document = specimen; place = 52; rows = 0; octets = layouts [] 64 ++ empty_book; used = 768 } ∷ unlent specimen 52
    ∷ bare specimen 87 ∷ bare (set specimen 64 0xe9) 52 ∷ []

abbrev layout : Inputs → Read Layout
layout i = layout_asked i.document i.place i.rows i.octets i.used

layout_each : refusals_of layout layout_inputs ≡ layout_numbers
unfolding layout_inputs specimen layout_book empty_book be part number_in opens spells utf8 octets_in led_in count run word led_image images among basic_of kind_at attribute_at layout_at attribute_image layout_image find book_image layouts_at book_of learn element_at lent_book kind_asked book_asked layout_asked
layout_each = ap (λ (r : Read Layout). 1 ∷ refusal_of r ∷ 4 ∷ 7 ∷ 8 ∷ 9 ∷ 10 ∷ 11 ∷ 17 ∷ 19 ∷ 24 ∷ []) layout_long

abbrev attribute : Indexed → Read Attribute
attribute i = attribute_asked i.step.document i.step.place i.step.rows i.step.octets i.step.used i.index

-- The layout's inputs for its first attribute, behind the third of two.
abbrev firsts : List Inputs → List Indexed
firsts [] = []
firsts (i ∷ rest) = first i ∷ firsts rest

attribute_inputs : List Indexed
attribute_inputs = record { step = bare specimen 52; index = 2 } ∷ firsts layout_inputs

attribute_each : refusals_of attribute attribute_inputs ≡ attribute_numbers
unfolding attribute_inputs layout_inputs specimen layout_book empty_book be part number_in opens spells utf8 octets_in led_in count run word led_image images among basic_of kind_at attribute_at layout_at attribute_image layout_image find book_image layouts_at book_of learn element_at lent_book kind_asked book_asked nth layout_asked attribute_asked
attribute_each = ap (λ (r : Read Attribute). 18 ∷ 1 ∷ refusal_of r ∷ 4 ∷ 7 ∷ 8 ∷ 9 ∷ 10 ∷ 11 ∷ 17 ∷ 19 ∷ 24 ∷ []) attribute_long

listed_inputs : List Listed
listed_inputs =
    record { document = specimen; index = 0 } ∷ record { document = []; index = 0 } ∷ record { document = long; index = 0 } ∷ record { document = set specimen 3 3; index = 0 }
    ∷ record { document = set specimen 23 17; index = 0 } ∷ record { document = set specimen 31 15; index = 0 } ∷ record { document = set specimen 51 0; index = 0 }
    ∷ record { document = set (set specimen 7 1) 8 0xe9; index = 0 } ∷ []

namespace_each : refusals_of (λ (i : Listed). namespace_asked i.document i.index) listed_inputs ≡ listed_numbers
unfolding listed_inputs specimen be part number_in opens spells utf8 octets_in led_in count exactly run namespace_at id_at header_from header_at nth namespace_asked
namespace_each = ap (λ (r : Read Namespace). 18 ∷ 1 ∷ refusal_of r ∷ 3 ∷ 4 ∷ 5 ∷ 6 ∷ 24 ∷ []) namespace_long

service_each : refusals_of (λ (i : Listed). service_asked i.document i.index) listed_inputs ≡ listed_numbers
unfolding listed_inputs specimen be part number_in opens spells utf8 octets_in led_in count exactly run namespace_at id_at header_from header_at nth service_asked
service_each = ap (λ (r : Read (List ℕ)). 18 ∷ 1 ∷ refusal_of r ∷ 3 ∷ 4 ∷ 5 ∷ 6 ∷ 24 ∷ []) service_long

pub numbers : Numbers
numbers =
    record {
      run = run_gives;
      field = record {
        only = λ i. field_asked_lem i.step.document i.step.place i.step.rows i.step.octets i.step.used i.index;
        inputs = field_inputs;
        each = field_each;
      };
      layout = record { only = λ i. layout_asked_lem i.document i.place i.rows i.octets i.used; inputs = layout_inputs; each = layout_each };
      attribute = record {
        only = λ i. attribute_asked_lem i.step.document i.step.place i.step.rows i.step.octets i.step.used i.index;
        inputs = attribute_inputs;
        each = attribute_each;
      };
      namespace = record { only = λ i. namespace_asked_lem i.document i.index; inputs = listed_inputs; each = namespace_each };
      service = record { only = λ i. service_asked_lem i.document i.index; inputs = listed_inputs; each = service_each };
    }
