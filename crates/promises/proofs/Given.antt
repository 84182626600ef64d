-- Every listed refusal number is given, for an input that antt runs; but 2 takes a document too long to lay out, and is by its length. Assumes nothing.
use Prim.Native.Nat.{ℕ, zero, suc, ◌+◌, ◌<◌}
use mathlib.Core.Path.{◌≡◌, sym, ap, subst}
use mathlib.Core.List.{List, [], ◌∷◌, ◌++◌}
use lib.ListN.{length, take, set, replicate, length-replicate}
use lib.Dec.{lit<}
use borrow.Author.Tests.{lt-leb}
use Rattle.octets.specs.Limits.{longest}
use Rattle.octets.specs.Reading.{Read, no, be, part, number_in, count, exactly, run}
use Rattle.octets.specs.Writing.{word, images}
use Rattle.utf8.specs.Utf8.{opens, spells, utf8}
use Rattle.texts.specs.Texts.{octets_in, led_in, led_image}
use Rattle.kinds.specs.Kinds.{among, basic_of, kind_at}
use Rattle.layouts.specs.Layout.{attribute_at, layout_at, attribute_image, layout_image}
use Rattle.layouts.specs.Book.{find, book_image, layouts_at, book_of, learn}
use Rattle.rows.specs.Row.{fields_in, values_at, row_at}
use Rattle.kinds.specs.Forms.{value_in}
use Rattle.headers.specs.Header.{Header, namespace_at, id_at, header_from, header_at}
use Rattle.elements.specs.Element.{Stepped, finish_at, element_at}
use Rattle.elements.specs.Steps.{lent_book, step_at}
use Rattle.elements.specs.Walk.{walk, through}
use Rattle.elements.specs.Reading.{reading, whole}
use Rattle.promises.specs.Specimen.{specimen, layout_book, empty_book}
use Rattle.promises.specs.Refusals.{refusal_of, refusals_of, header_numbers, element_numbers, step_numbers, whole_numbers, Inputs, Refusals}
use Rattle.promises.proofs.Numbers.{header_only, step_only, whole_only}

-- So many layouts of different numbers, as a book holds them, each behind some octets.
abbrev pub layouts : List ℕ → ℕ → List ℕ
layouts kind zero = []
layouts kind (suc k) = kind ++ (0 ∷ 0 ∷ 0 ∷ (100 + k) ∷ 0 ∷ 0 ∷ 0 ∷ 0 ∷ 0 ∷ 0 ∷ 0 ∷ 0 ∷ layouts kind k)

-- A document over the limit: not laid out.
pub zeros : ℕ → List ℕ
zeros n = replicate n 0

long_zeros : (n : ℕ) → length (zeros n) ≡ n
unfolding zeros
long_zeros n = length-replicate n 0

abbrev pub long : List ℕ
long = zeros 1048577

pub too_long : longest < length long
too_long = subst (λ (n : ℕ). longest < n) (sym (long_zeros 1048577)) (lit< tt)

pub header_long : header_at long ≡ no 2 0
unfolding header_at
header_long = rw (lt-leb (length long) longest too_long)

step_long : step_at long 0 0 [] 0 ≡ no 2 0
unfolding step_at lent_book
step_long = rw (lt-leb (length long) longest too_long)

whole_long : whole long ≡ no 2 0
unfolding whole reading
whole_long = rw header_long

header_inputs : List (List ℕ)
header_inputs = [] ∷ long ∷ set specimen 3 3 ∷ set specimen 23 17 ∷ set specimen 31 15 ∷ set specimen 51 0 ∷ set (set specimen 7 1) 8 0xe9 ∷ []

header_each : refusals_of header_at header_inputs ≡ header_numbers
unfolding header_inputs specimen be part number_in opens spells utf8 octets_in led_in count exactly run namespace_at id_at header_from header_at
header_each = ap (λ (r : Read Header). 1 ∷ refusal_of r ∷ 3 ∷ 4 ∷ 5 ∷ 6 ∷ 24 ∷ []) header_long

abbrev step : Inputs → Read Stepped
step i = step_at i.document i.place i.rows i.octets i.used

step_inputs : List Inputs
step_inputs =
    record { document = long; place = 0; rows = 0; octets = []; used = 0 }
    ∷ record { document = specimen; place = 52; rows = 0; octets = []; used = 0 }
    ∷ record { document = specimen; place = 137; rows = 0; octets = empty_book; used = 0 }
    ∷ record { document = set specimen 68 65; place = 52; rows = 0; octets = empty_book; used = 0 }
    ∷ record { document = specimen; place = 0; rows = 0; octets = empty_book; used = 0 }
    ∷ record { document = set specimen 77 0x20; place = 52; rows = 0; octets = empty_book; used = 0 }
    ∷ record { document = set specimen 74 0x80; place = 52; rows = 0; octets = empty_book; used = 0 }
    ∷ record { document = set specimen 64 0x42; place = 52; rows = 0; octets = layout_book; used = 31 }
    ∷ record { document = specimen; place = 52; rows = 0; octets = layouts [] 64 ++ empty_book; used = 768 }
    ∷ record { document = specimen; place = 87; rows = 0; octets = empty_book; used = 0 }
    ∷ record { document = set specimen 98 6; place = 87; rows = 0; octets = layout_book; used = 31 }
    ∷ record { document = specimen; place = 87; rows = 0; octets = set layout_book 30 0x29; used = 31 }
    ∷ record { document = specimen; place = 121; rows = 0; octets = empty_book; used = 0 }
    ∷ record { document = specimen ++ 0 ∷ []; place = 121; rows = 2; octets = empty_book; used = 0 }
    ∷ record { document = set specimen 64 0xe9; place = 52; rows = 0; octets = empty_book; used = 0 }
    ∷ []

step_each : refusals_of step step_inputs ≡ step_numbers
unfolding step_inputs specimen layout_book empty_book be part number_in opens spells utf8 octets_in led_in count exactly run word led_image images among basic_of kind_at attribute_at layout_at attribute_image layout_image find book_image layouts_at book_of learn value_in fields_in values_at row_at finish_at element_at lent_book step_at
step_each = ap (λ (r : Read Stepped). refusal_of r ∷ 17 ∷ element_numbers) step_long

whole_inputs : List (List ℕ)
whole_inputs =
    [] ∷ long ∷ set specimen 3 3 ∷ set specimen 23 17 ∷ set specimen 31 15 ∷ set specimen 51 0 ∷ set specimen 55 4 ∷ set specimen 77 0x20
    ∷ set specimen 74 0x80 ∷ (take 87 specimen ++ set (part specimen 52 35) 12 0x42) ∷ (take 52 specimen ++ layouts (0 ∷ 0 ∷ 0 ∷ 1 ∷ []) 65)
    ∷ set specimen 94 8 ∷ set specimen 98 6 ∷ set specimen 86 0x29 ∷ set specimen 128 3 ∷ (specimen ++ 0 ∷ []) ∷ set specimen 64 0xe9 ∷ []

whole_each : refusals_of whole whole_inputs ≡ whole_numbers
unfolding whole_inputs specimen be part number_in opens spells utf8 octets_in led_in count exactly run word led_image images among basic_of kind_at attribute_at layout_at attribute_image layout_image find book_image learn value_in fields_in values_at row_at namespace_at id_at header_from header_at finish_at element_at walk through reading whole
whole_each = ap (λ (r : Read ℕ). 1 ∷ refusal_of r ∷ 3 ∷ 4 ∷ 5 ∷ 6 ∷ 7 ∷ 8 ∷ 9 ∷ 10 ∷ 11 ∷ 12 ∷ 13 ∷ 14 ∷ 15 ∷ 16 ∷ 24 ∷ []) whole_long

pub refusals : Refusals
refusals =
    record {
      header = record { only = header_only; inputs = header_inputs; each = header_each };
      step = record { only = λ i. step_only i.document i.place i.rows i.octets i.used; inputs = step_inputs; each = step_each };
      check = record { only = whole_only; inputs = whole_inputs; each = whole_each };
    }
