-- The scope's cases that are marked as proved, as the rows of one list: each asks something of the specimen or of a change to it, and has the answer it must get.
use Rattle.std.specs.Prelude.{ℕ, List, [], ◌∷◌, ◌++◌, Bool, true, false, take, set, ℤ, negsuc, Result, Ok}
use Rattle.octets.specs.Reading.{Read, ok, no, ◌then◌}
use Rattle.octets.specs.declared.Refused.{Refused}
use Rattle.kinds.specs.declared.Basic.{Basic}
use Rattle.kinds.specs.declared.Basic.TheVariants.{UnsignedInt, Byte, Short}
use Rattle.kinds.specs.Kinds.{signed}
use Rattle.layouts.specs.Layout.{Attribute}
use Rattle.kinds.specs.Forms.{bits}
use Rattle.elements.specs.Element.{layout, row, item, finish}
use Rattle.elements.specs.Reading.{Placed, reading_from, reading, whole}
use Rattle.questions.specs.Questions.{field_asked}
use Rattle.questions.specs.Answers.{field_tells}
use Rattle.questions.specs.declared.TypedValue.{TypedValue}
use Rattle.kinds.specs.declared.Value.TheVariants as value
use Rattle.promises.specs.Specimen.{specimen, shorts, layout_book, short_book, empty_book}

-- What a case asks.
pub data Asked : Type 0 where
  -- The whole check of a document.
  check : List ℕ → Asked
  -- The elements of its reading from the first octet.
  read : List ℕ → Asked
  -- Those from a place, told the rows before it, over lent octets and how many of them are used.
  resume : List ℕ → ℕ → ℕ → List ℕ → ℕ → Asked
  -- Field n of the row at a place, from a step's inputs.
  field : List ℕ → ℕ → ℕ → List ℕ → ℕ → ℕ → Asked
  -- The signed number that bits in so many octets are.
  sign : ℕ → ℕ → Asked

-- What it is answered: a row count, elements with all that they hold, each with the next place or refused by number and place; a field's type and value; or a number.
pub data Answer : Type 0 where
  rows : Read ℕ → Answer
  elements : Read (List Placed) → Answer
  field_is : Result TypedValue Refused → Answer
  number : ℤ → Answer

abbrev pub answers : Asked → Answer
answers (check s) = rows (whole s)
answers (read s) = elements (reading s then λ r end. ok r.elements end)
answers (resume s at passed octets used) = elements (reading_from s at passed octets used)
answers (field s at passed octets used n) = field_is (field_tells (field_asked s at passed octets used n))
answers (sign w n) = number (signed w n)

pub record Case : Type 0 where
  pub asked : Asked
  pub answer : Answer

-- The elements as listed: "u" is an unsignedInt, "d" of a type given.
abbrev u : Attribute
u = record { name = 0x75 ∷ []; kind = record { derived = 0; basic = UnsignedInt } }

abbrev d : Basic → Attribute
d b = record { name = 0x64 ∷ []; kind = record { derived = 0; basic = b } }

abbrev layout_with : ℕ → Basic → Placed
layout_with at b = record { place = at; element = item (layout (record { number = 7; type_name = 0x41 ∷ []; attributes = u ∷ d b ∷ [] })) }

abbrev row_with : ℕ → Bool → Basic → ℕ → ℕ → Placed
row_with at is_stated b x y =
    record {
      place = at;
      element = item (row (record {
        number = 7;
        is_stated = is_stated;
        fields = record { attribute = u; value = bits x } ∷ record { attribute = d b; value = bits y } ∷ [];
      }));
    }

abbrev end_at : ℕ → Placed
end_at at = record { place = at; element = finish 2 86401 }

abbrev pub cases : List Case
cases =
    -- Unchanged: two rows, and the elements as listed.
    record { asked = check specimen; answer = rows (ok 2 137) }
    ∷ record { asked = read specimen; answer = elements (ok (layout_with 52 Byte ∷ row_with 87 true Byte 10 0xfe ∷ row_with 104 false Byte 0 127 ∷ end_at 121 ∷ []) 137) }
    -- Empty input.
    ∷ record { asked = check []; answer = rows (no 1 0) }
    -- Version 3.
    ∷ record { asked = check (set specimen 3 3); answer = rows (no 3 0) }
    -- The count at 125 is 3.
    ∷ record { asked = check (set specimen 128 3); answer = rows (no 15 125) }
    -- One octet more, and one less.
    ∷ record { asked = check (specimen ++ 0 ∷ []); answer = rows (no 16 137) }
    ∷ record { asked = check (take 136 specimen); answer = rows (no 1 129) }
    -- The number at 91 is 8.
    ∷ record { asked = check (set specimen 94 8); answer = rows (no 12 91) }
    -- The length at 95 is 6, or 4.
    ∷ record { asked = check (set specimen 98 6); answer = rows (no 13 95) }
    ∷ record { asked = check (set specimen 98 4); answer = rows (no 13 95) }
    -- The type at 74 is 00000020, 80000022, 00000922.
    ∷ record { asked = check (set specimen 77 0x20); answer = rows (no 8 74) }
    ∷ record { asked = check (set specimen 74 0x80); answer = rows (no 9 74) }
    ∷ record { asked = check (set specimen 76 9); answer = rows (ok 2 137) }
    -- From 104 with the layout in the book: 1 row passed, then 0; and with an empty book.
    ∷ record { asked = resume specimen 104 1 layout_book 31; answer = elements (ok (row_with 104 false Byte 0 127 ∷ end_at 121 ∷ []) 137) }
    ∷ record { asked = resume specimen 104 0 layout_book 31; answer = elements (no 15 125) }
    ∷ record { asked = resume specimen 104 1 empty_book 0; answer = elements (no 12 108) }
    -- Short FFFE is -2: where it stands, asked as a field, of the type 0000002c, and as a number; and the specimen's byte FE.
    ∷ record { asked = read shorts; answer = elements (ok (layout_with 52 Short ∷ row_with 87 true Short 10 0xfffe ∷ row_with 105 false Short 0 127 ∷ end_at 123 ∷ []) 139) }
    ∷ record { asked = field shorts 87 0 short_book 31 1; answer = field_is (Ok (record { kind = (d Short).kind; value = value.Short (negsuc 1) })) }
    ∷ record { asked = sign 2 0xfffe; answer = number (negsuc 1) }
    ∷ record { asked = field specimen 87 0 layout_book 31 1; answer = field_is (Ok (record { kind = (d Byte).kind; value = value.Byte (negsuc 1) })) }
    ∷ []

-- Every case gets its answer.
abbrev pub asks : List Case → List Answer
asks [] = []
asks (c ∷ rest) = answers c.asked ∷ asks rest

abbrev pub expects : List Case → List Answer
expects [] = []
expects (c ∷ rest) = c.answer ∷ expects rest
