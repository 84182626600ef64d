-- The lines of a listing, one for a header, an element or a refusal, as octets. One space stands before every field of a line but the first word.
use Rattle.std.specs.Prelude.{ℕ, List, ◌++◌, length, ℤ}
use Rattle.octets.specs.Writing.{images}
use Rattle.kinds.specs.Kinds as kinds
use Rattle.kinds.specs.declared.Value.{Value}
use Rattle.rows.specs.Row.{Field, Row}
use Rattle.elements.specs.Element.{Element, item, layout, row, finish}
use Rattle.kinds.specs.Values.{value_of, octets_of}
use Rattle.printing.specs.Text.{spelt, showing, decimal, signed, refusal}
use Rattle.printing.specs.Values.{value_by}
use Rattle.printing.specs.declared.Show.TheVariants.{Hex, Escaped}
use Rattle.dates.specs.Times.{time_text}

-- The version and the start time.
abbrev pub header_text : ℤ → List ℕ
header_text start = spelt "document 4 " ++ (time_text start ++ spelt "\n")

-- A word that says what an element is, its place and a layout's number, which is signed.
abbrev pub numbered : List ℕ → ℕ → ℕ → List ℕ
numbered word at number = (word ++ decimal at) ++ (spelt " " ++ signed (kinds.signed 4 number))

-- A string: "=" and its octets, with escapes. HexBinary: "x" and the hex digits of its octets.
abbrev pub string_text : List ℕ → List ℕ
string_text xs = spelt "=" ++ showing Escaped xs

abbrev pub octets_text : List ℕ → List ℕ
octets_text xs = spelt "x" ++ showing Hex xs

-- A value and the octets beside it: those of hexBinary and of a string, else the value itself.
abbrev pub word_text : Value → List ℕ → List ℕ
word_text v xs = value_by (octets_text xs) (string_text xs) v

abbrev pub field_text : Field → List ℕ
field_text f = spelt " " ++ word_text (value_of f.attribute.kind.basic f.value) (octets_of f.value)

-- Place, number, type name and attribute count.
abbrev pub layout_text : ℕ → ℕ → List ℕ → ℕ → List ℕ
layout_text at number name count =
    numbered (spelt "layout ") at number ++ ((spelt " " ++ string_text name) ++ ((spelt " " ++ decimal count) ++ spelt "\n"))

-- Place, number and values.
abbrev pub row_text : ℕ → Row → List ℕ
row_text at r = numbered (spelt "row ") at r.number ++ (images field_text r.fields ++ spelt "\n")

-- Place, count and end time.
abbrev pub end_text : ℕ → ℕ → ℤ → List ℕ
end_text at count time = (spelt "end " ++ decimal at) ++ ((spelt " " ++ decimal count) ++ (spelt " " ++ (time_text time ++ spelt "\n")))

-- Number and place, as the last line.
abbrev pub refusal_text : ℕ → ℕ → List ℕ
refusal_text n p = refusal n p ++ spelt "\n"

-- The line of an element at a place.
abbrev pub element_text : ℕ → Element → List ℕ
element_text at (item (layout l)) = layout_text at l.number l.type_name (length l.attributes)
element_text at (item (row r)) = row_text at r
element_text at (finish n t) = end_text at n (kinds.signed 8 t)
