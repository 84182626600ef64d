-- A row: the number of its layout, whether its length was stated, and its fields.
use Rattle.std.specs.Prelude.{ℕ, ◌+◌, ◌≡◌, List, [], ◌∷◌, ◌++◌, Bool, true, false, length, leb, ltb, eqb}
use Rattle.std.proofs.Math.Option.{Option, some, none}
use Rattle.octets.specs.Reading.{Read, ok, no, ◌then◌, choose, number}
use Rattle.octets.specs.Writing.{word, images}
use Rattle.octets.specs.declared.Room.{Room}
use Rattle.octets.specs.declared.Room.TheVariants.{Document, Stated}
use Rattle.kinds.specs.Kinds.{form_of}
use Rattle.kinds.specs.Forms.{Value, value_in, value_image, GoodValue}
use Rattle.layouts.specs.Layout.{Layout, Attribute}
use Rattle.layouts.specs.Book.{Book, find}

-- A field: its name and type, which the layout gives, and its value.
pub record Field : Type 0 where
  pub attribute : Attribute
  pub value : Value

pub record Row : Type 0 where
  pub number : ℕ
  pub is_stated : Bool
  pub fields : List Field

-- The values in layout order, each with its attribute.
unfoldable pub fields_in : Room → List Attribute → List ℕ → ℕ → Read (List Field)
fields_in room [] s at = ok [] at
fields_in room (a ∷ others) s at =
    value_in room (form_of a.kind) s at then λ v next.
    fields_in room others s next then λ rest end. ok (record { attribute = a; value = v } ∷ rest) end

-- The values of a stated row, from its length to the end that it states: 13 at the length where they do not reach just that end.
abbrev pub filled : List Attribute → List ℕ → ℕ → ℕ → Read (List Field)
filled attributes s length_at end =
    fields_in (Stated end length_at) attributes s (length_at + 4) then λ fields last.
    choose (eqb last end) (λ _. ok fields last) (λ _. no 13 length_at)

-- The values behind a row's length. FF FF FF FF is unstated; any other length is just the octets of the values; one that passes the document's end is 1 at the length.
unfoldable pub values_at : List Attribute → List ℕ → ℕ → ℕ → Read (List Field)
values_at attributes s length_at size =
    choose (eqb size 0xffffffff) (λ _. fields_in Document attributes s (length_at + 4))
    (λ _. choose (leb (length_at + 4 + size) (length s)) (λ _. filled attributes s length_at (length_at + 4 + size)) (λ _. no 1 length_at))

-- A row of a layout that was looked up: 12 at its number where there is none, before the length is read.
abbrev pub named : List ℕ → ℕ → ℕ → ℕ → Option Layout → Read Row
named s at n length_at none = no 12 at
named s at n length_at (some l) =
    number 4 s length_at then λ size _.
    values_at l.attributes s length_at size then λ fields end.
    ok (record { number = n; is_stated = ltb size 0xffffffff; fields = fields }) end

-- A row from its layout's number on, over a book.
unfoldable pub row_at : Book → List ℕ → ℕ → Read Row
row_at book s at = number 4 s at then λ n length_at. named s at n length_at (find n book)

unfoldable pub field_image : Field → List ℕ
field_image f = value_image (form_of f.attribute.kind) f.value

-- A row's length: that of its values, or FF FF FF FF where it is unstated.
abbrev pub length_image : Bool → ℕ → List ℕ
length_image true n = word 4 n
length_image false n = word 4 0xffffffff

-- A row's image from its layout's number on.
unfoldable pub row_image : Row → List ℕ
row_image r = word 4 r.number ++ length_image r.is_stated (length (images field_image r.fields)) ++ images field_image r.fields

-- Fields that are a layout's, in its order.
abbrev pub FieldsOf : List Attribute → List Field → Type 0
FieldsOf [] [] = Unit {0}
FieldsOf [] (f ∷ fs) = ⊥
FieldsOf (a ∷ rest) [] = ⊥
FieldsOf (a ∷ rest) (f ∷ fs) = (f.attribute ≡ a) × GoodValue (form_of a.kind) f.value × FieldsOf rest fs
