-- What is found of a row over the octets of a book: the places of its parts, or its refusal. Each is told of a reading, which is the one asked for.
use Rattle.std.specs.Prelude.{ℕ, ◌+◌, ◌≤◌, ◌≡◌, List, ◌∷◌, Bool, true, false, length, drop, Result, Ok, Err}
use Rattle.octets.specs.Limits.{longest, book_room}
use Rattle.octets.specs.Reading.{Read, ok, no, ◌then◌}
use Rattle.octets.specs.Asked.{nth}
use Rattle.octets.specs.declared.Refused.{Refused}
use Rattle.octets.specs.declared.Room.TheVariants.{Stated}
use Rattle.kinds.specs.declared.Basic.{Basic}
use Rattle.kinds.specs.declared.Form.{Form}
use Rattle.kinds.specs.declared.Form.TheVariants as form
use Rattle.kinds.specs.Kinds.{form_by, form_of}
use Rattle.layouts.specs.Layout.{Attribute, Layout, attribute_at, layout_at}
use Rattle.layouts.specs.Book.{Book}
use Rattle.layouts.specs.Answers.{Holds}
use Rattle.rows.specs.Row.{Field, Row, fields_in, row_at}
use Rattle.kinds.specs.Forms.{Value, value_in}
use Rattle.row_fields.specs.declared.Lined.{Lined}
use Rattle.row_fields.specs.declared.Spot.{Spot}

-- A kind inside a document that is not too long, and octets that are a book.
pub record Open (s : List ℕ) (at : ℕ) (book : List ℕ) : Type 0 where
  pub room : at + 4 ≤ length s
  pub short : length s ≤ longest
  pub small : length book ≤ book_room
  pub holds : Holds book

-- Field n of the row whose kind stands at a place, with the name and type that the book gives. 18, at the kind: it has none.
unfoldable pub field_over : Book → List ℕ → ℕ → ℕ → Read Field
field_over book s at n = row_at book s (at + 4) then λ r next. nth n at r.fields next

-- A row that was read over the used octets of a book: its layout's place there, its count of fields, and its values, which reach from one place to another.
pub record Line (s book : List ℕ) (read : Read Row) (place count first end : ℕ) : Type 0 where
  pub row : Row
  pub layout : Layout
  pub last : ℕ
  pub is : read ≡ ok row end
  pub stands : layout_at book place ≡ ok layout last
  pub counts : length layout.attributes ≡ count
  pub fields : fields_in (Stated end 0) layout.attributes s first ≡ ok row.fields end
  pub later : first ≤ end
  pub inside : end ≤ length s
  pub short : length s ≤ longest
  pub small : length book ≤ book_room

abbrev pub Lines : List ℕ → List ℕ → Read Row → Result Lined Refused → Type 0
Lines s book read (Ok l) = Line s book read l.place l.count l.first l.end
Lines s book read (Err r) = read ≡ no r.number r.place

-- The value of the field of an index stands at a place, and the field's attribute is that of the index.
pub record NthField (s : List ℕ) (end : ℕ) (attributes : List Attribute) (fields : List Field) (n p : ℕ) : Type 0 where
  pub field : Field
  pub rest : List Field
  pub more : List Attribute
  pub next : ℕ
  pub is : drop n fields ≡ field ∷ rest
  pub names : drop n attributes ≡ field.attribute ∷ more
  pub reads : value_in (Stated end 0) (form_of field.attribute.kind) s p ≡ ok field.value next

-- A value of a basic type that stands at a place.
pub record Stood (s : List ℕ) (basic : Basic) (at : ℕ) : Type 0 where
  pub value : Value
  pub end : ℕ
  pub next : ℕ
  pub inside : end ≤ length s
  pub reads : value_in (Stated end 0) (form_by basic) s at ≡ ok value next

-- A field that was asked for: its attribute's place in the used octets of a book, and its value's in the document.
pub record Spotted (s book : List ℕ) (read : Read Field) (attribute value : ℕ) : Type 0 where
  pub field : Field
  pub next : ℕ
  pub end : ℕ
  pub last : ℕ
  pub after : ℕ
  pub is : read ≡ ok field next
  pub names : attribute_at book attribute ≡ ok field.attribute last
  pub reads : value_in (Stated end 0) (form_of field.attribute.kind) s value ≡ ok field.value after
  pub inside : end ≤ length s
  pub short : length s ≤ longest
  pub small : length book ≤ book_room

abbrev pub Spots : List ℕ → List ℕ → Read Field → Result Spot Refused → Type 0
Spots s book read (Ok p) = Spotted s book read p.attribute p.value
Spots s book read (Err r) = read ≡ no r.number r.place

-- Whether values of a form are octets behind a length.
abbrev pub is_held : Form → Bool
is_held (form.Fixed w) = false
is_held form.Truth = false
is_held (form.Led rule) = true
