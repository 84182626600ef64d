-- What the answers about a row's values say.
use Rattle.std.specs.Prelude.{ℕ, ◌+◌, ◌≤◌, ◌≡◌, List, Bool, length, eqb, Result, Ok, Err}
use Rattle.octets.specs.Reading.{Read, ok, no, choose, run}
use Rattle.octets.specs.declared.Room.{Room}
use Rattle.octets.specs.declared.Room.TheVariants.{Document, Stated}
use Rattle.octets.specs.declared.Refused.{Refused}
use Rattle.layouts.specs.Layout.{Attribute, attribute_at}
use Rattle.rows.specs.Row as row
use Rattle.rows.specs.declared.RowEnd.{RowEnd}

-- So many attributes stand at a place.
pub record Attributes (s : List ℕ) (k p : ℕ) : Type 0 where
  pub list : List Attribute
  pub end : ℕ
  pub reads : run (attribute_at s) k p ≡ ok list end

-- How far the values behind a length at a place may reach, and what their end is to it: 13 at a stated length that they do not fill.
abbrev pub length_room : ℕ → ℕ → Room
length_room length_at size = choose (eqb size 0xffffffff) (λ _. Document) (λ _. Stated (length_at + 4 + size) length_at)

abbrev pub fills : Room → ℕ → Result ℕ Refused
fills Document p = Ok p
fills (Stated end length_at) p = choose (eqb p end) (λ _. Ok p) (λ _. Err (record { number = 13; place = length_at }))

-- What an element says of a row: whether its length was stated, and how many fields it has.
pub record Shape : Type 0 where
  pub is_stated : Bool
  pub count : ℕ

abbrev pub shape : Read row.Row → Read Shape
shape (ok r end) = ok (record { is_stated = r.is_stated; count = length r.fields }) end
shape (no n p) = no n p

abbrev pub row_says : Result RowEnd Refused → Read Shape
row_says (Ok r) = ok (record { is_stated = r.stated; count = r.count }) r.next
row_says (Err r) = no r.number r.place

abbrev pub RowWithin : ℕ → Result RowEnd Refused → ℕ → Type 0
RowWithin at (Ok r) end = (at ≤ r.next) × (r.next ≤ end)
RowWithin at (Err r) end = Unit {0}
