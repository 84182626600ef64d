-- One element: a kind, then a layout, a row or the end.
use Rattle.std.specs.Prelude.{ℕ, ◌+◌, List, length, eqb}
use Rattle.octets.specs.Reading.{Read, ok, no, ◌then◌, choose, number}
use Rattle.layouts.specs.Layout.{Layout, layout_at}
use Rattle.layouts.specs.Book.{Book, learn}
use Rattle.rows.specs.Row.{Row, row_at}

-- What stands before the end.
pub data Item : Type 0 where
  layout : Layout → Item
  row : Row → Item

-- An item, or the end with its count and the bits of its time.
pub data Element : Type 0 where
  item : Item → Element
  finish : ℕ → ℕ → Element

-- An element, with the rows passed and the book behind it.
pub record Stepped : Type 0 where
  pub element : Element
  pub rows : ℕ
  pub book : Book

-- The end from its count on. Refusal 15: the count is not that of the rows, before the time is read; 16: octets follow, at the first of them.
unfoldable pub finish_at : ℕ → List ℕ → ℕ → Read Element
finish_at rows s at =
    number 4 s at then λ n next.
    choose (eqb n rows)
    (λ _. number 8 s next then λ time end. choose (eqb end (length s)) (λ _. ok (finish n time) end) (λ _. no 16 end))
    (λ _. no 15 at)

-- A layout from its number on: its last type is read before it is learnt.
abbrev pub layout_element : List ℕ → ℕ → ℕ → Book → Read Stepped
layout_element s at rows book =
    layout_at s at then λ l end. learn book l at then λ learnt _. ok (record { element = item (layout l); rows = rows; book = learnt }) end

-- A row from its layout's number on: one row more is passed.
abbrev pub row_element : List ℕ → ℕ → ℕ → Book → Read Stepped
row_element s at rows book = row_at book s at then λ r end. ok (record { element = item (row r); rows = rows + 1; book = book }) end

abbrev pub end_element : List ℕ → ℕ → ℕ → Book → Read Stepped
end_element s at rows book = finish_at rows s at then λ f end. ok (record { element = f; rows = rows; book = book }) end

-- One element over a book in hand, by its four-octet kind. Refusal 7: a kind that is not 1, 2 or 3, at the kind.
unfoldable pub element_at : List ℕ → ℕ → ℕ → Book → Read Stepped
element_at s at rows book =
    number 4 s at then λ kind next.
    choose (eqb kind 1) (λ _. layout_element s next rows book)
    (λ _. choose (eqb kind 2) (λ _. row_element s next rows book)
    (λ _. choose (eqb kind 3) (λ _. end_element s next rows book) (λ _. no 7 at)))
