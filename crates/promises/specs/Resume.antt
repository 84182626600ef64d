-- Demand 3: a second store reads on from the middle of a document, over a book of its own.
use Rattle.std.specs.Prelude.{ℕ, ◌+◌, ◌≡◌, ◌⊎◌}
use mathlib.Core.List.{List, [], ◌∷◌, ◌++◌, Memᴰ}
use Rattle.std.proofs.Math.Option.{none}
use Rattle.octets.specs.Reading.{ok}
use Rattle.layouts.specs.Layout.{Layout}
use Rattle.layouts.specs.Book.{Book, find}
use Rattle.rows.specs.Row.{Row}
use Rattle.headers.specs.Header.{Header}
use Rattle.elements.specs.Element.{layout, row, Element, item, finish}
use Rattle.elements.specs.Walk.{lent_at}
use Rattle.elements.specs.Reading.{Placed, reading, rows_of}
use Rattle.promises.specs.BySteps.{Ending, ended, refused, BySteps, Stops}

-- An accepted document and one of its elements, with those before it and those behind it.
pub record CutAt (s : List ℕ) (before : List Placed) (here : Placed) (behind : List Placed) (end : ℕ) : Type 0 where
  pub header : Header
  pub accepted : reading s ≡ ok (record { header = header; elements = before ++ here ∷ behind }) end

-- The layouts among elements, in their order.
abbrev pub layout_of : Element → Book
layout_of (item (layout l)) = l ∷ []
layout_of (item (row r)) = []
layout_of (finish n t) = []

abbrev pub layouts_of : List Placed → Book
layouts_of [] = []
layouts_of (p ∷ ps) = layout_of p.element ++ layouts_of ps

-- All of one book's layouts are in another.
abbrev pub AllIn : Book → Book → Type 0
AllIn book other = (l : Layout) → Memᴰ l book → Memᴰ l other

-- Each layout once: none is met again behind itself.
abbrev pub Once : Book → Type 0
Once [] = Unit {0}
Once (l ∷ rest) = (Memᴰ l rest → ⊥) × Once rest

-- A book of layouts taken only from a document's elements, each once, in any order.
pub record Taken (elements : List Placed) (book : Book) : Type 0 where
  pub only : AllIn book (layouts_of elements)
  pub once : Once book

-- A row that names a layout neither in the book nor among the elements met since the start.
pub record Lacking (book : Book) (met : List Placed) (p : Placed) : Type 0 where
  pub its : Row
  pub is_row : p.element ≡ item (row its)
  pub lacks : find its.number (book ++ layouts_of met) ≡ none

-- The first such row among elements, with those met before it.
pub record FirstLacking (book : Book) (elements : List Placed) (met : List Placed) (p : Placed) : Type 0 where
  pub others : List Placed
  pub split : elements ≡ met ++ p ∷ others
  pub lacking : Lacking book met p
  pub first : (a : List Placed) (q : Placed) (b : List Placed) → met ≡ a ++ q ∷ b → Lacking book a q → ⊥

-- What is promised of the steps from an element of an accepted document on, told the rows before it, over lent octets that carry such a book.
pub record Resumed (s : List ℕ) (before : List Placed) (here : Placed) (behind : List Placed) (end : ℕ) (book : Book) (octets : List ℕ) (used : ℕ) : Type 0 where
  -- With at least every layout met before the element, they give what a first-octet reading gives from there to the end: the same elements at the same places, each row with the same names, types and values.
  pub same : AllIn (layouts_of before) book → BySteps s (lent_at here.place (rows_of before) octets used) (here ∷ behind) (ended end)
  -- With some lacking, the elements are the same up to the first row that names one, which is refused by 12 at its layout's number.
  pub lacks : (met : List Placed) (p : Placed) → FirstLacking book (here ∷ behind) met p
      → BySteps s (lent_at here.place (rows_of before) octets used) met (refused 12 (p.place + 4))
  -- It is that row's own step that is refused.
  pub there : (met : List Placed) (p : Placed) → FirstLacking book (here ∷ behind) met p
      → Stops s (lent_at here.place (rows_of before) octets used) met p.place 12 (p.place + 4)
  -- With some lacking that no row names so, all are the same.
  pub unneeded : ((met : List Placed) (p : Placed) → FirstLacking book (here ∷ behind) met p → ⊥)
      → BySteps s (lent_at here.place (rows_of before) octets used) (here ∷ behind) (ended end)
  -- There is such a row or there is none, and no other outcome is possible than the one said.
  pub either : ((met : List Placed) × (p : Placed) × FirstLacking book (here ∷ behind) met p) ⊎ ((met : List Placed) (p : Placed) → FirstLacking book (here ∷ behind) met p → ⊥)
  pub only : (ps qs : List Placed) (e f : Ending) → BySteps s (lent_at here.place (rows_of before) octets used) ps e → BySteps s (lent_at here.place (rows_of before) octets used) qs f
      → (qs ≡ ps) × (f ≡ e)
