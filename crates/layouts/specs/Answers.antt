-- What the answers about layouts and books say.
use Rattle.std.specs.Prelude.{ℕ, ◌+◌, ◌≤◌, ◌<◌, ◌≡◌, List, [], ◌∷◌, ◌++◌, Bool, true, false, length, drop, eqb, Result, Ok, Err}
use Rattle.std.proofs.Math.Option.{some, none}
use Rattle.octets.specs.Limits.{book_room}
use Rattle.octets.specs.Reading.{ok, no, choose}
use Rattle.octets.specs.Writing.{Each}
use Rattle.octets.specs.Faults.{number_of}
use Rattle.octets.specs.declared.Fault.{Fault}
use Rattle.layouts.specs.Layout.{Attribute, Layout, attribute_at, layout_at, layout_image, GoodLayout}
use Rattle.layouts.specs.Book.{Book, find, book_image, learn}
use Rattle.layouts.specs.declared.Looked.{Looked}
use Rattle.layouts.specs.declared.Looked.TheVariants.{There, Missing}
use Rattle.layouts.specs.declared.Learning.{Learning}
use Rattle.layouts.specs.declared.Learning.TheVariants.{Known, New}

-- Whether a number is among some.
abbrev pub is_among : ℕ → List ℕ → Bool
is_among n [] = false
is_among n (m ∷ rest) = choose (eqb n m) (λ _. true) (λ _. is_among n rest)

-- Octets that are the image of layouts inside the limits.
pub record Image (s : List ℕ) (book : Book) : Type 0 where
  pub is : book_image book ≡ s
  pub good : Each GoodLayout book

pub record Holds (s : List ℕ) : Type 0 where
  pub book : Book
  pub image : Image s book

-- At a place stands the layout that a book has under a number.
pub record StandsFor (s : List ℕ) (n : ℕ) (book : Book) (p : ℕ) : Type 0 where
  pub layout : Layout
  pub next : ℕ
  pub found : find n book ≡ some layout
  pub reads : layout_at s p ≡ ok layout next

-- The place of the layout of a number; where there is none, how many layouts there are.
abbrev pub Looks : List ℕ → ℕ → Book → Looked → Type 0
Looks s n book (There p) = StandsFor s n book p
Looks s n book (Missing k) = (find n book ≡ none) × (length book ≡ k)

-- A layout stands at a place.
pub record Reads (s : List ℕ) (p : ℕ) : Type 0 where
  pub layout : Layout
  pub next : ℕ
  pub reads : layout_at s p ≡ ok layout next

-- What was looked up stands there, whatever the book.
abbrev pub Stood : List ℕ → Looked → Type 0
Stood s (There p) = Reads s p
Stood s (Missing k) = Unit {0}

-- What learning a layout at a place does to a book that uses so many octets; a new one fits right behind them.
abbrev pub Judges : ℕ → Book → Layout → ℕ → Result Learning Fault → Type 0
Judges used book l at (Ok Known) = learn book l at ≡ ok book at
Judges used book l at (Ok (New v)) = (learn book l at ≡ ok (book ++ l ∷ []) at) × (v ≡ used + length (layout_image l)) × (v ≤ book_room)
Judges used book l at (Err f) = learn book l at ≡ no (number_of f) at

-- A layout of more than n attributes stands at a place.
pub record Has (s : List ℕ) (at n : ℕ) : Type 0 where
  pub layout : Layout
  pub end : ℕ
  pub reads : layout_at s at ≡ ok layout end
  pub more : n < length layout.attributes

-- The attribute of an index stands at a place.
pub record Nth (s : List ℕ) (all : List Attribute) (n p : ℕ) : Type 0 where
  pub attribute : Attribute
  pub more : List Attribute
  pub next : ℕ
  pub is : drop n all ≡ attribute ∷ more
  pub reads : attribute_at s p ≡ ok attribute next

-- An answer but for its place: what is read there is settled, and equal octets might stand elsewhere too.
abbrev pub looked_but : Looked → Looked
looked_but (There p) = There 0
looked_but (Missing k) = Missing k
