-- The book: layouts of different numbers, in the order met.
use Rattle.std.specs.Prelude.{ℕ, zero, suc, ◌+◌, ◌≤◌, ◌≡◌, List, [], ◌∷◌, ◌++◌, Bool, true, false, ◌&&◌, length, take, leb, ltb, eqb, Result, Ok, Err}
use Rattle.std.proofs.Math.Option.{Option, some, none}
use Rattle.octets.specs.Limits.{book_room, most_layouts}
use Rattle.octets.specs.Reading.{Read, ok, no, ◌then◌, choose, value_or, same}
use Rattle.octets.specs.Writing.{images, Each}
use Rattle.octets.specs.Faults.{number_of}
use Rattle.octets.specs.declared.Fault.{Fault}
use Rattle.octets.specs.declared.Fault.TheVariants.{Differs, BookFull}
use Rattle.layouts.specs.Layout.{Layout, layout_at, layout_image, GoodLayout}
use Rattle.layouts.specs.declared.Learning.{Learning}
use Rattle.layouts.specs.declared.Learning.TheVariants.{Known, New}

abbrev pub Book : Type 0
Book = List Layout

-- The layout of a number, which is compared by its 32 bits.
unfoldable pub find : ℕ → Book → Option Layout
find n [] = none
find n (l ∷ rest) = choose (eqb n l.number) (λ _. some l) (λ _. find n rest)

abbrev pub is_none : {A : Type 0} → Option A → Bool
is_none none = true
is_none (some a) = false

-- The numbers of a book's layouts, in their order, and the position of a number among them; how many there are where it is not there.
abbrev pub numbers_of : Book → List ℕ
numbers_of [] = []
numbers_of (l ∷ rest) = l.number ∷ numbers_of rest

unfoldable pub position : ℕ → Book → ℕ
position n [] = 0
position n (l ∷ rest) = choose (eqb n l.number) (λ _. 0) (λ _. suc (position n rest))

-- Layouts of different numbers.
abbrev pub Distinct : Book → Type 0
Distinct [] = Unit {0}
Distinct (l ∷ rest) = (find l.number rest ≡ none) × Distinct rest

-- The book's octets: its layouts one after another.
unfoldable pub book_image : Book → List ℕ
book_image book = images layout_image book

-- Layouts inside the limits, of different numbers, that fit a book.
pub record GoodBook (book : Book) : Type 0 where
  pub few : length book ≤ most_layouts
  pub small : length (book_image book) ≤ book_room
  pub good : Each GoodLayout book
  pub distinct : Distinct book

-- The layouts that octets hold from a place to their end, behind those met; k more at most. Octets that are not whole valid layouts of different numbers are no book.
unfoldable pub layouts_at : ℕ → Book → List ℕ → ℕ → Read Book
layouts_at zero met s at = choose (eqb at (length s)) (λ _. ok met at) (λ _. no 17 0)
layouts_at (suc k) met s at =
    choose (eqb at (length s)) (λ _. ok met at)
    (λ _. layout_at s at then λ l next.
    choose (is_none (find l.number met)) (λ _. layouts_at k (met ++ l ∷ []) s next) (λ _. no 17 0))

-- Every fault of a book is refusal 17 at 0.
abbrev pub as17 : {A : Type 0} → Read A → Read A
as17 (ok a next) = ok a next
as17 (no n p) = no 17 0

-- The book in lent octets, of which so many are used: at least 32,768 lent, at most 32,768 used, at most 64 layouts.
unfoldable pub book_of : List ℕ → ℕ → Read Book
book_of octets used =
    choose (leb book_room (length octets) && leb used book_room) (λ _. as17 (layouts_at most_layouts [] (take used octets) 0)) (λ _. no 17 0)

-- The book that lent octets hold, and that they do hold one.
unfoldable pub book_in : List ℕ → ℕ → Book
book_in octets used = value_or [] (book_of octets used)

abbrev pub IsBook : List ℕ → ℕ → Type 0
IsBook octets used = book_of octets used ≡ ok (book_in octets used) used

-- What a book that uses so many octets makes of a layout, by the layout's octets from its number to its last type and by what the book has under that number. Equal octets add nothing, and others are refusal 10; a new layout that would be the 65th, or pass 32,768 octets, is 11.
abbrev pub learning_by : Book → ℕ → List ℕ → Option Layout → Result Learning Fault
learning_by book used xs (some m) = choose (same (layout_image m) xs) (λ _. Ok Known) (λ _. Err Differs)
learning_by book used xs none =
    choose (ltb (length book) most_layouts && leb (used + length xs) book_room) (λ _. Ok (New (used + length xs))) (λ _. Err BookFull)

-- The same by the number.
abbrev pub learning : Book → ℕ → ℕ → List ℕ → Result Learning Fault
learning book used n xs = learning_by book used xs (find n book)

-- The book with a layout learnt whose number stands at a place, where its refusal is.
abbrev pub learn_by : Book → Layout → ℕ → Result Learning Fault → Read Book
learn_by book l at (Ok Known) = ok book at
learn_by book l at (Ok (New v)) = ok (book ++ l ∷ []) at
learn_by book l at (Err f) = no (number_of f) at

unfoldable pub learn : Book → Layout → ℕ → Read Book
learn book l at = learn_by book l at (learning book (length (book_image book)) l.number (layout_image l))
