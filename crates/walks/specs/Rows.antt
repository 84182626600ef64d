-- A stretch of rows, each passed by the plan of its layout, and the numbers that say them.
use Rattle.std.specs.Prelude.{ℕ, ◌+◌, ◌*◌, ◌%◌, ◌^◌, ◌≤◌, ◌<◌, ◌≡◌, List, [], ◌∷◌, Bool, true, false, length, get_or, set, Option, Some, None}
use Rattle.octets.specs.Reading.{ok, is_ok, be, number}
use Rattle.octets.specs.Writing.{Each}
use Rattle.layouts.specs.Book.{Book, position}
use Rattle.rows.specs.Row.{Row, row_at}
use Rattle.elements.specs.Element.{Item, layout, row}
use Rattle.elements.specs.Walk.{Seen, Path, number_of, Spot, spot_at, turn_at}
use Rattle.walks.specs.declared.Known.{Known}

-- An item in one number: a label of its layout in the high 32 bits, a bit that says whether it is a row, a bit that says whether its length is stated, and the next place in the low 30.
abbrev pub packed : ℕ → ℕ → ℕ → ℕ → ℕ
packed label is_row is_stated next = ((label * 2 + is_row) * 2 + is_stated) * 2 ^ 30 + next

abbrev pub row_word : ℕ → Bool → ℕ → ℕ
row_word label true next = packed label 1 1 next
row_word label false next = packed label 1 0 next

-- The word of an item seen, with the low 32 bits of the label of its layout's position; a layout has none.
abbrev pub word_by : List ℕ → Item → ℕ → ℕ → ℕ
word_by labels (layout l) position next = 0
word_by labels (row r) position next = row_word (get_or labels position 0 % 2 ^ 32) r.is_stated next

abbrev pub words_by : List ℕ → List Seen → List ℕ
words_by labels [] = []
words_by labels (p ∷ ps) = word_by labels p.which p.position p.next ∷ words_by labels ps

-- Words put over those that are lent, from an index on.
abbrev pub laid : ℕ → List ℕ → List ℕ → List ℕ
laid n [] xs = xs
laid n (w ∷ ws) xs = laid (n + 1) ws (set xs n w)

-- Where a row stands at a place, behind its kind, and its layout has a plan, it is refused.
abbrev pub Refuses : List ℕ → ℕ → Book → Known → Type 0
Refuses s at book k =
    (i : ℕ) → i < k.count → get_or k.numbers i 0 ≡ be 4 s (at + 4) → number 4 s at ≡ ok 2 (at + 4) → is_ok (row_at book s (at + 4)) ≡ false

-- A row of a book stands at a place, behind its kind, and ends at another; its layout, at a position of the book, has a plan.
pub record Passes (s : List ℕ) (at : ℕ) (book : Book) (k : Known) (next i : ℕ) : Type 0 where
  pub below : i < k.count
  pub plan : get_or k.numbers i 0 ≡ be 4 s (at + 4)
  pub index : position (be 4 s (at + 4)) book ≡ i
  pub kind : number 4 s at ≡ ok 2 (at + 4)
  pub row : Row
  pub reads : row_at book s (at + 4) ≡ ok row next

abbrev pub Tried : List ℕ → ℕ → Book → Known → Option (ℕ × ℕ) → Type 0
Tried s at book k (Some (next, i)) = Passes s at book k next i
Tried s at book k None = Refuses s at book k

-- An item whose layout has a plan.
abbrev pub HasPlan : List ℕ → Seen → Type 0
HasPlan numbers p = get_or numbers p.position 0 ≡ number_of p.which

-- The way over so many rows that were passed, to a place, and their words.
pub record Passage (s : List ℕ) (x : Spot) (numbers labels entry exit : List ℕ) (next count : ℕ) : Type 0 where
  pub seen : List Seen
  pub path : Path (turn_at s) x seen (spot_at next (x.rows + length seen) x.book)
  pub planned : Each (HasPlan numbers) seen
  pub is_count : length seen ≡ count
  pub put : exit ≡ laid 0 (words_by labels seen) entry

-- As far as rows go: so many at most, or to where no row stands that its layout's plan passes.
pub record Strides (s : List ℕ) (x : Spot) (k : Known) (labels : List ℕ) (most : ℕ) (entry exit : List ℕ) (next count : ℕ) : Type 0 where
  pub passage : Passage s x k.numbers labels entry exit next count
  pub inside : next ≤ length s
  pub few : count ≤ most
  pub stops : count < most → Refuses s next x.book k
