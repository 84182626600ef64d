-- `walks::rows_on` meets its contract. The invariant: the way over the rows passed leads up to here, and their words are put. Assumes nothing.
use Prim.Native.Nat.{ℕ, ◌≤◌, ◌<◌}
use mathlib.Core.Path.{◌≡◌}
use lib.ListN.{length}
use Rattle.layouts.specs.Book.{Book}
use Rattle.elements.specs.Walk.{spot_at}
use Rattle.walks.specs.Kept.{Planned}
use Rattle.walks.specs.Rows.{Passage}
use Rattle.walks.proofs.rows_on.Given as goal

abbrev pub invariant-loop-n : goal.invariant-loop-n
invariant-loop-n l = (l.pos ≤ length l.doc) × (l.n ≤ l.most) × (l.last < l.known.count) × (length l.words ≡ length l.initial.words)
    × ((rows : ℕ) (book : Book) → Planned l.known book → Passage l.doc (spot_at l.at rows book) l.known.numbers l.labels l.initial.words l.words l.pos l.n)
