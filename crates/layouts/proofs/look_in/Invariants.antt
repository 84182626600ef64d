-- `layouts::look_in` meets its contract. The invariant: what is left from here on holds the number where the book does.
-- The measure is what is left of the octets. Assumes nothing.
use Prim.Native.Nat.{◌-◌, ◌≤◌}
use lib.ListN.{length}
use Rattle.layouts.specs.Book.{Book}
use Rattle.layouts.specs.Answers.{Image}
use Rattle.layouts.proofs.Walks.{Left}
use Rattle.layouts.proofs.look_in.Given as goal

abbrev pub invariant-loop-pos : goal.invariant-loop-pos
invariant-loop-pos l = (l.pos ≤ length l.s) × (l.k ≤ l.pos) × ((book : Book) → Image l.s book → Left l.s l.number book l.pos l.k)

abbrev pub decreases-loop-pos : goal.decreases-loop-pos
decreases-loop-pos l = length l.s - l.pos
