-- `walks::Known::index` meets its contract. The invariant: of every such book the layouts met are kept, and those left stand from here on.
-- The measure is what is left of the octets. Assumes nothing.
use Prim.Native.Nat.{◌-◌}
use lib.ListN.{length}
use Rattle.layouts.specs.Book.{Book}
use Rattle.walks.specs.Kept.{Image}
use Rattle.walks.proofs.Indexing.{Met}
use Rattle.walks.proofs.Known.index.Given as goal

abbrev pub invariant-loop-pos : goal.invariant-loop-pos
invariant-loop-pos l = (book : Book) → Image l.s book → Met l.s l.self l.pos book

abbrev pub decreases-loop-pos : goal.decreases-loop-pos
decreases-loop-pos l = length l.s - l.pos
