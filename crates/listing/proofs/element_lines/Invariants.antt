-- `listing::element_lines` meets its contract. The invariant: the lines of the items passed are printed, over octets that carry the book that they left.
-- The measure is what is left of the document: an item goes on. Assumes nothing.
use Prim.Native.Nat.{◌-◌}
use mathlib.Core.Path.{◌≡◌}
use lib.ListN.{length}
use Rattle.listing.proofs.Passed.{Passed}
use Rattle.listing.proofs.element_lines.Given as goal

abbrev pub invariant-loop-moved : goal.invariant-loop-moved
invariant-loop-moved l = Passed l.doc l.at l.initial.page l.book l.known l.pos l.rows l.used l.page × (length l.words ≡ 1)

abbrev pub decreases-loop-moved : goal.decreases-loop-moved
decreases-loop-moved l = length l.doc - l.pos
