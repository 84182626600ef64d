-- `walks::rows_from` meets its contract. The invariant: a way from the start, with its book kept by the document itself; the count is that of the spot that it reached.
-- The measure is what is left of the document. Assumes nothing.
use Prim.Native.Nat.{ℕ, ◌-◌}
use mathlib.Core.Path.{◌≡◌}
use mathlib.Core.List.{List, []}
use lib.ListN.{length}
use Rattle.elements.specs.Walk.{Seen, spot_at}
use Rattle.walks.specs.declared.Known.{Known}
use Rattle.walks.proofs.Ways.{OnWay}
use Rattle.walks.proofs.rows_from.Given as goal

-- A way from the start, whatever it passed.
abbrev pub Going : List ℕ → ℕ → Known → ℕ → ℕ → ℕ → Type 0
Going s at k pos rows used = (passed : List Seen) × OnWay s (spot_at at 0 []) passed s k pos rows used

abbrev pub invariant-loop-next : goal.invariant-loop-next
invariant-loop-next l = Going l.doc l.at l.known l.pos l.rows l.used × (length l.words ≡ 1)

abbrev pub decreases-loop-next : goal.decreases-loop-next
decreases-loop-next l = length l.doc - l.pos
