-- `octets::put_number` meets its contract. The invariant: what is to stand in the end is the word of what is left, then the rest from there on.
-- The measure is the octets to come. Assumes nothing.
use Prim.Native.Nat.{◌≤◌}
use mathlib.Core.Path.{◌≡◌}
use mathlib.Core.List.{◌++◌}
use lib.ListN.{length, drop}
use Rattle.octets.specs.Writing.{word}
use Rattle.octets.proofs.put_number.Given as goal

abbrev pub invariant-loop-i : goal.invariant-loop-i
invariant-loop-i l = (l.i ≤ l.w) × (length l.rest ≡ length l.initial.rest) × (word l.w l.v ++ drop l.w l.initial.rest ≡ word l.i l.left ++ drop l.i l.rest)

abbrev pub decreases-loop-i : goal.decreases-loop-i
decreases-loop-i l = l.i
