-- `walks::Known::position_of` meets its contract. The invariant: none of the numbers passed is this one. Assumes nothing.
use Prim.Native.Nat.{ℕ, ◌%◌, ◌≤◌, ◌<◌}
use mathlib.Core.Path.{◌≡◌}
use lib.ListN.{get_or}
use Rattle.walks.proofs.Known.position_of.Given as goal

abbrev pub invariant-loop-i : goal.invariant-loop-i
invariant-loop-i l = (l.i ≤ l.self.count) × ((j : ℕ) → j < l.i → get_or l.self.numbers j 0 % 4294967296 ≡ l.number → ⊥)
