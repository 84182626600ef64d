-- `printing::spell` meets its contract. The invariant: the digits of what is left, then what stands from there on, are the number's digits.
-- Assumes nothing.
use mathlib.Core.Path.{◌≡◌}
use mathlib.Core.List.{◌++◌}
use Prim.Native.Nat.{◌≤◌}
use lib.ListN.{length, drop}
use Rattle.printing.specs.Text.{digits}
use Rattle.printing.proofs.spell.Given as goal

abbrev pub invariant-loop-i : goal.invariant-loop-i
invariant-loop-i l = (l.i ≤ 20) × (length l.text ≡ 20) × (digits 20 l.v ≡ digits l.i l.left ++ drop l.i l.text)
