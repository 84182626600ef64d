-- `layouts::are_layouts` meets its contract. The invariant: the numbers kept are those of the layouts met, and reading on behind these is reading all. Assumes nothing.
use Prim.Native.Nat.{◌≤◌}
use mathlib.Core.Path.{◌≡◌}
use lib.ListN.{length}
use Rattle.octets.specs.Limits.{most_layouts}
use Rattle.layouts.proofs.Checks.{Met}
use Rattle.layouts.proofs.are_layouts.Given as goal

abbrev pub invariant-loop-k : goal.invariant-loop-k
invariant-loop-k l = (l.pos ≤ length l.s) × (l.k ≤ most_layouts) × (length l.met ≡ 64) × Met l.s l.met l.k l.pos
