-- `layouts::attributes_skip` meets its contract. The invariant: the run ends where what is left of it ends. Assumes nothing.
use Prim.Native.Nat.{◌-◌, ◌≤◌}
use mathlib.Core.Path.{◌≡◌}
use Rattle.octets.specs.Reading.{run, ends}
use Rattle.layouts.specs.Layout.{attribute_at}
use Rattle.layouts.proofs.attributes_skip.Given as goal

abbrev pub invariant-loop : goal.invariant-loop
invariant-loop l = (l.counter ≤ l.count) × (ends (run (attribute_at l.s) l.count l.at) ≡ ends (run (attribute_at l.s) (l.count - l.counter) l.pos))
