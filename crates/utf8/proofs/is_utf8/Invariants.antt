-- `utf8::is_utf8` meets its contract. The invariant: the octets are UTF-8 just where those that are left are. The measure is what is left. Assumes nothing.
use Prim.Native.Nat.{◌-◌, ◌≤◌}
use mathlib.Core.Path.{◌≡◌}
use Rattle.octets.specs.Reading.{part}
use Rattle.utf8.specs.Utf8.{utf8}
use Rattle.utf8.proofs.is_utf8.Given as goal

abbrev pub invariant-loop-i : goal.invariant-loop-i
invariant-loop-i l = (l.from ≤ l.i) × (l.i ≤ l.to) × (utf8 (part l.s l.from (l.to - l.from)) ≡ utf8 (part l.s l.i (l.to - l.i)))

abbrev pub decreases-loop-i : goal.decreases-loop-i
decreases-loop-i l = l.to - l.i
