-- `utf8::ascii_front` meets its contract. The invariant: the octets passed are ASCII. The measure is what is left. Assumes nothing.
use Prim.Native.Nat.{◌-◌, ◌≤◌}
use Rattle.utf8.specs.Answers.{Ascii}
use Rattle.utf8.proofs.ascii_front.Given as goal

abbrev pub invariant-loop-i : goal.invariant-loop-i
invariant-loop-i l = (l.at ≤ l.i) × (l.i ≤ l.to) × Ascii l.s l.at l.i

abbrev pub decreases-loop-i : goal.decreases-loop-i
decreases-loop-i l = l.to - l.i
