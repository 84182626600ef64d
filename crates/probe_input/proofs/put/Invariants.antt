-- `probe_input::put` meets its contract. The invariant: the first octets are put. Assumes nothing.
use Rattle.std.proofs.Common.{◌≡◌, ◌≤◌, length, take}
use lib.Seq.{sets}
use Rattle.probe_input.proofs.put.Given as goal

abbrev pub invariant-loop-i : goal.invariant-loop-i
invariant-loop-i l = (length l.to ≡ length l.initial.to) × (l.i ≤ length l.xs) × (l.to ≡ sets l.initial.to l.at (take l.i l.xs))
