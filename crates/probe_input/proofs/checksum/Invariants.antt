-- `probe_input::checksum` meets its contract. The invariant: going on from here gives the checksum. Assumes nothing.
use Rattle.std.proofs.Common.{◌≡◌, ◌≤◌, length, drop}
use Rattle.probe_input.specs.Words.{sum_from, checksum}
use Rattle.probe_input.proofs.checksum.Given as goal

abbrev pub invariant-loop-i : goal.invariant-loop-i
invariant-loop-i l = (l.i ≤ length l.xs) × (sum_from l.h (drop l.i l.xs) ≡ checksum l.xs)
