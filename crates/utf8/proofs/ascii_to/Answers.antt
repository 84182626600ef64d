-- `utf8::ascii_to` meets its contract: the octets before the first mark are ASCII. Assumes nothing.
use native.Mathlib.Omega.{arith}
use Prim.Native.Nat.{◌+◌}
use Rattle.octets.proofs.Spans.{each_octet}
use Rattle.utf8.proofs.Ascii.{before_mark}
use Rattle.utf8.proofs.ascii_to.Goals as goal

pub returns-then-to-at-ge8 : goal.returns-then-to-at-ge8
returns-then-to-at-ge8 c =
    let a = c.args in
    let u = c.unmarked in
    let (late, run) = before_mark 8 _ u.result a.s.now a.at (a.at + u.result) (each_octet a.s.now c.type_inv.s) c.marks_at.ensures u.ensures (omega arith) in
    (late, omega (arith, u.ensures.0), run)
