-- `headers::default_end` meets its contract: a string behind eight octets. Assumes nothing.
use native.Mathlib.Omega.{arith}
use Prim.Native.Nat.{◌+◌}
use mathlib.Core.Path.{refl}
use lib.ListN.{length}
use Rattle.octets.proofs.Ends.{number_ok, number_no, behind}
use Rattle.headers.proofs.default_end.Goals as goal

pub returns-then-s-at : goal.returns-then-s-at
returns-then-s-at c = let a = c.args in (rw (number_no a.s.now a.at 8 c.if-s-at.true) refl, tt)

pub returns : goal.returns
returns c =
    let a = c.args in
    let t = c.text_end in
    (rw (number_ok a.s.now a.at 8 (omega arith)) t.ensures.0, behind a.at (a.at + 8) t.result (length a.s.now) (omega arith) t.ensures.1)
