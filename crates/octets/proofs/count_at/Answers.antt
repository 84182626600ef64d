-- `octets::count_at` meets its contract: each return by a law of `count`. Assumes nothing.
use native.Mathlib.Omega.{arith}
use mathlib.Core.Path.{refl}
use Rattle.octets.proofs.Ends.{count_ok, count_no, count_over}
use Rattle.octets.proofs.count_at.Goals as goal

pub returns-then-s-at : goal.returns-then-s-at
returns-then-s-at c = let a = c.args in (rw (count_no a.s.now a.at a.most c.if-s-at.true) refl, tt)

pub returns-then-most-n : goal.returns-then-most-n
returns-then-most-n c =
    let a = c.args in
    (rw (count_over a.s.now a.at a.most (omega arith) (rw c.u32_at-n.ensures at c.if-most-n.true)) refl, tt)

pub returns : goal.returns
returns c =
    let a = c.args in
    (rw (count_ok a.s.now a.at a.most (omega arith) (rw c.u32_at-n.ensures at c.if-most-n.false)) (cc), omega arith)
