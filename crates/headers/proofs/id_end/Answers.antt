-- `headers::id_end` meets its contract: sixteen octets behind a length of sixteen. Assumes nothing.
use native.Mathlib.Omega.{arith}
use mathlib.Core.Path.{refl, sym}
use Rattle.octets.proofs.Passed.{handed_on}
use Rattle.headers.proofs.Parts.{id_unsized, id_cut, id_whole}
use Rattle.headers.proofs.id_end.Goals as goal

pub returns-in_err-next : goal.returns-in_err-next
returns-in_err-next c =
    let a = c.args in
    rw (handed_on c.from_residual.result _ c.from_residual.ensures.1) (sym (id_unsized a.s.now a.at _ _ (sym c.in_err-next.ensures.0)), tt)

pub returns-then-s-next : goal.returns-then-s-next
returns-then-s-next c =
    let a = c.args in
    (rw (id_cut a.s.now a.at c.in_ok-next.next (sym c.in_ok-next.ensures.0) c.if-s-next.true) refl, tt)

pub returns : goal.returns
returns c =
    let a = c.args in
    (rw (id_whole a.s.now a.at c.in_ok-next.next (sym c.in_ok-next.ensures.0) c.if-s-next.false) refl, omega (arith, c.in_ok-next.ensures.1))
