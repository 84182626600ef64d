-- `plans::values_to` meets its contract: by the length that stands there, unstated or stated. Assumes nothing.
use native.Mathlib.Omega.{arith}
use mathlib.Core.Path.{sym, ◌∙◌}
use Rattle.plans.proofs.Lasting.{lasts_open, lasts_stated, lasts_past, lasts_no, lasts_short}
use Rattle.plans.proofs.values_to.Goals as goal

pub returns-then-size : goal.returns-then-size
returns-then-size c =
    let a = c.args in
    lasts_open a.doc.now a.at a.steps.now a.from (sym c.u32_at-size.ensures ∙ c.if-size.true) c.follow.result c.follow.ensures

pub returns-then-doc-end : goal.returns-then-doc-end
returns-then-doc-end c =
    let a = c.args in
    lasts_past a.doc.now a.at a.steps.now a.from c.u32_at-size.result c.u32_at-size.ensures c.if-size.false (omega (arith, c.if-doc-end.true))

-- What the plan passed to the stated end, or that it did not.
pub returns-then-next-end : goal.returns-then-next-end
returns-then-next-end c =
    let a = c.args in
    lasts_short a.doc.now a.at a.steps.now a.from c.u32_at-size.result c.u32_at-size.ensures c.if-size.false (omega (arith, c.if-doc-end.false)) _ (c.in_ok-next.ensures) c.if-next-end.true

pub returns-in_err-next : goal.returns-in_err-next
returns-in_err-next c =
    let a = c.args in
    rw c.from_residual.ensures
    (lasts_no a.doc.now a.at a.steps.now a.from c.u32_at-size.result c.u32_at-size.ensures c.if-size.false (omega (arith, c.if-doc-end.false)) (c.in_err-next.ensures))

pub returns : goal.returns
returns c =
    let a = c.args in
    lasts_stated a.doc.now a.at a.steps.now a.from c.u32_at-size.result _ c.u32_at-size.ensures c.if-size.false (omega (arith, c.if-doc-end.false)) (c.in_ok-next.ensures) c.if-next-end.false
