-- `elements::row_step` meets its contract: a row over the layout that was looked up, or 12. Assumes nothing.
use native.Mathlib.Omega.{arith}
use mathlib.Core.Path.{sym, ap, ◌∙◌}
use Rattle.std.proofs.lemmas.Result.{err_from_is_err_and}
use Rattle.rows.specs.Answers.{row_says}
use Rattle.rows.proofs.RowLaws.{row_unnumbered, row_unknown, row_unshaped, row_shaped}
use Rattle.elements.specs.Answers.{tells}
use Rattle.elements.proofs.Told.{row_refused, row_told, looked_at}
use Rattle.elements.proofs.row_step.Goals as goal

pub returns-then-doc-at : goal.returns-then-doc-at
returns-then-doc-at c = λ b o. let a = c.args in sym (ap tells (row_refused a.doc.now a.at a.rows b _ _ (row_unnumbered a.doc.now a.at b c.if-doc-at.true)))

pub returns-in_default : goal.returns-in_default
returns-in_default c = λ b o.
    let a = c.args in
    let w = looked_at a.doc.now a.at a.s.now _ a.used b o (omega arith) _ c.in_default.is in
    sym (ap tells (row_refused a.doc.now a.at a.rows b _ _ (row_unknown a.doc.now a.at b (omega arith) w.0)))

-- The layout that was found stands there.
pub returns-in_err-row : goal.returns-in_err-row
returns-in_err-row c = λ b o.
    let a = c.args in
    let w = looked_at a.doc.now a.at a.s.now _ a.used b o (omega arith) _ c.in-There.is in
    let (_, is, same) = err_from_is_err_and c.from_residual.result c.from_residual.ensures.1 in
    rw (is, same)
    (sym (ap tells (row_refused a.doc.now a.at a.rows b _ _ (row_unshaped a.doc.now a.at b w.layout (omega arith) w.found _ _
    (sym (c.row_end.ensures.0 _ w.layout w.next w.reads) ∙ ap row_says c.in_err-row.was)))))

pub returns : goal.returns
returns c = λ b o.
    let a = c.args in
    let w = looked_at a.doc.now a.at a.s.now _ a.used b o (omega arith) _ c.in-There.is in
    rw (c.u32_at.ensures, ← o.size)
    (sym (row_told a.doc.now a.at a.rows b _ _ _ (row_shaped a.doc.now a.at b w.layout (omega arith) w.found _ _ _
    (sym (c.row_end.ensures.0 _ w.layout w.next w.reads) ∙ ap row_says c.in_ok-row.was))))
