-- `elements::element_over` meets its contract: the kind says which function answers. Assumes nothing.
use native.Mathlib.Omega.{arith}
use mathlib.Core.Path.{sym, ap, ◌∙◌}
use Rattle.elements.specs.Kinds.{number_of_kind}
use Rattle.elements.specs.declared.ElementKind.TheVariants as kind
use Rattle.elements.specs.Answers.{tells}
use Rattle.elements.proofs.Told.{element_cut, element_layout, element_row, element_end, element_other}
use Rattle.elements.proofs.element_over.Goals as goal

pub returns-then-doc-at : goal.returns-then-doc-at
returns-then-doc-at c = λ b o. let a = c.args in sym (ap tells (element_cut a.doc.now a.at a.rows b (omega arith)))

pub returns-in-Ok-Layout : goal.returns-in-Ok-Layout
returns-in-Ok-Layout c = λ b o.
    let a = c.args in
    c.layout_step.ensures b o ∙ sym (ap tells (element_layout a.doc.now a.at a.rows b (omega arith) (sym c.u32_at.ensures ∙ (sym c.in-Ok-Layout.ensures ∙ ap number_of_kind c.in-Ok-Layout.field-0-is))))

pub returns-in-Ok-Row : goal.returns-in-Ok-Row
returns-in-Ok-Row c = λ b o.
    let a = c.args in
    c.row_step.ensures b o ∙ sym (ap tells (element_row a.doc.now a.at a.rows b (omega arith) (sym c.u32_at.ensures ∙ (sym c.in-Ok-Row.ensures ∙ ap number_of_kind c.in-Ok-Row.field-0-is))))

pub returns-in-Ok-End : goal.returns-in-Ok-End
returns-in-Ok-End c = λ b o.
    let a = c.args in
    c.end_step.ensures b o.size ∙ sym (ap tells (element_end a.doc.now a.at a.rows b (omega arith) (sym c.u32_at.ensures ∙ (sym c.in-Ok-End.ensures ∙ ap number_of_kind c.in-Ok-End.field-0-is))))

-- No kind has the number.
pub returns-in-Err : goal.returns-in-Err
returns-in-Err c = λ b o.
    let a = c.args in
    let n = c.u32_at.ensures in
    let (is, none) = c.in-Err.ensures in
    rw is (sym (ap tells (element_other a.doc.now a.at a.rows b (omega arith) (λ q. none kind.Layout (sym (n ∙ q))) (λ q. none kind.Row (sym (n ∙ q))) (λ q. none kind.End (sym (n ∙ q))))))
