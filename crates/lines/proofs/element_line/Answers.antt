-- `lines::element_line` meets its contract, by the element that the answer tells. Assumes nothing.
use mathlib.Core.Path.{sym, ap, ◌∙◌}
use Rattle.elements.specs.Element.{Element}
use Rattle.layouts.specs.Layout.{Layout}
use Rattle.octets.specs.Asked.{part_of}
use Rattle.questions.specs.Questions.{row_of, layout_of}
use Rattle.questions.proofs.After.{row_after, layout_after}
use Rattle.printing.proofs.Pages.{says}
use Rattle.lines.specs.Lines.{element_text}
use Rattle.lines.proofs.Words.{layout_line}
use Rattle.lines.proofs.Stepping.{met_layout, met_row}
use Rattle.lines.proofs.element_line.Goals as goal

pub returns-in-Layout : goal.returns-in-Layout
returns-in-Layout c =
    let q = c.args.asked in
    λ st next e is.
    let (l, here, number, count) = met_layout st.element _ _ (is ∙ c.in-Layout.is) in
    let asked = layout_after q.doc.now q.at q.rows q.book.now q.used st next e ∙ ap (λ (x : Element). layout_of q.at x next) here in
    says (layout_line q.at _ _ _ l st.element here number (c.type_name.ensures ∙ ap (part_of (λ (x : Layout). x.type_name)) asked) count) c.layout_line.ensures

pub returns-in-Row : goal.returns-in-Row
returns-in-Row c =
    let q = c.args.asked in
    λ st next e is.
    let (r, here, number, count) = met_row st.element _ _ _ (is ∙ c.in-Row.is) in
    says (sym (ap (element_text q.at) here))
    (c.row_line.ensures r next
    (row_after q.doc.now q.at q.rows q.book.now q.used st next e ∙ ap (λ (x : Element). row_of q.at x next) here) number count)
