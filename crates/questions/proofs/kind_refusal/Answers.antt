-- `questions::kind_refusal` meets its contract: each answer by the law of the kind at that outcome. Assumes nothing.
use Prim.Native.Nat.{◌+◌, ◌<◌}
use native.Mathlib.Omega.{arith}
use mathlib.Core.Path.{sym, ap, ◌∙◌}
use lib.ListN.{length}
use Rattle.octets.specs.Asked.{refusal_of}
use Rattle.elements.specs.Kinds.{number_of_kind}
use Rattle.questions.proofs.Questions.{kind_cut, kind_right, kind_other, kind_none}
use Rattle.questions.proofs.kind_refusal.Goals.{then-doc-at-via-then-doc-at, then-doc-at-via-else-doc-at+then-doc-at-lt4}
use Rattle.questions.proofs.kind_refusal.Goals as goal

pub returns-then-doc-at : goal.returns-then-doc-at
returns-then-doc-at c =
    let a = c.args in
    let cut : length a.doc.now < a.at + 4 = elim c.then-doc-at.branch [ then-doc-at-via-then-doc-at w ↦ omega arith | then-doc-at-via-else-doc-at+then-doc-at-lt4 w ↦ omega arith ] in
    sym (ap refusal_of (kind_cut (number_of_kind a.wanted) a.doc.now a.at cut))

pub returns-then-number-from : goal.returns-then-number-from
returns-then-number-from c =
    let a = c.args in
    sym (ap refusal_of (kind_right (number_of_kind a.wanted) a.doc.now a.at (omega arith) (sym c.u32_at-number.ensures ∙ c.if-number-from.true ∙ c.from.ensures)))

pub returns-in-Ok : goal.returns-in-Ok
returns-in-Ok c =
    let a = c.args in
    let n = c.u32_at-number.ensures in
    sym (ap refusal_of (kind_other (number_of_kind a.wanted) a.doc.now a.at (omega arith) (λ e. c.if-number-from.false (n ∙ e ∙ sym c.from.ensures)) _ (c.in-Ok.ensures ∙ n)))

pub returns-in-Err : goal.returns-in-Err
returns-in-Err c =
    let a = c.args in
    let n = c.u32_at-number.ensures in
    let (is, none) = c.in-Err.ensures in
    sym (ap refusal_of (kind_none (number_of_kind a.wanted) a.doc.now a.at (omega arith) (λ e. c.if-number-from.false (n ∙ e ∙ sym c.from.ensures)) (is, λ k q. none k (q ∙ sym n))))
