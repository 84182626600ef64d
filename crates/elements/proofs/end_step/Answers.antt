-- `elements::end_step` meets its contract: each return by a law of the end. Assumes nothing.
use native.Mathlib.Omega.{arith}
use mathlib.Core.Path.{refl, sym, ap, ◌∙◌}
use mir.Syntax.{w64}
use mir.Facts.{to_z-of_z}
use Rattle.kinds.specs.Kinds.{signed}
use Rattle.kinds.proofs.Signs.{signed_cast}
use Rattle.elements.specs.Answers.{tells}
use Rattle.elements.proofs.Told.{end_cut, end_other, end_untimed, end_more, end_whole}
use Rattle.elements.proofs.end_step.Goals as goal

pub returns-then-doc-at : goal.returns-then-doc-at
returns-then-doc-at c = λ book e. let a = c.args in sym (ap tells (end_cut a.doc.now a.at a.rows book c.if-doc-at.true))

pub returns-then-count-rows : goal.returns-then-count-rows
returns-then-count-rows c = λ book e.
    let a = c.args in
    let n = c.u32_at-count.ensures in
    sym (ap tells (end_other a.doc.now a.at a.rows book (omega arith) (λ q. c.if-count-rows.true (n ∙ q))))

pub returns-then-doc-at-2 : goal.returns-then-doc-at-2
returns-then-doc-at-2 c = λ book e.
    let a = c.args in
    let n = c.u32_at-count.ensures in
    sym (ap tells (end_untimed a.doc.now a.at a.rows book (omega arith) (sym n ∙ c.if-count-rows.false) c.if-doc-at-2.true))

pub returns-then-next-doc : goal.returns-then-next-doc
returns-then-next-doc c = λ book e.
    let a = c.args in
    let n = c.u32_at-count.ensures in
    sym (ap tells (end_more a.doc.now a.at a.rows book (omega arith) (sym n ∙ c.if-count-rows.false) (omega arith) c.if-next-doc.true))

pub returns : goal.returns
returns c = λ book e.
    let a = c.args in
    let n = c.u32_at-count.ensures in
    let time = c.cast_signed-time.ensures ∙ (signed_cast w64 8 refl c.u64_at.result c.u64_at.type_inv ∙ ap (signed 8) c.u64_at.ensures) in
    rw (← e, n, to_z-of_z {w = w64} (record { sfits = c.cast_signed-time.type_inv }) ∙ time)
    (sym (ap tells (end_whole a.doc.now a.at a.rows book (omega arith) (sym n ∙ c.if-count-rows.false) c.if-next-doc.false)))
