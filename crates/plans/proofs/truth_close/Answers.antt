-- `plans::truth_close` meets its contract: each return by a law of booleans, in every room of that reach. Assumes nothing.
use native.Mathlib.Omega.{arith}
use mathlib.Core.Path.{sym, ap, ◌∙◌}
use Rattle.octets.specs.Reading.{is_ok}
use Rattle.octets.proofs.Ends.{ends_ok, overrun_no}
use Rattle.kinds.specs.declared.Form.TheVariants.{Truth}
use Rattle.kinds.specs.Forms.{value_in}
use Rattle.kinds.proofs.Forms.{truth_ok, truth_over, truth_bad}
use Rattle.plans.proofs.truth_close.Goals as goal

pub returns-then-end-at : goal.returns-then-end-at
returns-then-end-at c = λ room h. let a = c.args in overrun_no (value_in room Truth a.doc.now a.at) room a.at (truth_over room a.doc.now a.at (omega (arith, c.if-end-at.true)))

pub returns-then-u8_at-gt1 : goal.returns-then-u8_at-gt1
returns-then-u8_at-gt1 c = λ room h.
    let a = c.args in
    sym (ends_ok (value_in room Truth a.doc.now a.at)) ∙ ap is_ok (truth_bad room a.doc.now a.at (omega (arith, c.if-end-at.false)) (omega (arith, c.u8_at.ensures, c.if-u8_at-gt1.true)))

pub returns : goal.returns
returns c =
    let a = c.args in
    let n = c.u8_at.ensures in
    (omega arith, omega arith, λ room h. truth_ok room a.doc.now a.at (omega arith) (omega arith))
