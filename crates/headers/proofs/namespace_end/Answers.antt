-- `headers::namespace_end` meets its contract: one string, and a second behind it. Assumes nothing.
use mathlib.Core.Path.{sym, ◌∙◌}
use lib.ListN.{length}
use Rattle.octets.proofs.Ends.{behind}
use Rattle.octets.proofs.Passed.{handed_on}
use Rattle.headers.proofs.Parts.{namespace_stop, namespace_on}
use Rattle.headers.proofs.namespace_end.Goals as goal

pub returns-in_err-next : goal.returns-in_err-next
returns-in_err-next c =
    let a = c.args in
    rw (handed_on c.from_residual.result _ c.from_residual.ensures.1) (sym (namespace_stop a.s.now a.at _ _ (sym c.in_err-next.ensures.0)), tt)

pub returns : goal.returns
returns c =
    let a = c.args in
    let f = c.in_ok-next.ensures in
    let t = c.text_end-2 in (t.ensures.0 ∙ sym (namespace_on a.s.now a.at _ (sym f.0)), behind a.at _ t.result (length a.s.now) f.1.0 t.ensures.1)
