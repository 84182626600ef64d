-- `layouts::attribute_end` meets its contract, by what `text_end` answered. Assumes nothing.
use mathlib.Core.Path.{sym, ◌∙◌}
use lib.ListN.{length}
use Rattle.std.proofs.lemmas.Result.{err_from_is_err_and}
use Rattle.octets.proofs.Ends.{behind}
use Rattle.layouts.proofs.Places.{attribute_on, attribute_stop}
use Rattle.layouts.proofs.attribute_end.Goals as goal

pub returns-in_err-next : goal.returns-in_err-next
returns-in_err-next c =
    let a = c.args in
    let p = err_from_is_err_and c.from_residual.result c.from_residual.ensures.1 in
    rw (p.1, p.2) (sym (attribute_stop a.s.now a.at _ _ (sym c.in_err-next.ensures.0)), tt)

pub returns : goal.returns
returns c =
    let a = c.args in
    let t = c.in_ok-next in
    (c.kind_end.ensures.0 ∙ sym (attribute_on a.s.now a.at _ (sym t.ensures.0)), behind a.at _ c.kind_end.result (length a.s.now) t.ensures.1.0 c.kind_end.ensures.1)
