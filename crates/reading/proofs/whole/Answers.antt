-- `reading::whole` meets its contract: the header's refusal, or what is counted behind the header. Assumes nothing.
use mathlib.Core.Path.{sym, ap, ◌∙◌}
use Rattle.std.proofs.lemmas.Result.{err_from_is_err_and}
use Rattle.octets.proofs.Spans.{each_octet}
use Rattle.headers.specs.Header.{header_at}
use Rattle.headers.specs.Answers.{Accepted}
use Rattle.headers.proofs.Headers.{header_forth}
use Rattle.reading.specs.Answers.{check_tells}
use Rattle.reading.proofs.Entry.{whole_refused, whole_from}
use Rattle.reading.proofs.whole.Goals.{In_ok-places}
use Rattle.reading.proofs.whole.Goals as goal

pub returns-in_err-places : goal.returns-in_err-places
returns-in_err-places c =
    let (_, is, same) = err_from_is_err_and c.from_residual.result c.from_residual.ensures.1 in
    rw (is, same) (sym (ap check_tells (whole_refused c.args.doc.now _ _ c.in_err-places.ensures)))

-- The header that stands there.
accepted : (k : In_ok-places) → let s = k.args.doc.now in Accepted s (header_at s) k.in_ok-places.places
accepted k = k.in_ok-places.ensures

pub rows_from-requires : goal.rows_from-requires
rows_from-requires c =
    let h = accepted c in
    ((header_forth c.args.doc.now (each_octet c.args.doc.now c.type_inv.doc) h.reads).1, h.short)

-- What was counted behind it.
pub returns-in_err-rows : goal.returns-in_err-rows
returns-in_err-rows c =
    let h = accepted (goal.at.returns-in_err-rows c).In_ok-places in
    let (_, is, same) = err_from_is_err_and c.from_residual-in_err-rows.result c.from_residual-in_err-rows.ensures.1 in
    rw (is, same) (sym (ap check_tells (whole_from c.args.doc.now h.header _ h.reads ∙ sym c.in_err-rows.ensures)))

pub returns : goal.returns
returns c =
    let h = accepted (goal.at.returns c).In_ok-places in
    sym (ap check_tells (whole_from c.args.doc.now h.header _ h.reads ∙ sym c.in_ok-rows.ensures))
