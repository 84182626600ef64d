-- `reading::step` meets its contract: what stands before every step, which leaves the book; then what the element answers and leaves. Assumes nothing.
use Prim.Native.Nat.{◌≤◌}
use mathlib.Core.Path.{sym, ap, ◌∙◌}
use lib.ListN.{length}
use lib.Seq.{take-length}
use Rattle.std.proofs.lemmas.Result.{err_from_is_err_and}
use Rattle.octets.specs.Limits.{longest, most_rows}
use Rattle.octets.proofs.Spans.{each_octet}
use Rattle.layouts.specs.Book.{IsBook}
use Rattle.elements.specs.Steps.{octets_left}
use Rattle.elements.specs.Answers.{tells}
use Rattle.elements.proofs.Before.{guard_refused, guard_good, step_is}
use Rattle.reading.proofs.step.Goals.{In_ok-lent_refusal}
use Rattle.reading.proofs.step.Goals as goal

pub returns-in_err-lent_refusal : goal.returns-in_err-lent_refusal
returns-in_err-lent_refusal c =
    let a = c.args in
    let (_, is, same) = err_from_is_err_and c.from_residual.result c.from_residual.ensures.1 in
    let e = guard_refused a.doc.now a.rows a.book.now a.used _ c.lent_refusal.ensures a.at _ _ c.in_err-lent_refusal.was in
    (rw (is, same) (sym (ap tells e)), sym (ap (octets_left a.book.now) e))

good : (c : In_ok-lent_refusal) → let a = c.args in (length a.doc.now ≤ longest) × (a.rows ≤ most_rows) × IsBook a.book.now a.used
good c =
    let a = c.args in
    guard_good a.doc.now a.rows a.book.now a.used _ c.lent_refusal.ensures (each_octet a.book.now c.slice_known-1.given) c.in_ok-lent_refusal.was

pub returns : goal.returns
returns c =
    let a = c.args in
    let (short, few, is) = good (goal.at.returns c).In_ok-lent_refusal in
    let e = step_is a.doc.now a.rows a.book.now a.used a.at short is few in
    (c.element.ensures.0 ∙ sym (ap tells e), c.element.ensures.1 ∙ sym (ap (octets_left a.book.now) e))

pub slice_bounds-lent_refusal-end-2 : goal.slice_bounds-lent_refusal-end-2
slice_bounds-lent_refusal-end-2 c = ap length (sym (take-length c.args.book.now))

pub element-requires : goal.element-requires
element-requires c = good (goal.at.element-requires c).In_ok-lent_refusal
