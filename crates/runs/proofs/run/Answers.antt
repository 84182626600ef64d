-- `runs::run` meets its contract: what stands before every step, and 1 past the end, each leaving book and words; then the run over a good book. Assumes nothing.
use native.Mathlib.Omega.{arith}
use borrow.Author.Rules.{rules}
use Prim.Native.Nat.{◌≤◌}
use mathlib.Core.Path.{◌∙◌}
use lib.ListN.{length}
use Rattle.octets.specs.Limits.{longest, most_rows}
use Rattle.octets.proofs.Spans.{each_octet}
use Rattle.layouts.specs.Book.{book_in, IsBook}
use Rattle.elements.specs.Walk.{lent_at}
use Rattle.octets.proofs.Passed.{handed_on}
use Rattle.elements.proofs.Before.{guard_refused, guard_good, step_is}
use Rattle.elements.proofs.Told.{element_cut}
use Rattle.runs.proofs.Runs.{asked_refused}
use Rattle.runs.proofs.run.Goals as goal
use Rattle.runs.proofs.run.Goals.{In_ok-lent_refusal}

good : (c : In_ok-lent_refusal) → let a = c.args in (length a.doc.now ≤ longest) × (a.rows ≤ most_rows) × IsBook a.book.now a.used
good c =
    let a = c.args in
    guard_good a.doc.now a.rows a.book.now a.used _ c.lent_refusal.ensures (each_octet a.book.now c.slice_known-1.given) c.in_ok-lent_refusal.was

pub returns-then-doc-at : goal.returns-then-doc-at
returns-then-doc-at c =
    let a = c.args in
    let (short, few, is) = good (goal.at.returns-then-doc-at c).In_ok-lent_refusal in
    let cut = element_cut a.doc.now a.at a.rows (book_in a.book.now a.used) (omega (arith, c.if-doc-at.true)) in
    let e = step_is a.doc.now a.rows a.book.now a.used a.at short is few ∙ cut in
    asked_refused a.doc.now (lent_at a.at a.rows a.book.now a.used) a.words.now 1 a.at e

pub items-requires : goal.items-requires
items-requires c =
    let (short, few, is) = good (goal.at.items-requires c).In_ok-lent_refusal in
    (c.if-doc-at.false, short, few, is, search rules)

pub returns-in_err-lent_refusal : goal.returns-in_err-lent_refusal
returns-in_err-lent_refusal c =
    let a = c.args in
    let r = c.in_err-lent_refusal.field-0.0 in
    let e = guard_refused a.doc.now a.rows a.book.now a.used _ c.lent_refusal.ensures a.at r.number r.place c.in_err-lent_refusal.was in
    rw (handed_on c.from_residual.result r c.from_residual.ensures.1) (asked_refused a.doc.now (lent_at a.at a.rows a.book.now a.used) a.words.now _ _ e)
