-- `elements::lent_refusal` meets its contract: the document's length, the book and the rows passed, in this order. Assumes nothing.
use native.Mathlib.Omega.{arith}
use mathlib.Core.Path.{sym, ap, ◌∙◌}
use Rattle.octets.proofs.Spans.{each_octet}
use Rattle.layouts.proofs.Checks.{good_book}
use Rattle.octets.specs.Asked.{refusal_of}
use Rattle.elements.proofs.Before.{lent_long, lent_unbooked, lent_many, lent_is}
use Rattle.elements.proofs.lent_refusal.Goals.{then-not-is_book-via-then-not-is_book, then-not-is_book-via-else-not-is_book+then-rows-gt-MOST_ROWS}
use Rattle.elements.proofs.lent_refusal.Goals as goal

pub returns-then-doc-gt-LONGEST : goal.returns-then-doc-gt-LONGEST
returns-then-doc-gt-LONGEST c =
    let a = c.args in
    sym (ap refusal_of (lent_long a.doc.now a.rows a.book.now a.used c.if-doc-gt-LONGEST.true))

-- No book is lent, or one with too many rows.
pub returns-then-not-is_book : goal.returns-then-not-is_book
returns-then-not-is_book c =
    let a = c.args in
    elim c.then-not-is_book.branch [
      | then-not-is_book-via-then-not-is_book w ↦ sym (ap refusal_of (lent_unbooked a.doc.now a.rows a.book.now a.used (omega arith) (sym c.is_book.ensures ∙ w.if-not-is_book.true)))
      | then-not-is_book-via-else-not-is_book+then-rows-gt-MOST_ROWS w ↦ sym (ap refusal_of (lent_many a.doc.now a.rows a.book.now a.used (omega arith) (good_book a.book.now a.used (each_octet a.book.now c.type_inv.book) (sym c.is_book.ensures ∙ w.if-not-is_book.false)) w.if-rows-gt-MOST_ROWS.true))
    ]

pub returns : goal.returns
returns c =
    let a = c.args in
    sym (ap refusal_of (lent_is a.doc.now a.rows a.book.now a.used (omega arith) (good_book a.book.now a.used (each_octet a.book.now c.type_inv.book) (sym c.is_book.ensures ∙ c.if-not-is_book.false)) c.if-rows-gt-MOST_ROWS.false))
