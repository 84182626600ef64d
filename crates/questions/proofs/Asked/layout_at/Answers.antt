-- `questions::Asked::layout_at` meets its contract: what stands before the question, then the layout over the book's used octets. Assumes nothing.
use Rattle.std.proofs.Common.{rules}
use Rattle.layouts.specs.Book.{book_in}
use Rattle.questions.proofs.Questions.{layout_unopened, layout_opened}
use Rattle.questions.proofs.Asked.layout_at.Goals as goal

pub returns-in_err-asked_refusal : goal.returns-in_err-asked_refusal
returns-in_err-asked_refusal c = search (rules, layout_unopened _ _ _ _ _ _ _ c.in_err-asked_refusal.ensures)

pub returns : goal.returns
returns c =
    let q = c.args.self in
    let o = c.in_ok-asked_refusal.ensures in
    rw (layout_opened q.doc.now q.at q.rows q.book.now q.used o) (c.layout_here.ensures (book_in q.book.now q.used) o.image)
