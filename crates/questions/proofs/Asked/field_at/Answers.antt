-- `questions::Asked::field_at` meets its contract: what stands before the question, then the field over the book's used octets. Assumes nothing.
use Rattle.std.proofs.Common.{rules}
use Rattle.layouts.specs.Book.{book_in}
use Rattle.questions.proofs.Questions.{field_unopened, field_placed}
use Rattle.questions.proofs.Asked.field_at.Goals as goal

pub returns-in_err-asked_refusal : goal.returns-in_err-asked_refusal
returns-in_err-asked_refusal c =
    let q = c.args.self in
    let r = c.in_err-asked_refusal.field-0.0 in
    search (rules, field_unopened q.doc.now q.at q.rows q.book.now q.used c.args.n r.number r.place c.in_err-asked_refusal.ensures)

pub returns : goal.returns
returns c =
    let q = c.args.self in
    let o = c.in_ok-asked_refusal.ensures in
    field_placed q c.args.n o c.field_here.result (c.field_here.ensures (book_in q.book.now q.used) o.image)
