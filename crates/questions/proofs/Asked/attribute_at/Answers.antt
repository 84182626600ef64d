-- `questions::Asked::attribute_at` meets its contract: the layout's refusal, 18 where it has no attribute n, else that attribute's place. Assumes nothing.
use Rattle.std.proofs.Common.{rules}
use native.Mathlib.Omega.{arith}
use Rattle.questions.proofs.Questions.{attribute_unasked, attribute_none, attribute_stands}
use Rattle.questions.proofs.Asked.attribute_at.Goals as goal

pub returns : goal.returns
returns c = let l = c.in_ok-place.ensures in attribute_stands _ _ _ _ _ _ l _ (c.attribute_place.ensures l.item l.last l.reads)

pub returns-then-count-n : goal.returns-then-count-n
returns-then-count-n c =
    let l = c.in_ok-place.ensures in
    attribute_none _ _ _ _ _ _ l (omega (arith, c.attribute_count-count.ensures l.item l.last l.reads, c.if-count-n.true))

pub returns-in_err-place : goal.returns-in_err-place
returns-in_err-place c =
    let q = c.args.self in
    let r = c.in_err-place.field-0.0 in
    search (rules, attribute_unasked q.doc.now q.at q.rows q.book.now q.used c.args.n r.number r.place c.in_err-place.ensures)
