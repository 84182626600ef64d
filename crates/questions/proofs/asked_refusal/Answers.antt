-- `questions::asked_refusal` meets its contract: the refusal of what is lent, else what the kind answers. Assumes nothing.
use Rattle.std.proofs.Common.{rules}
use mathlib.Core.Path.{sym}
use Rattle.octets.proofs.Spans.{each_octet}
use Rattle.octets.proofs.Asked.{refused_as}
use Rattle.elements.specs.Steps.{lent_book}
use Rattle.elements.proofs.Before.{lent_good}
use Rattle.questions.proofs.Questions.{unlent, opens}
use Rattle.elements.specs.Kinds.{number_of_kind}
use Rattle.questions.proofs.asked_refusal.Goals as goal

pub returns-in_err-lent_refusal : goal.returns-in_err-lent_refusal
returns-in_err-lent_refusal c =
    let a = c.args in
    let r = c.in_err-lent_refusal.field-0.0 in
    search (
      rules,
      unlent (number_of_kind a.wanted) a.doc.now a.at a.rows a.book.now a.used r.number r.place
          (refused_as (lent_book a.doc.now a.rows a.book.now a.used) r.number r.place (sym c.in_err-lent_refusal.ensures)),
    )

-- What is lent is not refused.
pub returns : goal.returns
returns c =
    let a = c.args in
    let o = each_octet a.book.now c.type_inv.book in
    opens (number_of_kind a.wanted) a.doc.now a.at a.rows a.book.now a.used o (lent_good a.doc.now a.rows a.book.now a.used o (sym c.in_ok-lent_refusal.ensures)) _ c.kind_refusal.ensures

pub kind_refusal-requires : goal.kind_refusal-requires
kind_refusal-requires c =
    let a = c.args in
    (lent_good a.doc.now a.rows a.book.now a.used (each_octet a.book.now c.type_inv.book) (sym c.in_ok-lent_refusal.ensures)).0
