-- `questions::layout_here` meets its contract: the layout is read to its last type, then judged by the book; nothing is put. Assumes nothing.
use Rattle.std.proofs.Common.{rules, arith}
use Rattle.std.specs.Prelude.{Ok}
use Rattle.std.proofs.lemmas.Grind.{common_steps}
use Prim.Native.Nat.{◌+◌}
use mathlib.Core.Path.{◌≡◌, sym}
use Rattle.octets.proofs.Ends.{ended}
use Rattle.layouts.specs.Layout.{layout_at}
use Rattle.questions.proofs.Questions.{over_refused, over_unlearnt, over_judged}
use Rattle.questions.proofs.layout_here.Goals as goal

pub returns-in_err-next : goal.returns-in_err-next
returns-in_err-next c = λ b i.
    let a = c.args in
    search (rules, over_refused b a.doc.now a.at _ _ (sym c.in_err-next.ensures.0))

pub returns-in_err-map_err : goal.returns-in_err-map_err
returns-in_err-map_err c = λ b i.
    let a = c.args in
    let x = ended (layout_at a.doc.now (a.at + 4)) c.in_ok-next.next (sym c.in_ok-next.ensures.0) in
    let j = c.judge.ensures b x.0 i x.1 in
    grind (arith, common_steps, over_unlearnt b a.doc.now a.at x.0 c.in_ok-next.next x.1, j)

pub returns : goal.returns
returns c = λ b i.
    let a = c.args in
    let x = ended (layout_at a.doc.now (a.at + 4)) c.in_ok-next.next (sym c.in_ok-next.ensures.0) in
    let j = c.judge.ensures b x.0 i x.1 in
    let is : c.judge.result ≡ Ok c.in_ok-map_err.field-0 = search rules in
    over_judged b a.doc.now a.at x.0 c.in_ok-next.next x.1 c.requires.short _ c.in_ok-map_err.field-0 (rw is at j)
