-- `texts::led_end` meets its contract: what is there is asked its rule. Assumes nothing.
use Prim.Native.Nat.{◌+◌, ◌-◌}
use mathlib.Core.Path.{sym, ap, ◌∙◌, subst}
use Rattle.octets.specs.Reading.{part}
use Rattle.octets.proofs.Passed.{handed_on}
use Rattle.texts.specs.Texts.{holds, fault}
use Rattle.texts.specs.declared.Rule.{Rule}
use Rattle.texts.proofs.Ends.{Answers, answers_none, answers_end, answers_bad}
use Rattle.texts.proofs.led_end.Goals as goal

pub returns-in_err-next : goal.returns-in_err-next
returns-in_err-next c =
    let a = c.args in
    subst (Answers a.rule a.room a.s.now a.at) (sym (handed_on c.from_residual.result c.in_err-next.field-0.0 c.from_residual.ensures.1))
    (answers_none a.rule a.room a.s.now a.at _ c.in_err-next.was c.octets_end.ensures.0)

pub returns-in-Free : goal.returns-in-Free
returns-in-Free c =
    let a = c.args in
    let next = c.in_ok-next.next in
    answers_end a.rule a.room a.s.now a.at next c.in_ok-next.was c.octets_end.ensures.0 c.octets_end.ensures.1
    (ap (λ (r : Rule). holds r (part a.s.now (a.at + 4) (next - (a.at + 4)))) c.in-Free.is)

pub returns-then-is_utf8 : goal.returns-then-is_utf8
returns-then-is_utf8 c =
    let a = c.args in
    let next = c.in_ok-next.next in
    answers_end a.rule a.room a.s.now a.at next c.in_ok-next.was c.octets_end.ensures.0 c.octets_end.ensures.1
    (ap (λ (r : Rule). holds r (part a.s.now (a.at + 4) (next - (a.at + 4)))) c.in-Characters.is ∙ (sym c.is_utf8.ensures ∙ c.if-is_utf8.true))

pub returns-else-is_utf8 : goal.returns-else-is_utf8
returns-else-is_utf8 c =
    let a = c.args in
    let next = c.in_ok-next.next in
    answers_bad a.rule a.room a.s.now a.at next c.in_ok-next.was c.octets_end.ensures.0 _ (sym (ap fault c.in-Characters.is))
    (ap (λ (r : Rule). holds r (part a.s.now (a.at + 4) (next - (a.at + 4)))) c.in-Characters.is ∙ (sym c.is_utf8.ensures ∙ c.if-is_utf8.false))
