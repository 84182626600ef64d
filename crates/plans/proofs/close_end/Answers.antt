-- `plans::close_end` meets its contract: a boolean by its own function; octets that are there are asked whether they are UTF-8, where the step says so. Assumes nothing.
use Prim.Native.Nat.{ℕ, ◌+◌, ◌-◌}
use mathlib.Core.Path.{◌≡◌, refl, sym, ◌∙◌}
use mathlib.Core.Bool.{true, false}
use mathlib.Core.List.{List}
use Rattle.std.specs.Prelude.{Result, Ok, Err, Some, None}
use Rattle.octets.specs.Reading.{part}
use Rattle.octets.specs.declared.Refused.{Refused}
use Rattle.octets.specs.declared.Room.TheVariants.{Stated}
use Rattle.texts.specs.Texts.{holds}
use Rattle.texts.proofs.Ends.{Answers, answers_none, answers_end, answers_bad}
use Rattle.plans.specs.Answers.{passed_of, rule_at, Closes}
use Rattle.plans.proofs.Walking.{closes_led, string_rule, free_rule}
use Rattle.plans.proofs.close_end.Goals as goal
use Rattle.plans.proofs.close_end.Goals.{In-Ok, else-kind-eq3-via-then-kind-eq3+else-not-is_utf8, else-kind-eq3-via-else-kind-eq3}

-- What is answered by the rule closes the step.
module _ (o : In-Ok) where
  abbrev Doc : List ℕ
  Doc = o.args.doc.now

  abbrev String : List ℕ
  String = part Doc (o.args.at + 4) (o.in-Ok.next - (o.args.at + 4))

  closes : (x : Result ℕ Refused) → Answers (rule_at o.args.kind) (Stated o.args.end 0) Doc o.args.at x → Closes Doc o.args.at o.args.end o.args.kind (passed_of x)
  closes x e = closes_led Doc o.args.at o.args.end o.args.kind x o.if-kind-eq2.false e.0 e.1

  kept : holds (rule_at o.args.kind) String ≡ true → Closes Doc o.args.at o.args.end o.args.kind (Some o.in-Ok.next)
  kept t = closes (Ok o.in-Ok.next) (answers_end (rule_at o.args.kind) (Stated o.args.end 0) Doc o.args.at o.in-Ok.next o.in-Ok.is o.octets_end.ensures.0 o.octets_end.ensures.1 t)

  broken : holds (rule_at o.args.kind) String ≡ false → Closes Doc o.args.at o.args.end o.args.kind None
  broken t =
      closes (Err (record { number = _; place = o.args.at }))
      (answers_bad (rule_at o.args.kind) (Stated o.args.end 0) Doc o.args.at o.in-Ok.next o.in-Ok.is o.octets_end.ensures.0 _ refl t)

pub returns-in_default : goal.returns-in_default
returns-in_default c =
    let a = c.args in
    let e = answers_none (rule_at a.kind) (Stated a.end 0) a.doc.now a.at c.in_default.field-0 c.in_default.is c.octets_end.ensures.0 in
    closes_led a.doc.now a.at a.end a.kind (Err c.in_default.field-0) c.if-kind-eq2.false e.0 e.1

pub returns-then-not-is_utf8 : goal.returns-then-not-is_utf8
returns-then-not-is_utf8 c =
    broken (goal.at.returns-then-not-is_utf8 c).In-Ok (string_rule c.args.kind _ c.if-kind-eq3.true ∙ (sym c.is_utf8.ensures ∙ c.if-not-is_utf8.true))

-- A string that is UTF-8, or no string.
pub returns : goal.returns
returns c =
    let o = (goal.at.returns c).In-Ok in
    elim c.else-kind-eq3.branch [
      | else-kind-eq3-via-then-kind-eq3+else-not-is_utf8 w ↦ kept o (string_rule c.args.kind _ w.if-kind-eq3.true ∙ (sym w.is_utf8.ensures ∙ w.if-not-is_utf8.false))
      | else-kind-eq3-via-else-kind-eq3 w ↦ kept o (free_rule c.args.kind _ w.if-kind-eq3.false)
    ]
