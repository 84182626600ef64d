-- `questions::Asked::field` meets its contract: the type of the attribute where it stands in the book, and the value of that type where it stands in the document. Assumes nothing.
use Rattle.std.specs.Prelude.{Ok}
use mathlib.Core.Path.{sym, ap, ◌∙◌}
use Rattle.kinds.specs.Values.{value_of}
use Rattle.kinds.specs.declared.Kind.{Kind}
use Rattle.kinds.specs.declared.Value.{Value}
use Rattle.row_fields.proofs.Line.{field_stood}
use Rattle.questions.specs.Answers.{field_tells}
use Rattle.questions.specs.declared.TypedValue.{TypedValue}
use Rattle.questions.proofs.Asked.field.Goals as goal

-- Its type, and its value of that type.
pub returns : goal.returns
unfolding field_stood
returns c =
    let p = c.in_ok-spot.ensures.0 in
    let k = c.kind_behind-kind.result in
    let kind = c.kind_behind-kind.ensures p.field.attribute p.last p.names in
    let typed : Kind → Value → TypedValue = λ kind value. record { kind = kind; value = value } in
    ap (λ (v : Value). Ok (typed k v)) (c.value_at-value.ensures (field_stood p k kind))
    ∙ (ap (λ (k : Kind). Ok (typed k (value_of k.basic p.field.value))) kind ∙ sym (ap field_tells p.is))

pub value_at-value-requires : goal.value_at-value-requires
value_at-value-requires c =
    let p = c.in_ok-spot.ensures.0 in
    field_stood p c.kind_behind-kind.result (c.kind_behind-kind.ensures p.field.attribute p.last p.names)
