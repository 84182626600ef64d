-- `questions::Asked::field_octets` meets its contract: the octets behind their length where the type has any, else none. Assumes nothing.
use mathlib.Core.Path.{◌≡◌, sym, ap, ◌∙◌}
use mathlib.Core.Bool.{Bool, true}
use mathlib.Core.List.{List}
use Prim.Native.Nat.{ℕ}
use Rattle.octets.specs.Reading.{Read, ok}
use Rattle.octets.specs.Asked.{part_of}
use Rattle.octets.specs.declared.Room.TheVariants.{Document}
use Rattle.texts.specs.Texts.{led_in}
use Rattle.texts.specs.declared.Rule.{Rule}
use Rattle.kinds.specs.Kinds.{form_of}
use Rattle.kinds.specs.Values.{octets_of}
use Rattle.kinds.specs.declared.Kind.{Kind}
use Rattle.rows.specs.Row.{Field}
use Rattle.row_fields.specs.Places.{Spotted, is_held}
use Rattle.row_fields.proofs.Spelt.{held_stood, number_held}
use Rattle.questions.proofs.Asked.field_octets.Goals as goal

-- Whether its type has octets: what was asked of a kind that is its own.
held : {kind its : Kind} {answer b : Bool} → kind ≡ its → answer ≡ is_held (form_of kind) → answer ≡ b → is_held (form_of its) ≡ b
held same is q = ap (λ (k : Kind). is_held (form_of k)) (sym same) ∙ (sym is ∙ q)

-- Then they stand behind a length.
stood : {s octets : List ℕ} {read : Read Field} {attribute value : ℕ} (p : Spotted s octets read attribute value) → is_held (form_of p.field.attribute.kind) ≡ true
    → (rule : Rule) × (led_in rule Document s value ≡ ok (octets_of p.field.value) p.after)
stood {s} {value = value} p q = held_stood s p.end value (form_of p.field.attribute.kind) p.inside q p.reads

pub returns-then-not-is_held : goal.returns-then-not-is_held
returns-then-not-is_held c =
    let p = c.in-Ok.ensures.0 in
    let kind = c.kind_behind-kind.ensures p.field.attribute p.last p.names in
    sym (number_held _ p.end _ (form_of p.field.attribute.kind) (held kind c.is_held.ensures c.if-not-is_held.true) p.reads) ∙ sym (ap (part_of (λ (f : Field). octets_of f.value)) p.is)

pub returns : goal.returns
returns c =
    let p = c.in-Ok.ensures.0 in
    let kind = c.kind_behind-kind.ensures p.field.attribute p.last p.names in
    let (rule, reads) = stood p (held kind c.is_held.ensures c.if-not-is_held.false) in
    c.led_part.ensures rule (octets_of p.field.value) p.after reads ∙ sym (ap (part_of (λ (f : Field). octets_of f.value)) p.is)

pub led_part-requires : goal.led_part-requires
led_part-requires c =
    let p = c.in-Ok.ensures.0 in
    let kind = c.kind_behind-kind.ensures p.field.attribute p.last p.names in
    let (rule, reads) = stood p (held kind c.is_held.ensures c.if-not-is_held.false) in
    (p.short, record { rule = rule; octets = _; next = _; reads = reads })
