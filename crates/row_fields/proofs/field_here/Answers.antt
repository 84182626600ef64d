-- `row_fields::field_here` meets its contract: the row's refusal, 18 where it has no field n, else the places of the field's attribute and value. Assumes nothing.
use native.Mathlib.Omega.{arith}
use Prim.Native.Nat.{ℕ, ◌<◌}
use mathlib.Core.List.{List}
use Rattle.std.proofs.lemmas.Result.{err_from_is_err_and}
use Rattle.octets.specs.Reading.{Read}
use Rattle.layouts.specs.Answers.{Has}
use Rattle.rows.specs.Row.{Row}
use Rattle.row_fields.specs.Places.{Line}
use Rattle.row_fields.proofs.Line.{field_unread, field_none, field_spotted}
use Rattle.row_fields.proofs.field_here.Goals as goal

-- Where the row's layout has more than n attributes, attribute n is there.
has : (s book : List ℕ) (read : Read Row) (place count first end n : ℕ) → Line s book read place count first end → n < count → Has book place n
has s book read place count first end n l h = record { layout = l.layout; end = l.last; reads = l.stands; more = omega (arith, l.counts, h) }

pub returns-in_err-row : goal.returns-in_err-row
returns-in_err-row c =
    let p = err_from_is_err_and c.from_residual.result c.from_residual.ensures.1 in
    rw (p.1, p.2) (λ b i. field_unread b _ _ _ _ _ (c.in_err-row.ensures b i))

pub returns-then-row-n : goal.returns-then-row-n
returns-then-row-n c = λ b i. field_none b _ _ _ _ _ _ _ _ (c.in_ok-row.ensures b i) c.if-row-n.true

pub returns : goal.returns
returns c = λ b i.
    let l = c.in_ok-row.ensures b i in
    field_spotted b _ _ _ _ _ _ _ _ l _ _ (c.attribute_place-attribute.ensures l.layout l.last l.stands)
    (c.value_place-value.ensures l.layout l.last l.row.fields l.stands l.fields)
