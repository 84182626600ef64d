-- What the answers of a reading by plan say. Where there is none, what the plan is for is refused by the exact reading too.
use Rattle.std.specs.Prelude.{ℕ, ◌+◌, ◌≤◌, ◌<◌, ◌≡◌, List, false, length, eqb, Option, Some, None, Result, Ok, Err}
use Rattle.octets.specs.Reading.{ok, ends, is_ok, choose, be, reach}
use Rattle.octets.specs.declared.Room.{Room}
use Rattle.octets.specs.declared.Refused.{Refused}
use Rattle.texts.specs.declared.Rule.{Rule}
use Rattle.texts.specs.declared.Rule.TheVariants as rule
use Rattle.kinds.specs.declared.Form.{Form}
use Rattle.kinds.specs.declared.Form.TheVariants as form
use Rattle.layouts.specs.Layout.{Attribute}
use Rattle.rows.specs.Row.{fields_in, values_at}
use Rattle.kinds.specs.Forms.{value_in}
use Rattle.plans.specs.Plan.{plan_of, Begins}

-- A plan was put into the steps from an index on, and ends at another at most, or it would not.
abbrev pub Puts : List ℕ → ℕ → ℕ → List ℕ → Option ℕ → Type 0
Puts steps from to plan (Some end) = (end ≡ from + length plan) × (end ≤ to) × Begins steps from plan
Puts steps from to plan None = to < from + length plan

-- An end, or that there is none.
abbrev pub passed_of : Result ℕ Refused → Option ℕ
passed_of (Ok p) = Some p
passed_of (Err r) = None

-- The rule of octets that close a step, and the form of the value that closes it.
abbrev pub rule_at : ℕ → Rule
rule_at kind = choose (eqb kind 3) (λ _. rule.Characters) (λ _. rule.Free)

abbrev pub closing : ℕ → Form
closing kind = choose (eqb kind 2) (λ _. form.Truth) (λ _. form.Led (rule_at kind))

-- The value that closes a step ends at a place, or is refused.
abbrev pub Closes : List ℕ → ℕ → ℕ → ℕ → Option ℕ → Type 0
Closes s at end kind (Some p) =
    (at ≤ p) × (p ≤ end) × ((room : Room) → reach room s ≡ end → ends (value_in room (closing kind) s at) ≡ ok p p)
Closes s at end kind None = (room : Room) → reach room s ≡ end → is_ok (value_in room (closing kind) s at) ≡ false

-- The values of the attributes whose plan stands at a place of the steps end at a place, or are refused.
abbrev pub Follows : List ℕ → ℕ → ℕ → List ℕ → ℕ → Option ℕ → Type 0
Follows s at end steps from (Some p) =
    (at ≤ p) × (p ≤ end)
    × ((xs : List Attribute) → Begins steps from (plan_of 0 xs) → (room : Room) → reach room s ≡ end → ends (fields_in room xs s at) ≡ ok p p)
Follows s at end steps from None =
    (xs : List Attribute) → Begins steps from (plan_of 0 xs) → (room : Room) → reach room s ≡ end → is_ok (fields_in room xs s at) ≡ false

-- The values behind a row's length, by the same plan, end at a place, or are refused.
abbrev pub Lasts : List ℕ → ℕ → List ℕ → ℕ → Option ℕ → Type 0
Lasts s at steps from (Some p) = (xs : List Attribute) → Begins steps from (plan_of 0 xs) → ends (values_at xs s at (be 4 s at)) ≡ ok p p
Lasts s at steps from None = (xs : List Attribute) → Begins steps from (plan_of 0 xs) → is_ok (values_at xs s at (be 4 s at)) ≡ false
