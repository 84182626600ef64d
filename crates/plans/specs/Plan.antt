-- A layout's plan: the steps that pass the values of a row, with the octets of numbers that stand side by side summed.
use Rattle.std.specs.Prelude.{ℕ, ◌+◌, ◌*◌, ◌%◌, ◌≤◌, ◌≡◌, List, [], ◌∷◌, length, eqb}
use Rattle.octets.specs.Reading.{choose, part}
use Rattle.texts.specs.declared.Rule.{Rule}
use Rattle.texts.specs.declared.Rule.TheVariants as rule
use Rattle.kinds.specs.declared.Form.{Form}
use Rattle.kinds.specs.declared.Form.TheVariants as form
use Rattle.kinds.specs.Kinds.{form_of}
use Rattle.layouts.specs.Layout.{Attribute, Layout}

-- The number that says what rule the octets obey that close a step.
abbrev pub closer : Rule → ℕ
closer rule.Free = 1
closer rule.Characters = 3

-- What a form adds to a step: four for each octet of a number; two for a boolean, one or three for octets behind a length, and these close the step.
abbrev pub mark : Form → ℕ
mark (form.Fixed w) = w * 4
mark form.Truth = 2
mark (form.Led rule) = closer rule

-- The steps of attributes behind a sum. The last step is a multiple of four, every other is not.
unfoldable pub plan_of : ℕ → List Attribute → List ℕ
plan_of sum [] = sum ∷ []
plan_of sum (a ∷ others) =
    choose (eqb (mark (form_of a.kind) % 4) 0) (λ _. plan_of (sum + mark (form_of a.kind)) others)
    (λ _. (sum + mark (form_of a.kind)) ∷ plan_of 0 others)

-- A layout's plan.
abbrev pub plan_for : Layout → List ℕ
plan_for l = plan_of 0 l.attributes

-- Numbers that stand in a list from a place on.
pub record Begins (s : List ℕ) (at : ℕ) (xs : List ℕ) : Type 0 where
  pub inside : at + length xs ≤ length s
  pub is : part s at (length xs) ≡ xs

-- How many steps there are in all: 64 that say where plans stand, and those of plans.
abbrev pub most_steps : ℕ
most_steps = 1216

-- Some attributes' plan stands at a place.
pub record Plan (steps : List ℕ) (from : ℕ) : Type 0 where
  pub long : length steps ≡ most_steps
  pub attributes : List Attribute
  pub stands : Begins steps from (plan_of 0 attributes)
