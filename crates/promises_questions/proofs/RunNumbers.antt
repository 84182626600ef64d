-- A run gives a step's refusal numbers, each for the same input: it is refused as its first step is, and has no refusal of its own. Assumes nothing.
use Prim.Native.Nat.{ℕ}
use mathlib.Core.Path.{◌≡◌, refl, ◌∙◌}
use mathlib.Core.List.{List, [], ◌∷◌}
use Rattle.octets.specs.Reading.{Read, ok, no, ◌then◌}
use Rattle.elements.specs.Steps.{step_at}
use Rattle.elements.specs.Walk.{walk, Lent, lent_at, turn_over}
use Rattle.runs.specs.Runs.{run_asked}
use Rattle.promises.specs.Refusals.{refusal_of, refusals_of, Gives, step_numbers, Inputs}
use Rattle.promises.proofs.Numbers.{taken, only_then}
use Rattle.promises.proofs.Given.{refusals}

-- What goes on without a refusal of its own gives the numbers of what stands before it.
module _ {I A B : Type 0} (f : I → Read A) (g : I → B) (place : I → ℕ) where
  abbrev further : I → Read B
  further i = f i then λ _ _. ok (g i) (place i)

  same : (is : List I) → refusals_of further is ≡ refusals_of f is
  same [] = refl
  same (i ∷ is) = rw (one (f i), same is) refl
    where
      one : (r : Read A) → refusal_of (r then λ _ _. ok (g i) (place i)) ≡ refusal_of r
      one (ok a next) = refl
      one (no n p) = refl

  gives_further : {ns : List ℕ} → Gives f ns → Gives further ns
  gives_further h =
      record { only = λ i. only_then (f i) _ (h.only i) λ _ _. taken (g i) (place i); inputs = h.inputs; each = same h.inputs ∙ h.each }

abbrev lent : Inputs → Lent
lent i = lent_at i.place i.rows i.octets i.used

pub run_gives : Gives (λ (i : Inputs). run_asked i.document (lent_at i.place i.rows i.octets i.used)) step_numbers
unfolding run_asked
run_gives =
    gives_further (λ (i : Inputs). step_at i.document i.place i.rows i.octets i.used) (λ (i : Inputs). walk (turn_over i.document) 4096 (lent i))
    (λ (i : Inputs). (walk (turn_over i.document) 4096 (lent i)).spot.at) refusals.step
