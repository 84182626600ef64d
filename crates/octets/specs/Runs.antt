-- What is passed to find the end of each thing of a run.
use Rattle.std.specs.Prelude.{ℕ, ◌≤◌, ◌≡◌, Result}
use Rattle.octets.specs.Refusals.{Refusal}
use Rattle.octets.specs.Reading.{Read}
use Rattle.octets.specs.Answers.{says, Within}

-- From each place up to an end it may be asked, and what it answers is what a reading says.
pub record Finds (pre : ℕ → Type 0) (post : ℕ → Result ℕ Refusal → Type 0) (end : ℕ) (f : ℕ → Read ℕ) : Type 0 where
  pub takes : (p : ℕ) → p ≤ end → pre p
  pub finds : (p : ℕ) (r : Result ℕ Refusal) → p ≤ end → post p r → (says r ≡ f p) × Within p r end

pub record FindsFrom (pre : ℕ → Type 0) (post : ℕ → Result ℕ Refusal → Type 0) (at : ℕ) : Type 0 where
  pub end : ℕ
  pub reading : ℕ → Read ℕ
  pub inside : at ≤ end
  pub finds : Finds pre post end reading
