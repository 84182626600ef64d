-- Which refusal numbers the header check, the step and the whole check give: all of those listed for each, and no other.
use Rattle.std.specs.Prelude.{ℕ, ◌≡◌, List, [], ◌∷◌, true}
use Rattle.octets.specs.Reading.{Read, ok, no}
use Rattle.layouts.specs.Answers.{is_among}
use Rattle.headers.specs.Header.{header_at}
use Rattle.elements.specs.Steps.{step_at}
use Rattle.elements.specs.Reading.{whole}

-- A reading that no other number refuses.
pub record Only {A : Type 0} (ns : List ℕ) (r : Read A) : Type 0 where
  pub number : (n p : ℕ) → r ≡ no n p → is_among n ns ≡ true

-- The number that refuses each of some inputs; 0 where it is accepted.
abbrev pub refusal_of : {A : Type 0} → Read A → ℕ
refusal_of (ok a next) = 0
refusal_of (no n p) = n

abbrev pub refusals_of : {I A : Type 0} → (I → Read A) → List I → List ℕ
refusals_of f [] = []
refusals_of f (i ∷ rest) = refusal_of (f i) ∷ refusals_of f rest

-- The numbers that readings give: no other, and each of them for an input.
pub record Gives {I A : Type 0} (f : I → Read A) (ns : List ℕ) : Type 0 where
  pub only : (i : I) → Only ns (f i)
  pub inputs : List I
  pub each : refusals_of f inputs ≡ ns

abbrev pub header_numbers : List ℕ
header_numbers = 1 ∷ 2 ∷ 3 ∷ 4 ∷ 5 ∷ 6 ∷ 24 ∷ []

abbrev pub element_numbers : List ℕ
element_numbers = 1 ∷ 4 ∷ 7 ∷ 8 ∷ 9 ∷ 10 ∷ 11 ∷ 12 ∷ 13 ∷ 14 ∷ 15 ∷ 16 ∷ 24 ∷ []

-- A step: an element's, after 2 for the document and 17 for the book and the rows passed.
abbrev pub step_numbers : List ℕ
step_numbers = 2 ∷ 17 ∷ element_numbers

abbrev pub whole_numbers : List ℕ
whole_numbers = 1 ∷ 2 ∷ 3 ∷ 4 ∷ 5 ∷ 6 ∷ 7 ∷ 8 ∷ 9 ∷ 10 ∷ 11 ∷ 12 ∷ 13 ∷ 14 ∷ 15 ∷ 16 ∷ 24 ∷ []

-- A step's inputs.
pub record Inputs : Type 0 where
  pub document : List ℕ
  pub place : ℕ
  pub rows : ℕ
  pub octets : List ℕ
  pub used : ℕ

-- What is promised of the numbers.
pub record Refusals : Type 0 where
  pub header : Gives header_at header_numbers
  pub step : Gives (λ (i : Inputs). step_at i.document i.place i.rows i.octets i.used) step_numbers
  pub check : Gives whole whole_numbers
