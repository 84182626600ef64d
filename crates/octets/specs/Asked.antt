-- What is asked of a reading: whether it is refused, an item of a list in it, a part of what it holds, and where that stands.
use Rattle.std.specs.Prelude.{ℕ, ◌≤◌, ◌≡◌, List, [], ◌∷◌, length, drop, Result, Ok, Err}
use Rattle.octets.specs.Limits.{longest}
use Rattle.octets.specs.Reading.{Read, ok, no}
use Rattle.octets.specs.declared.Refused.{Refused}

-- The refusal question: none, or its number and place.
abbrev pub refusal_of : {A : Type 0} → Read A → Result (Unit {0}) Refused
refusal_of (ok a next) = Ok tt
refusal_of (no n p) = Err (record { number = n; place = p })

-- Item n of a list, counted from 0. Refusal 18, last of all: there is none.
abbrev pub first_of : {A : Type 0} → ℕ → List A → ℕ → Read A
first_of place [] next = no 18 place
first_of place (a ∷ rest) next = ok a next

unfoldable pub nth : {A : Type 0} → ℕ → ℕ → List A → ℕ → Read A
nth n place xs next = first_of place (drop n xs) next

-- A part handed back of what was asked for; where there is a refusal it is empty.
abbrev pub part_of : {A : Type 0} → (A → List ℕ) → Read A → List ℕ
part_of f (ok a next) = f a
part_of f (no n p) = []

-- What was asked for is what stands at a place of a document that is not too long.
pub record Standing {A : Type 0} (s : List ℕ) (one : ℕ → Read A) (read : Read A) (p : ℕ) : Type 0 where
  pub item : A
  pub next : ℕ
  pub last : ℕ
  pub is : read ≡ ok item next
  pub reads : one p ≡ ok item last
  pub short : length s ≤ longest

abbrev pub StandsAt : {A : Type 0} → List ℕ → (ℕ → Read A) → Read A → Result ℕ Refused → Type 0
StandsAt s one read (Ok p) = Standing s one read p
StandsAt s one read (Err r) = read ≡ no r.number r.place

-- What stands where something was found, or the refusal in its place.
abbrev pub found_at : {A : Type 0} → (ℕ → Read A) → Result ℕ Refused → Read A
found_at one (Ok p) = one p
found_at one (Err r) = no r.number r.place
