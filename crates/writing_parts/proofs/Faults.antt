-- The laws of faults: what holds where there is none, and that a refusal is one by its number. Assumes nothing.
use Prim.Native.Nat.{ℕ}
use mathlib.Core.Path.{◌≡◌, refl, sym, ap, ◌∙◌}
use mathlib.Core.Bool.{Bool, true, false}
use native.Mathlib.Omega.{arith}
use Rattle.octets.specs.Reading.{Read, ok, no}
use Rattle.std.specs.Prelude.{Result, Ok, Err}
use Rattle.std.specs.Result.{result_and}
use Rattle.octets.specs.Faults.{number_of, fault_of, back}
use Rattle.octets.specs.declared.Fault as octets
use Rattle.writing_parts.specs.Faults.{Fault, None, Refused, faulted, fine, unless, refused_by, ◌or◌}

-- A refusal is not fine, and has one number.
pub fine_not : {f : Fault} {n : ℕ} → f ≡ Refused n → f ≡ fine → ⊥
fine_not e h = let z : ◌≡◌ {A = ℕ} 0 1 = cc in omega arith

pub same_number : {n m : ℕ} → Refused n ≡ Refused m → n ≡ m
same_number e = cc

-- A fault of the code is one by its number, and so is an answer without a value.
pub one_fault : (f g : octets.Fault) → number_of f ≡ number_of g → f ≡ g
one_fault f g e = sym (back f) ∙ (ap fault_of e ∙ back g)

pub faulted_once : (x y : Result (Unit {0}) octets.Fault) → faulted x ≡ faulted y → x ≡ y
faulted_once (Ok u) (Ok v) e = refl
faulted_once (Ok u) (Err g) e = absurd (fine_not e refl)
faulted_once (Err f) (Ok u) e = absurd (fine_not refl e)
faulted_once (Err f) (Err g) e = ap Err (one_fault f g (same_number e))

-- A fault with a test behind it is none where the test holds.
pub or_fine : {f : Fault} {t : Bool} {n : ℕ} (m : ℕ) → f or unless t m ≡ Refused n → f ≡ fine → t ≡ true → ⊥
or_fine m e h k = fine_not e (rw (h, k) refl)

-- Where the first of two faults is none, neither is.
pub both_fine : (f g : Fault) → f or g ≡ fine → (f ≡ fine) × (g ≡ fine)
both_fine None g e = (refl, e)
both_fine (Refused n) g e = absurd (fine_not refl e)

-- A test without fault holds, and a reading without fault is accepted.
pub holds : (t : Bool) (n : ℕ) → unless t n ≡ fine → t ≡ true
holds true n e = refl
holds false n e = absurd (fine_not refl e)

pub is_read : {A : Type 0} (r : Read A) → refused_by r ≡ fine → (a : A) × (n : ℕ) × (r ≡ ok a n)
is_read (ok a n) e = (a, n, refl)
is_read (no n p) e = absurd (fine_not refl e)

-- The first of two, as the code has it.
pub faulted_and : (a b : Result (Unit {0}) octets.Fault) {r : Result (Unit {0}) octets.Fault} → r ≡ result_and a b → faulted r ≡ faulted a or faulted b
faulted_and (Ok u) b e = ap faulted e
faulted_and (Err f) b e = ap faulted e
