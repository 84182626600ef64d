-- The laws of `Only`; and that the header check, the step and the whole check give no refusal number but those listed for each, by the parts of each reading. Assumes nothing.
use Prim.Native.Nat.{ℕ, ◌+◌}
use mathlib.Core.Path.{◌≡◌, refl, subst}
use mathlib.Core.List.{List, []}
use mathlib.Core.Bool.{Bool, true, false, ◌&&◌}
use native.Mathlib.Omega.{arith}
use native.Mathlib.Nat.{le_refl}
use lib.ListN.{length, take}
use lib.Dec.{leb}
use Rattle.octets.specs.Limits.{book_room, most_layouts}
use Rattle.octets.specs.Reading.{Read, ok, no, ◌then◌, choose}
use Rattle.octets.proofs.Inverse.{no_ok}
use Rattle.layouts.specs.Book.{as17, layouts_at, book_of}
use Rattle.layouts.specs.Answers.{is_among}
use Rattle.headers.specs.Header.{header_at}
use Rattle.elements.specs.Steps.{step_at}
use Rattle.elements.specs.Reading.{whole}
use Rattle.elements.proofs.Refusing.{Stays, header_stays, whole_stays, step_stays}
use Rattle.promises.specs.Refusals.{Only, header_numbers, step_numbers, whole_numbers}

pub taken : {A : Type 0} {ns : List ℕ} (a : A) (next : ℕ) → Only ns (ok a next)
taken a next = record { number = λ n p e. absurd (no_ok e refl) }

pub given : {A : Type 0} {ns : List ℕ} (n p : ℕ) → is_among n ns ≡ true → Only {A = A} ns (no n p)
given {ns = ns} n p h = record { number = λ m q e. let same : n ≡ m = cc in subst (λ (x : ℕ). is_among x ns ≡ true) same h }

abbrev pub In : List ℕ → ℕ → Type 0
In ns n = is_among n ns ≡ true

pub only : {A : Type 0} {ns : List ℕ} (end : ℕ) (r : Read A) → Stays (In ns) end r → Only ns r
only end (ok a next) h = taken a next
only end (no n p) h = given n p h.0

-- Of two readings one after the other, of a choice, and of a book, whose faults are all 17.
module _ {ns : List ℕ} where
  pub only_with : {A B : Type 0} (r : Read A) (f : A → ℕ → Read B) → Only ns r → ((a : A) (next : ℕ) → r ≡ ok a next → Only ns (f a next)) → Only ns (r then f)
  only_with (ok a next) f h k = k a next refl
  only_with (no n p) f h k = given n p (h.number n p refl)

  pub only_then : {A B : Type 0} (r : Read A) (f : A → ℕ → Read B) → Only ns r → ((a : A) (next : ℕ) → Only ns (f a next)) → Only ns (r then f)
  only_then r f h k = only_with r f h λ a next _. k a next

  pub only_choose : {A : Type 0} (t : Bool) (x y : Unit {0} → Read A) → Only ns (x tt) → Only ns (y tt) → Only ns (choose t x y)
  only_choose true x y h k = h
  only_choose false x y h k = k

  as17_only : {A : Type 0} → In ns 17 → (r : Read A) → Only ns (as17 r)
  as17_only h (ok a next) = taken a next
  as17_only h (no n p) = given 17 0 h

  pub book_17 : In ns 17 → (octets : List ℕ) (used : ℕ) → Only ns (book_of octets used)
  unfolding book_of
  book_17 h octets used = only_choose (leb book_room (length octets) && leb used book_room) _ _ (as17_only h (layouts_at most_layouts [] (take used octets) 0)) (given 17 0 h)

module _ (s : List ℕ) where
  pub header_only : Only header_numbers (header_at s)
  header_only = only (length s) (header_at s) (header_stays (In header_numbers) s (length s) (le_refl (length s)) refl (refl, refl, refl, refl, refl, refl))

  pub whole_only : Only whole_numbers (whole s)
  whole_only =
      only (length s) (whole s)
      (whole_stays (In whole_numbers) s (length s) (le_refl (length s)) refl (refl, refl, refl, refl, refl, refl) (refl, refl, refl, refl, refl, refl, refl, refl, refl, refl, refl, refl))

  pub step_only : (at rows : ℕ) (octets : List ℕ) (used : ℕ) → Only step_numbers (step_at s at rows octets used)
  step_only at rows octets used =
      only (at + length s) (step_at s at rows octets used)
      (step_stays (In step_numbers) s (at + length s) (omega arith) refl refl refl (refl, refl, refl, refl, refl, refl, refl, refl, refl, refl, refl, refl) at rows octets used (omega arith))
