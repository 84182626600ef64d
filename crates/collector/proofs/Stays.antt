-- Every refusal fits one number: its number is not 0, and its place is inside the document or, for a step, the place that it was told. Assumes nothing.
use Prim.Native.Nat.{ℕ, ◌≤◌, ◌<◌}
use mathlib.Core.Path.{◌≡◌, refl, sym, subst}
use mathlib.Core.List.{List}
use mathlib.Core.Bool.{Bool, true, false}
use native.Mathlib.Omega.{arith}
use native.Mathlib.Nat.{le_refl}
use lib.ListN.{length}
use lib.Dec.{leb, lit<}
use borrow.Author.Tests.{leb-true, leb-false}
use Rattle.octets.specs.Limits.{longest}
use Rattle.octets.specs.Reading.{Read, ok, no, ◌then◌}
use Rattle.headers.specs.Header.{header_at}
use Rattle.elements.specs.Steps.{step_at}
use Rattle.elements.specs.Reading.{whole}
use Rattle.elements.proofs.Refusing.{Stays, OfHeader, OfElement, header_stays, whole_stays, step_stays}
use Rattle.elements.proofs.Before.{lent_long, step_refused}
use Rattle.headers.proofs.Parts.{header_long}
use Rattle.reading.proofs.Entry.{whole_refused}
use Rattle.elements.specs.Walk.{Walk, walk, Lent, lent_at, turn_over}
use Rattle.runs.specs.Runs.{run_asked}
use Rattle.collector.specs.Calls.{Packs}

abbrev Positive : ℕ → Type 0
Positive n = 0 < n

of_header : OfHeader Positive
of_header = (lit< tt, lit< tt, lit< tt, lit< tt, lit< tt, lit< tt)

of_element : OfElement Positive
of_element = (lit< tt, lit< tt, lit< tt, lit< tt, lit< tt, lit< tt, lit< tt, lit< tt, lit< tt, lit< tt, lit< tt, lit< tt)

packs : {A : Type 0} (end : ℕ) (r : Read A) → end < 4294967296 → Stays Positive end r → Packs r
packs end (ok a next) small h = tt
packs end (no n p) small h = (h.0, omega arith)

module _ (s : List ℕ) where
  -- A document over the limit is refused at 0, whatever is asked.
  limited : {A : Type 0} (r : Read A) → (longest < length s → r ≡ no 2 0) → (length s ≤ longest → Packs r) → Packs r
  limited {A} r long short = go (leb (length s) longest) refl
    where
      go : (t : Bool) → leb (length s) longest ≡ t → Packs r
      go true e = short (leb-true (length s) longest e)
      go false e = subst (Packs {A = A}) (sym (long (leb-false (length s) longest e))) (lit< tt, lit< tt)

  pub header_packs : Packs (header_at s)
  header_packs = limited (header_at s) (header_long s) λ h. packs (length s) (header_at s) (omega arith) (header_stays Positive s (length s) (le_refl (length s)) (lit< tt) of_header)

  pub whole_packs : Packs (whole s)
  whole_packs =
      limited (whole s) (λ h. whole_refused s 2 0 (header_long s h)) λ h.
      packs (length s) (whole s) (omega arith) (whole_stays Positive s (length s) (le_refl (length s)) (lit< tt) of_header of_element)

  pub step_packs : (at rows : ℕ) (octets : List ℕ) (used : ℕ) → at < 4294967296 → Packs (step_at s at rows octets used)
  step_packs at rows octets used small =
      limited (step_at s at rows octets used) (λ h. step_refused s rows octets used at 2 0 (lent_long s rows octets used h)) λ h. go (leb at (length s)) refl h
    where
      go : (t : Bool) → leb at (length s) ≡ t → length s ≤ longest → Packs (step_at s at rows octets used)
      go true e h =
          packs (length s) (step_at s at rows octets used) (omega arith) (step_stays Positive s (length s) (le_refl (length s)) (lit< tt) (lit< tt) (lit< tt) of_element at rows octets used (leb-true at (length s) e))
      go false e h =
          let past = leb-false at (length s) e in
          packs at (step_at s at rows octets used) small (step_stays Positive s at (omega arith) (lit< tt) (lit< tt) (lit< tt) of_element at rows octets used (le_refl at))

  -- A run is refused as its first step is.
  pub run_packs : (at rows : ℕ) (octets : List ℕ) (used : ℕ) → at < 4294967296 → Packs (run_asked s (lent_at at rows octets used))
  unfolding run_asked
  run_packs at rows octets used small = first (step_at s at rows octets used) (walk (turn_over s) 4096 (lent_at at rows octets used)) (step_packs at rows octets used small)
    where
      first : {A : Type 0} (r : Read A) (w : Walk Lent) → Packs r → Packs (r then λ _ _. ok w w.spot.at)
      first (ok a next) p h = tt
      first (no n q) p h = h
