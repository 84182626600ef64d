-- A run by index: item i stands behind the first i things.
use Prim.Native.Nat.{ℕ, zero, suc, ◌<◌}
use mathlib.Core.Path.{◌≡◌, refl, sym, ap, ◌∙◌, subst}
use mathlib.Core.List.{List, [], ◌∷◌}
use native.Mathlib.Omega.{arith}
use lib.ListN.{length, drop}
use Rattle.octets.specs.Reading.{Read, ok, ends, run}
use Rattle.octets.proofs.Inverse.{after}
use Rattle.octets.proofs.Ends.{run_on, run_none}

-- Where item i of a run stands, and what is left behind it.
pub record Item {A : Type 0} (f : ℕ → Read A) (at : ℕ) (xs : List A) (i : ℕ) : Type 0 where
  pub item : A
  pub place : ℕ
  pub next : ℕ
  pub is : drop i xs ≡ item ∷ drop (suc i) xs
  pub before : ends (run f i at) ≡ ok place place
  pub reads : f place ≡ ok item next

module _ {A : Type 0} (f : ℕ → Read A) where
  first_or_later : (at next : ℕ) (a : A) (rest : List A) (i : ℕ) → f at ≡ ok a next → i < length (a ∷ rest)
      → ((j : ℕ) → j < length rest → Item f next rest j) → Item f at (a ∷ rest) i
  first_or_later at next a rest zero e h again = record { item = a; place = at; next = next; is = refl; before = run_none f at; reads = e }
  first_or_later at next a rest (suc i) e h again =
      let more = again i (omega arith) in
      record {
        item = more.item;
        place = more.place;
        next = more.next;
        is = more.is;
        before = run_on f at i next (ap ends e) ∙ more.before;
        reads = more.reads;
      }

  pub run_item : (k at end i : ℕ) (xs : List A) → run f k at ≡ ok xs end → i < length xs → Item f at xs i
  unfolding run
  run_item zero at end i xs e h = let none : [] ≡ xs = cc in absurd (omega (arith, ap length none))
  run_item (suc k) at end i xs e h =
      after (f at) _ e λ a next e₁ e₂.
      after (run f k next) _ e₂ λ rest last e₃ e₄.
      let is : a ∷ rest ≡ xs = cc in
      subst (λ (ys : List A). Item f at ys i) is
      (first_or_later at next a rest i e₁ (subst (λ (ys : List A). i < length ys) (sym is) h) (λ j g. run_item k next last j rest e₃ g))

  -- A run has as many items as its count.
  pub run_length : (k at end : ℕ) (xs : List A) → run f k at ≡ ok xs end → length xs ≡ k
  unfolding run
  run_length zero at end xs e = let none : [] ≡ xs = cc in ap length (sym none)
  run_length (suc k) at end xs e =
      after (f at) _ e λ a next e₁ e₂.
      after (run f k next) _ e₂ λ rest last e₃ e₄.
      let is : a ∷ rest ≡ xs = cc in
      ap length (sym is) ∙ ap suc (run_length k next last rest e₃)
