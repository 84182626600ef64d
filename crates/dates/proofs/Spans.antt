-- Spans one behind another: how one is found, and that it is the one in which a day lies.
use Prim.Native.Nat.{ℕ, zero, suc, ◌+◌, ◌-◌, ◌≤◌, ◌<◌}
use mathlib.Core.Path.{◌≡◌, refl, ap, ◌∙◌}
use mathlib.Core.Bool.{Bool, true, false}
use native.Mathlib.Omega.{arith}
use native.Mathlib.Numerals.{add-one}
use lib.Dec.{ltb}
use borrow.Author.Tests.{lt-ltb, le-ltb, ltb-true, ltb-false}
use Rattle.octets.specs.Reading.{choose}
use Rattle.dates.specs.Calendar.{span_of}

-- The turns of a loop that looks for it, up to the last span there is.
module _ (size : ℕ → ℕ) where
  pub here : (more k x : ℕ) → x < size k → span_of size more k x ≡ (k, x)
  unfolding span_of
  here zero k x h = refl
  here (suc more) k x h = rw (lt-ltb x (size k) h) refl

  pub on : (most k x : ℕ) → k < most → size k ≤ x → span_of size (most - k) k x ≡ span_of size (most - (k + 1)) (k + 1) (x - size k)
  unfolding span_of
  on most k x h far =
      let one : most - k ≡ suc (most - (k + 1)) = omega arith in
      rw (one, le-ltb x (size k) far) refl

  pub last : (most k x : ℕ) → most ≤ k → span_of size (most - k) k x ≡ (k, x)
  unfolding span_of
  last most k x h =
      let none : most - k ≡ 0 = omega arith in
      rw none refl

  -- No span behind the last is found.
  pub few : (more k x : ℕ) → (span_of size more k x).0 ≤ k + more
  unfolding span_of
  few zero k x = omega arith
  few (suc more) k x = go (ltb x (size k)) (few more (k + 1) (x - size k))
    where
      go : (b : Bool) → (span_of size more (k + 1) (x - size k)).0 ≤ k + 1 + more → (choose b (λ _. (k, x)) (λ _. span_of size more (k + 1) (x - size k))).0 ≤ k + suc more
      go true h = omega arith
      go false h = omega (arith, h)

-- Span k starts where those before it end.
module _ (start size : ℕ → ℕ) (next : (k : ℕ) → start (suc k) ≡ start k + size k) where
  pub later : (a b : ℕ) → a < b → start a + size a ≤ start b
  later a zero h = absurd (omega arith)
  later a (suc b) h = go (ltb a b) refl (later a b)
    where
      go : (t : Bool) → ltb a b ≡ t → (a < b → start a + size a ≤ start b) → start a + size a ≤ start (suc b)
      go true e before = omega (arith, before (ltb-true a b e), next b)
      go false e before =
          let same : a ≡ b = omega (arith, ltb-false a b e) in
          omega (arith, ap (λ (k : ℕ). start k + size k) same, next b)

  pub one_span : (a b x y : ℕ) → start a + x ≡ start b + y → x < size a → y < size b → a ≡ b
  one_span a b x y e h k = go (ltb a b) (ltb b a) refl refl
    where
      go : (t u : Bool) → ltb a b ≡ t → ltb b a ≡ u → a ≡ b
      go true u p q = absurd (omega (arith, later a b (ltb-true a b p)))
      go false true p q = absurd (omega (arith, later b a (ltb-true b a q)))
      go false false p q = omega (arith, ltb-false a b p, ltb-false b a q)

  pub span_in : (more k x : ℕ) → start k + x < start (suc (k + more))
      → let s = span_of size more k x in (start s.0 + s.1 ≡ start k + x) × (s.1 < size s.0)
  unfolding span_of
  span_in zero k x h =
      let none : k + 0 ≡ k = omega arith in
      let inside : x < size k = omega (arith, next k, ap (λ (j : ℕ). start (suc j)) none) in
      (refl, inside)
  span_in (suc more) k x h = go (ltb x (size k)) refl (span_in more (k + 1) (x - size k))
    where
      go : (b : Bool) → ltb x (size k) ≡ b
          → (start (k + 1) + (x - size k) < start (suc (k + 1 + more))
          → let s = span_of size more (k + 1) (x - size k) in (start s.0 + s.1 ≡ start (k + 1) + (x - size k)) × (s.1 < size s.0))
          → let s = choose b (λ _. (k, x)) (λ _. span_of size more (k + 1) (x - size k)) in (start s.0 + s.1 ≡ start k + x) × (s.1 < size s.0)
      go true e r = (refl, ltb-true x (size k) e)
      go false e r =
          let far : size k ≤ x = ltb-false x (size k) e in
          let one : start (k + 1) ≡ start k + size k = ap start (add-one k) ∙ next k in
          let place : suc (k + 1 + more) ≡ suc (k + suc more) = omega arith in
          let t = r (omega (arith, ap start place)) in
          (t.0 ∙ omega arith, t.1)
