-- What is asked of a reading: that a refusal question says whether there is a value, and an item of a list whether the list is long enough.
use Prim.Native.Nat.{ℕ, zero, suc, ◌+◌, ◌≤◌}
use Rattle.std.specs.Prelude.{Result, Ok, Err}
use mathlib.Core.Path.{◌≡◌, refl, sym, ap, ◌∙◌}
use mathlib.Core.List.{List, [], ◌∷◌}
use native.Mathlib.Omega.{arith}
use lib.ListN.{length, drop}
use lib.Seq.{drop-nil}
use Rattle.octets.specs.Reading.{Read, ok, no, is_ok, be, number}
use Rattle.octets.specs.Asked.{refusal_of, nth, part_of, StandsAt, found_at}
use Rattle.octets.proofs.Inverse.{ok_value}
use Rattle.octets.proofs.Ends.{number_ok, number_room}
use Rattle.octets.specs.declared.Refused.{Refused}

-- A refusal question that answers none has a value behind it; one that answers a refusal has none.
pub unrefused : {A : Type 0} (r : Read A) → refusal_of r ≡ Ok tt → (a : A) × (next : ℕ) × (r ≡ ok a next)
unrefused (ok a next) e = (a, next, refl)
unrefused (no n p) e = absurd (let z : ◌≡◌ {A = ℕ} 0 1 = cc in omega arith)

pub refused_as : {A : Type 0} (r : Read A) (n p : ℕ) → refusal_of r ≡ Err (record { number = n; place = p }) → r ≡ no n p
refused_as (no m q) n p e =
    let r : ◌≡◌ {A = Refused} (record { number = m; place = q }) (record { number = n; place = p }) = cc in
    let a : m ≡ n = ap (λ (r : Refused). r.number) r in
    let b : q ≡ p = ap (λ (r : Refused). r.place) r in
    cc
refused_as (ok a next) n p e = absurd (let z : ◌≡◌ {A = ℕ} 0 1 = cc in omega arith)

-- A part of what was asked for is that of what stands there.
pub part_stands : {A : Type 0} (s : List ℕ) (one : ℕ → Read A) (read : Read A) (f : A → List ℕ) (r : Result ℕ Refused) → StandsAt s one read r → part_of f (found_at one r) ≡ part_of f read
part_stands s one read f (Ok p) e = ap (part_of f) e.reads ∙ sym (ap (part_of f) e.is)
part_stands s one read f (Err r) e = sym (ap (part_of f) e)

-- A number that was read is what its octets spell.
pub number_is : (s : List ℕ) (w at n next : ℕ) → number w s at ≡ ok n next → (at + w ≤ length s) × (be w s at ≡ n)
number_is s w at n next e = let h = number_room s at w (ap is_ok e) in (h, ok_value (number_ok s at w h) e)

-- Item n of a list that has no more than n, or more.
module _ {A : Type 0} where
  past : (n : ℕ) (xs : List A) → length xs ≤ n → drop n xs ≡ []
  past n [] h = drop-nil n
  past zero (a ∷ xs) h = absurd (omega arith)
  past (suc n) (a ∷ xs) h = past n xs (omega arith)

  module _ (n place : ℕ) (xs : List A) (next : ℕ) where
    pub nth_none : length xs ≤ n → nth n place xs next ≡ no 18 place
    unfolding nth
    nth_none h = rw (past n xs h) refl

    pub nth_some : {a : A} {rest : List A} → drop n xs ≡ a ∷ rest → nth n place xs next ≡ ok a next
    unfolding nth
    nth_some e = rw e refl
