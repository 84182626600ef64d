-- What digits tell: those of a number, filled up with zeros or not, tell that number.
use Prim.Native.Nat.{ℕ, zero, suc, ◌+◌, ◌-◌, ◌*◌, ◌/◌, ◌%◌, ◌^◌, ◌≤◌, ◌<◌}
use mathlib.Core.Path.{◌≡◌, refl, ap, ◌∙◌}
use mathlib.Core.List.{List, [], ◌∷◌, ◌++◌}
use mathlib.Core.Bool.{Bool, true, false, cond}
use native.Mathlib.Omega.{arith}
use native.Mathlib.Nat.{pow-suc}
use lib.Dec.{ltb}
use borrow.Author.Tests.{ltb-true}
use Rattle.printing.specs.Text.{digits, filled}

-- The number that the digits of n and these behind them spell.
abbrev pub total : ℕ → List ℕ → ℕ
total n [] = n
total n (x ∷ xs) = total (n * 10 + (x - 48)) xs

total_last : (n : ℕ) (xs : List ℕ) (x : ℕ) → total n (xs ++ x ∷ []) ≡ total n xs * 10 + (x - 48)
total_last n [] x = refl
total_last n (y ∷ xs) x = total_last (n * 10 + (y - 48)) xs x

-- All digits but the last, and the last.
joined : (k n before : ℕ) → n < 10 ^ suc k → (n / 10 < 10 ^ k → before ≡ n / 10) → before * 10 + (48 + n % 10 - 48) ≡ n
joined k n before h told =
    let small : n < 10 ^ k * 10 = rw pow-suc at h in
    omega (arith, told (omega arith))

pub filled_tells : (k n : ℕ) → n < 10 ^ k → total 0 (filled k n) ≡ n
unfolding filled
filled_tells zero n h = omega arith
filled_tells (suc k) n h = total_last 0 (filled k (n / 10)) (48 + n % 10) ∙ joined k n (total 0 (filled k (n / 10))) h (filled_tells k (n / 10))

pub digits_tell : (k n : ℕ) → n < 10 ^ k → total 0 (digits k n) ≡ n
unfolding digits
digits_tell zero n h = omega arith
digits_tell (suc k) n h = total_last 0 (cond (ltb n 10) [] (digits k (n / 10))) (48 + n % 10) ∙ go (ltb n 10) refl (digits_tell k (n / 10))
  where
    go : (b : Bool) → ltb n 10 ≡ b → (n / 10 < 10 ^ k → total 0 (digits k (n / 10)) ≡ n / 10) → total 0 (cond b [] (digits k (n / 10))) * 10 + (48 + n % 10 - 48) ≡ n
    go true e told = omega (arith, ltb-true n 10 e)
    go false e told = joined k n (total 0 (digits k (n / 10))) h told

-- The first octet of a number is a digit.
pub record Leads (xs : List ℕ) : Type 0 where
  pub lead : ℕ
  pub rest : List ℕ
  pub digit : 48 ≤ lead
  pub is : xs ≡ lead ∷ rest

alone : (n : ℕ) → Leads ((48 + n % 10) ∷ [])
alone n = record { lead = 48 + n % 10; rest = []; digit = omega arith; is = refl }

pub digits_lead : (k n : ℕ) → Leads (digits (suc k) n)
unfolding digits
digits_lead zero n = go (ltb n 10)
  where
    go : (b : Bool) → Leads (cond b [] [] ++ (48 + n % 10) ∷ [])
    go true = alone n
    go false = alone n
digits_lead (suc k) n = go (ltb n 10) (digits_lead k (n / 10))
  where
    go : (b : Bool) → Leads (digits (suc k) (n / 10)) → Leads (cond b [] (digits (suc k) (n / 10)) ++ (48 + n % 10) ∷ [])
    go true l = alone n
    go false l =
        record { lead = l.lead; rest = l.rest ++ (48 + n % 10) ∷ []; digit = l.digit; is = ap (λ (xs : List ℕ). xs ++ (48 + n % 10) ∷ []) l.is }
