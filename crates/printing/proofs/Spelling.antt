-- A number's digits from the last on: each is put before those that stand already.
use mathlib.Core.Path.{◌≡◌, sym, ap, ◌∙◌}
use mathlib.Core.List.{List, [], ◌∷◌, ◌++◌, append_assoc}
use Prim.Native.Nat.{ℕ, zero, suc, ◌+◌, ◌-◌, ◌/◌, ◌%◌, ◌≤◌, ◌<◌}
use native.Mathlib.Omega.{arith}
use lib.ListN.{length, drop, set, length-set}
use lib.Seq.{drop-cons, get_or-set_same, drop-set-lt}
use borrow.Author.Tests.{lt-ltb, le-ltb}
use Rattle.printing.specs.Text.{digits}

before : (i d : ℕ) (s : List ℕ) → 0 < i → i ≤ length s → d ∷ drop i s ≡ drop (i - 1) (set s (i - 1) d)
before zero d s h k = absurd (omega arith)
before (suc i) d s h k =
    let low : suc i - 1 ≡ i = omega arith in
    let inside : i < length (set s i d) = simp length-set (omega arith) in
    rw (low, drop-cons (set s i d) i 0 inside, get_or-set_same s i d 0 (omega arith)) (ap (λ (x : List ℕ). d ∷ x) (sym (drop-set-lt (suc i) s i d (omega arith))))

pub last_digit : (i n : ℕ) (s : List ℕ) → 0 < i → i ≤ length s → n < 10 → digits i n ++ drop i s ≡ drop (i - 1) (set s (i - 1) (48 + n % 10))
unfolding digits
last_digit zero n s h k small = absurd (omega arith)
last_digit (suc i) n s h k small = rw (lt-ltb n 10 small) (before (suc i) (48 + n % 10) s h k)

pub more_digits : (i n : ℕ) (s : List ℕ) → 0 < i → i ≤ length s → 10 ≤ n
    → digits i n ++ drop i s ≡ digits (i - 1) (n / 10) ++ drop (i - 1) (set s (i - 1) (48 + n % 10))
unfolding digits
more_digits zero n s h k large = absurd (omega arith)
more_digits (suc i) n s h k large =
    let low : suc i - 1 ≡ i = omega arith in
    rw (le-ltb n 10 large, append_assoc (digits i (n / 10)) ((48 + n % 10) ∷ []) (drop (suc i) s))
    (ap (λ (l : List ℕ). digits i (n / 10) ++ l) (before (suc i) (48 + n % 10) s h k)
    ∙ ap (λ (j : ℕ). digits j (n / 10) ++ drop (suc i - 1) (set s (suc i - 1) (48 + n % 10))) (sym low))
