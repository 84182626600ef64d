-- Laws of comparing and copying octets: by the first octet, and by what is lent of a whole.
use Prim.Native.Nat.{ℕ, zero, suc, ◌+◌, ◌-◌, ◌/◌, ◌%◌, ◌≤◌, ◌<◌}
use mathlib.Core.Path.{◌≡◌, refl, ap, sym}
use mathlib.Core.List.{List, [], ◌∷◌, ◌++◌, append_assoc, append-nil}
use mathlib.Core.Bool.{Bool, true, false, ◌&&◌}
use native.Mathlib.Numerals.{add-one}
use native.Mathlib.Omega.{arith}
use lib.ListN.{length, take, drop, get_or, set, length-drop, length-set}
use lib.Seq.{drop-cons, take-suc, set_at, length-take-le, drop-length, take_all, drop-drop, get_or-set_same, drop-set-lt}
use lib.Dec.{eqb}
use borrow.Author.Tests.{eq-eqb, eqb-true}
use Rattle.octets.specs.Reading.{same}
use Rattle.octets.specs.Writing.{word, over}

pub both_true : (a b : Bool) → a && b ≡ true → (a ≡ true) × (b ≡ true)
both_true true true e = (refl, refl)
both_true true false e = (refl, e)
both_true false true e = (e, refl)
both_true false false e = (e, e)

pub same_true : (xs ys : List ℕ) → same xs ys ≡ true → xs ≡ ys
same_true [] [] e = refl
same_true [] (y ∷ ys) e = let z : ◌≡◌ {A = ℕ} 0 1 = cc in absurd (omega arith)
same_true (x ∷ xs) [] e = let z : ◌≡◌ {A = ℕ} 0 1 = cc in absurd (omega arith)
same_true (x ∷ xs) (y ∷ ys) e = let b = both_true (eqb x y) (same xs ys) e in cc (eqb-true x y b.0, same_true xs ys b.1)

pub same_refl : (xs : List ℕ) → same xs xs ≡ true
same_refl [] = refl
same_refl (x ∷ xs) = rw (eq-eqb x x refl, same_refl xs)

pub same_lengths : (a b : List ℕ) → (length a ≡ length b → ⊥) → same a b ≡ false
same_lengths [] [] h = absurd (h refl)
same_lengths [] (y ∷ b) h = refl
same_lengths (x ∷ a) [] h = refl
same_lengths (x ∷ a) (y ∷ b) h = rw (same_lengths a b (λ e. h (ap suc e))) (never (eqb x y))
  where
    never : (t : Bool) → (t && false) ≡ false
    never true = refl
    never false = refl

-- One octet more of d stands over z.
pub copied : (d z : List ℕ) (i : ℕ) → i < length d → i < length z → set (take i d ++ drop i z) i (get_or d i 0) ≡ take (i + 1) d ++ drop (i + 1) z
copied d z i h k =
    let e : length (take i d) ≡ i = length-take-le i d (omega arith) in
    rw (drop-cons z i 0 k, set_at (take i d) (get_or z i 0) (drop (suc i) z) (get_or d i 0) i e, add-one i, take-suc d i 0 h, append_assoc)

-- The part from a place to the end is the rest, and nothing is left after it.
pub rest : (xs : List ℕ) (at : ℕ) → take (length xs - at) (drop at xs) ≡ drop at xs
rest xs at = take_all (length xs - at) (drop at xs) (simp length-drop (omega arith))

pub none_after : (xs : List ℕ) (at : ℕ) → drop (length xs - at) (drop at xs) ≡ []
none_after xs at = rw (← length-drop at xs) (drop-length (drop at xs))

-- What a callee put over the start of the rest it was lent, said of the whole.
pub written : (xs ys new : List ℕ) (at k : ℕ) → ys ≡ new ++ drop k (take (length xs - at) (drop at xs))
    → take at xs ++ (ys ++ drop (length xs - at) (drop at xs)) ≡ take at xs ++ (new ++ drop (at + k) xs)
written xs ys new at k e = simp (e, rest, none_after, drop-drop, append_assoc, append-nil)

-- The last octet of a word, put before what stands behind the word.
pub word_back : (i n : ℕ) (s : List ℕ) → 0 < i → i ≤ length s
    → word i n ++ drop i s ≡ word (i - 1) (n / 256) ++ drop (i - 1) (set s (i - 1) (n % 256))
unfolding word
word_back zero n s h k = absurd (omega arith)
word_back (suc i) n s h k =
    let low : suc i - 1 ≡ i = omega arith in
    let inside : i < length (set s i (n % 256)) = simp length-set (omega arith) in
    rw (low, drop-cons (set s i (n % 256)) i 0 inside, get_or-set_same s i (n % 256) 0 (omega arith), append_assoc) (ap (λ (x : List ℕ). word i (n / 256) ++ (n % 256 ∷ x)) (sym (drop-set-lt (suc i) s i (n % 256) (omega arith))))

-- What was laid over the start of the rest is laid over the whole.
pub laid : (xs ys new : List ℕ) (at : ℕ) → ys ≡ new ++ drop (length new) (take (length xs - at) (drop at xs))
    → take at xs ++ (ys ++ drop (length xs - at) (drop at xs)) ≡ over xs at new
unfolding over
laid xs ys new at e = written xs ys new at (length new) e
