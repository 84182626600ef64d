-- Marked octets: what a number of marks says of each octet, and how far octets are ASCII by the zeros in front of it.
use Prim.Native.Nat.{ℕ, zero, suc, ◌+◌, ◌-◌, ◌*◌, ◌/◌, ◌%◌, ◌^◌, ◌≤◌, ◌<◌}
use mathlib.Core.Path.{◌≡◌, refl, sym, ap, ap₂, ◌∙◌, subst}
use mathlib.Core.List.{List}
use mathlib.Core.Bool.{Bool, true, false}
use native.Mathlib.Nat.{add-zero, add-suc, add_assoc, mul_assoc, pow-zero, pow-suc, one-mul, suc-mul, mod-eq_of_lt, lt_of_lt_of_le}
use native.Mathlib.Omega.{arith}
use lib.ListN.{get_or}
use lib.Dec.{leb, eqb, lit<}
use lib.Arith.{digits_lt, digits_mod}
use lib.Pow.{pow-add, pow_mono, pow-lt}
use lib.Bits.{bit_and, and_block, and_high}
use lib.Count.{count_leading_zeros, leading_length}
use borrow.Author.Tests.{eqb-true, eqb-false, leb-true, leb-false}
use Rattle.octets.specs.Reading.{be}
use Rattle.octets.specs.Writing.{Each, Octet}
use Rattle.octets.proofs.Spans.{each_get_d}
use Rattle.utf8.specs.Answers.{marks, Zeros, Ascii}

-- The top bits of so many octets, as a mask.
abbrev pub tops : ℕ → ℕ
tops zero = 0
tops (suc w) = tops w * 256 + 128

pub marks_be : (w : ℕ) (s : List ℕ) (at : ℕ) → Each Octet s → bit_and (be w s at) (tops w) ≡ marks w s at
unfolding be marks
marks_be zero s at o = refl
marks_be (suc w) s at o =
    let octet : get_or s (at + w) 0 < 256 = each_get_d s (at + w) o in
    let top : get_or s (at + w) 0 / 128 % 2 ≡ get_or s (at + w) 0 / 128 = omega arith in
    and_block 8 (be w s at) (tops w) (get_or s (at + w) 0) 128 octet (lit< tt)
    ∙ ap₂ (λ (m n : ℕ). m * 256 + n) (marks_be w s at o) (and_high (get_or s (at + w) 0) 1 7 ∙ ap (λ (n : ℕ). n * 128) top)

-- Marks one behind another.
marks_join : (w n : ℕ) (s : List ℕ) (at : ℕ) → marks (w + n) s at ≡ marks w s at * 256 ^ n + marks n s (at + w)
unfolding marks
marks_join w zero s at = rw (add-zero w, pow-zero 256) (omega arith)
marks_join w (suc n) s at =
    let again = marks_join w n s at in
    rw (add-suc w n, pow-suc 256 n, ← mul_assoc (marks w s at) (256 ^ n) 256, add_assoc at w n) (omega arith)

marks_lt : (n : ℕ) (s : List ℕ) (at : ℕ) → Each Octet s → marks n s at < 256 ^ n
unfolding marks
marks_lt zero s at o = lit< tt
marks_lt (suc n) s at o =
    let octet : get_or s (at + n) 0 < 256 = each_get_d s (at + n) o in
    rw (pow-suc 256 n) (digits_lt (marks_lt n s at o) (let top : get_or s (at + n) 0 / 128 * 128 < 256 = omega arith in top))

-- Where no octet is marked, all are ASCII.
pub unmarked_ascii : (w : ℕ) (s : List ℕ) (at : ℕ) → marks w s at ≡ 0 → Ascii s at (at + w)
unfolding marks
unmarked_ascii zero s at e i a b = absurd (omega arith)
unmarked_ascii (suc w) s at e i a b = go (eqb i (at + w)) refl (λ h. unmarked_ascii w s at (omega (arith, e)) i a h)
  where
    go : (t : Bool) → eqb i (at + w) ≡ t → (i < at + w → get_or s i 0 < 128) → get_or s i 0 < 128
    go true q before = subst (λ (n : ℕ). get_or s n 0 < 128) (sym (eqb-true i (at + w) q)) (omega (arith, e))
    go false q before = before (let other = eqb-false i (at + w) q in omega arith)

pow_256 : (n : ℕ) → 2 ^ (8 * n) ≡ 256 ^ n
pow_256 zero = refl
pow_256 (suc n) = let more : 8 * suc n ≡ 8 * n + 8 = omega arith in ap (λ (k : ℕ). 2 ^ k) more ∙ pow-add 2 (8 * n) 8 ∙ rw (pow-suc 256 n, pow_256 n) refl

-- Where the marks of n octets take no more than j octets, those before these are ASCII.
front : (n j : ℕ) (s : List ℕ) (at : ℕ) → j ≤ n → marks n s at < 256 ^ j → Ascii s at (at + (n - j))
front n j s at h g =
    let both : n - j + j ≡ n = omega arith in
    unmarked_ascii (n - j) s at (none (marks (n - j) s at) (256 ^ j) (marks j s (at + (n - j))) (rw (← marks_join (n - j) j s at, both) g))
  where
    none : (q p r : ℕ) → q * p + r < p → q ≡ 0
    none zero p r h = refl
    none (suc q) p r h = absurd (omega (arith, suc-mul q p, h))

-- The marks of the last n octets of eight.
pub power : (n : ℕ) → n < 8 → 1 * 2 ^ (8 * n) % 2 ^ 64 ≡ 256 ^ n
power n h = ap (λ (k : ℕ). k % 2 ^ 64) (one-mul (2 ^ (8 * n))) ∙ mod-eq_of_lt (pow-lt (let small : 8 * n < 64 = omega arith in small)) ∙ pow_256 n

pub marks_last : (n : ℕ) (s : List ℕ) (to : ℕ) → Each Octet s → n < 8 → 8 ≤ to → marks 8 s (to - 8) % (1 * 2 ^ (8 * n) % 2 ^ 64) ≡ marks n s (to - n)
marks_last n s to o h g =
    let both : 8 - n + n ≡ 8 = omega arith in
    let there : to - 8 + (8 - n) ≡ to - n = omega arith in
    let joined : marks 8 s (to - 8) ≡ marks (8 - n) s (to - 8) * 256 ^ n + marks n s (to - n) = rw (← there, ← marks_join (8 - n) n s (to - 8), both) refl in
    rw (power n h, joined) (digits_mod (marks (8 - n) s (to - 8)) (marks_lt n s (to - n) o))

-- Runs of ASCII one behind another.
pub ascii_join : (s : List ℕ) (at mid to : ℕ) → Ascii s at mid → Ascii s mid to → Ascii s at to
ascii_join s at mid to p q i a b = go (leb mid i) refl
  where
    go : (t : Bool) → leb mid i ≡ t → get_or s i 0 < 128
    go true e = q i (leb-true mid i e) b
    go false e = p i a (leb-false mid i e)

-- The zeros in front of a number, by its bits.
pub zeros : (m : ℕ) → m < 2 ^ 64 → Zeros m (count_leading_zeros 64 m / 8)
zeros m h =
    let (k, whole, less, more) = leading_length 64 m h in
    let z = count_leading_zeros 64 m / 8 in
    let up : k ≤ 8 * (8 - z) = omega arith in (
      omega arith,
      rw (← pow_256 (8 - z)) (lt_of_lt_of_le less (pow_mono up)),
      λ n g. let few = shorter (8 * n) k more (rw (pow_256 n) g) (leb k (8 * n)) refl in omega arith,
    )
  where
    shorter : (n k : ℕ) → 2 ^ k ≤ 2 * m + 1 → m < 2 ^ n → (t : Bool) → leb k n ≡ t → k ≤ n
    shorter n k l g true e = leb-true k n e
    shorter n k l g false e = absurd (let longer = pow_mono {i = n + 1} {j = k} (let past = leb-false k n e in omega arith) in omega (arith, longer, pow-add 2 n 1, l, g))

-- Of n octets those are ASCII that stand before the first marked one, as many as the number of their marks has zeros more than the eight octets of a number leave.
pub before_mark : (n m r : ℕ) (s : List ℕ) (at end : ℕ) → Each Octet s → m ≡ marks n s at → Zeros m r → end + 8 ≡ at + n + r → (at ≤ end) × Ascii s at end
before_mark n m r s at end o e (most, less, least) q =
    let enough = least n (rw e (marks_lt n s at o)) in
    let run = front n (8 - r) s at (omega arith) (rw (← e) less) in
    (omega arith, λ i a b. run i a (omega arith))
