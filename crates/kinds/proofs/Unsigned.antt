-- The bits of a signed number and two's complement are inverse.
use mathlib.Core.Path.{◌≡◌, refl, ap, ◌∙◌}
use mathlib.Core.Bool.{Bool, true, false}
use Prim.Native.Nat.{ℕ, suc, ◌*◌, ◌-◌, ◌^◌, ◌<◌}
use native.Mathlib.Nat.{pow-suc}
use native.Mathlib.Omega.{arith}
use lib.Dec.{ltb}
use lib.IntN.{ℤ, pos, negsuc}
use lib.Signed.{mag}
use borrow.Author.Tests.{lt-ltb, le-ltb}
use Rattle.kinds.specs.Kinds.{signed, unsigned}

-- The bits of the number that has some bits are those bits; the number that has the bits of a number is that number.
pub unsigned_signed : (k n : ℕ) → n < 2 ^ (k * 8) → unsigned k (signed k n) ≡ n
unfolding unsigned signed
unsigned_signed k n h = go (ltb n (2 ^ (k * 8 - 1))) refl
  where
    go : (t : Bool) → ltb n (2 ^ (k * 8 - 1)) ≡ t → unsigned k (signed k n) ≡ n
    go true e = rw e refl
    go false e = rw (e, lt-ltb n (2 ^ (k * 8)) h) (omega arith)

pub signed_unsigned : (k : ℕ) (z : ℤ) → 0 < k → mag z < 2 ^ (k * 8 - 1) → signed k (unsigned k z) ≡ z
unfolding unsigned signed
signed_unsigned k (pos n) g h = rw (lt-ltb n (2 ^ (k * 8 - 1)) h) refl
signed_unsigned k (negsuc n) g h =
    let twice : 2 ^ (k * 8) ≡ 2 ^ (k * 8 - 1) * 2 = ap (λ (m : ℕ). 2 ^ m) (let m : k * 8 ≡ suc (k * 8 - 1) = omega arith in m) ∙ pow-suc 2 (k * 8 - 1) in
    let back : 2 ^ (k * 8) - suc (2 ^ (k * 8) - suc n) ≡ n = omega arith in
    rw (le-ltb (2 ^ (k * 8) - suc n) (2 ^ (k * 8 - 1)) (omega arith), lt-ltb (2 ^ (k * 8) - suc n) (2 ^ (k * 8)) (omega arith)) (ap negsuc back)
