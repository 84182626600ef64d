-- Two's complement is what the language's casts compute, at any width.
use mathlib.Core.Path.{◌≡◌, refl, ap, ◌∙◌}
use mathlib.Core.Bool.{Bool, true, false}
use Prim.Native.Nat.{ℕ, suc, ◌*◌, ◌-◌, ◌^◌, ◌<◌}
use lib.Dec.{ltb}
use lib.IntN.{ℤ, pos, negsuc}
use borrow.Author.Tests.{lt-ltb}
use mir.Syntax.{Width, w8, w16, w32, w64, w128}
use mir.Val.{to_z, of_z, bits, hbits}
use Rattle.kinds.specs.Kinds.{signed, unsigned}

halved : (w : Width) → hbits w ≡ bits w - 1
halved w8 = refl
halved w16 = refl
halved w32 = refl
halved w64 = refl
halved w128 = refl

module _ (w : Width) (k : ℕ) (whole : bits w ≡ k * 8) where
  -- The signed number that has the bits n.
  pub signed_cast : (n : ℕ) → n < 2 ^ bits w → to_z w n ≡ signed k n
  unfolding signed
  signed_cast n h = go (ltb n (2 ^ (k * 8 - 1))) refl
    where
      half : hbits w ≡ k * 8 - 1
      half = halved w ∙ ap (λ (m : ℕ). m - 1) whole

      go : (t : Bool) → ltb n (2 ^ (k * 8 - 1)) ≡ t → to_z w n ≡ signed k n
      go true e = rw (half, e) refl
      go false e = rw (half, whole, e, lt-ltb n (2 ^ (k * 8)) (rw whole at h)) refl

  -- And back, the bits of a signed number.
  pub unsigned_cast : (z : ℤ) → of_z w z ≡ unsigned k z
  unfolding unsigned
  unsigned_cast (pos n) = refl
  unsigned_cast (negsuc n) = ap (λ (m : ℕ). 2 ^ m - suc n) whole
