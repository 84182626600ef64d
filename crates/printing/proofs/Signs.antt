-- A number of 64 bits by its sign, as text: its size, behind a sign below 0.
use mathlib.Core.Path.{◌≡◌, refl, sym, ap, ◌∙◌}
use mathlib.Core.List.{◌++◌}
use mathlib.Core.Bool.{true, false, false≢true}
use Prim.Native.Nat.{ℕ, ◌<◌}
use native.Mathlib.Omega.{arith}
use native.Mathlib.Numerals.{add-one}
use lib.IntN.{ℤ, pos, negsuc, nat_abs}
use lib.Signed.{lt_z}
use mir.Syntax.{w64}
use mir.Val.{SFits, to_z, of_z}
use mir.Facts.{to_z-of_z}
use borrow.Author.Tests.{ltb-true}
use Rattle.printing.specs.Text.{spelt, decimal, signed}

from_0 : (z : ℤ) → lt_z z (pos 0) ≡ false → decimal (nat_abs z) ≡ signed z
from_0 (pos n) t = refl
from_0 (negsuc n) t = absurd (false≢true (sym t))

below_0 : (z : ℤ) → lt_z z (pos 0) ≡ true → spelt "-" ++ decimal (nat_abs z) ≡ signed z
below_0 (pos n) t = absurd (let h : n < 0 = ltb-true n 0 t in omega arith)
below_0 (negsuc n) t = ap (λ (k : ℕ). spelt "-" ++ decimal k) (sym (add-one n))

-- Of a number as it is handed over, its size as it was answered.
module _ {v : ℤ} (f : SFits w64 v) {n : ℕ} (is : n ≡ nat_abs (to_z w64 (of_z w64 v))) where
  pub above_text : lt_z (to_z w64 (of_z w64 v)) (pos 0) ≡ false → decimal n ≡ signed v
  above_text t = ap decimal is ∙ (from_0 (to_z w64 (of_z w64 v)) t ∙ ap signed (to_z-of_z f))

  pub below_text : lt_z (to_z w64 (of_z w64 v)) (pos 0) ≡ true → spelt "-" ++ decimal n ≡ signed v
  below_text t = ap (λ (k : ℕ). spelt "-" ++ decimal k) is ∙ (below_0 (to_z w64 (of_z w64 v)) t ∙ ap signed (to_z-of_z f))
