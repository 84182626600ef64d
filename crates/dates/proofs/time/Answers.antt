-- `dates::time` meets its contract. Assumes nothing.
use native.Mathlib.Omega.{arith}
use mathlib.Core.Path.{◌≡◌, refl, sym, ap, ◌∙◌}
use mathlib.Core.List.{◌++◌}
use mir.Syntax.{w64}
use mir.Val.{SFits, to_z, of_z}
use mir.Facts.{to_z-of_z}
use Prim.Native.Nat.{ℕ, ◌≤◌, ◌<◌}
use lib.IntN.{ℤ, pos, negsuc}
use borrow.Author.Tests.{le-leb, lt-leb}
use Rattle.printing.specs.Text.{spelt, signed}
use Rattle.printing.proofs.Pages.{then, says}
use Rattle.dates.specs.Times.{moment_text, time_text}
use Rattle.dates.proofs.time.Goals as goal

-- A time by its bits: past every date, or dated.
outside : (z : ℤ) → 253402300799999 < of_z w64 z → spelt "@" ++ signed z ≡ time_text z
unfolding time_text
outside (pos n) h = rw (lt-leb n 253402300799999 h) refl
outside (negsuc n) h = refl

inside : (z : ℤ) → SFits w64 z → of_z w64 z ≤ 253402300799999 → moment_text (of_z w64 z) ≡ time_text z
unfolding time_text
inside (pos n) f h = rw (le-leb n 253402300799999 h) refl
inside (negsuc n) f h = absurd (omega (arith, f.sfits))

-- The bits of a time as it is handed over, as they were answered, are those of the time.
module _ {z : ℤ} (f : SFits w64 z) {bits : ℕ} (is : bits ≡ of_z w64 (to_z w64 (of_z w64 z))) where
  bits_are : of_z w64 z ≡ bits
  bits_are = sym (is ∙ ap (of_z w64) (to_z-of_z f))

pub returns-then-bits-gt253402300799999 : goal.returns-then-bits-gt253402300799999
returns-then-bits-gt253402300799999 c =
    let f = c.ranges.time in
    says
    (ap (λ (z : ℤ). spelt "@" ++ signed z) (to_z-of_z f)
    ∙ outside c.args.time (rw (bits_are f c.cast_unsigned-bits.ensures) c.if-bits-gt253402300799999.true))
    (then c.octet.ensures c.signed.ensures)

pub returns : goal.returns
returns c =
    let f = c.ranges.time in
    let is = bits_are f c.cast_unsigned-bits.ensures in
    says (ap moment_text (sym is) ∙ inside c.args.time f (rw is c.if-bits-gt253402300799999.false)) c.moment.ensures
