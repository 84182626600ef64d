-- `kinds::bits_of_value` meets its contract, by cases on the value's type. Assumes nothing.
use borrow.Author.Rules.{rules}
use mathlib.Core.Path.{◌≡◌, refl, sym, ap, ◌∙◌}
use lib.IntN.{ℤ}
use Prim.Native.Nat.{ℕ, ◌*◌}
use mir.Syntax.{Width, w8, w16, w32, w64}
use mir.Val.{SFits, to_z, of_z, bits}
use mir.Facts.{to_z-of_z}
use Rattle.kinds.specs.Kinds.{unsigned}
use Rattle.kinds.specs.Values.{bits_of_value}
use Rattle.kinds.proofs.Signs.{unsigned_cast}
use Rattle.kinds.proofs.bits_of_value.Goals as goal

-- The bits of a number that fits its width, as the code hands it on.
cast : (w : Width) (k : ℕ) → bits w ≡ k * 8 → (z : ℤ) → SFits w z → of_z w (to_z w (of_z w z)) ≡ unsigned k z
cast w k whole z f = ap (of_z w) (to_z-of_z f) ∙ unsigned_cast w k whole z

pub returns-in-Int : goal.returns-in-Int
returns-in-Int c = c.from.ensures ∙ c.cast_unsigned.ensures ∙ cast w32 4 refl c.in-Int.x (search rules) ∙ sym (ap bits_of_value c.in-Int.is)

pub returns-in-Long : goal.returns-in-Long
returns-in-Long c = c.cast_unsigned-in-Long.ensures ∙ cast w64 8 refl c.in-Long.x (search rules) ∙ sym (ap bits_of_value c.in-Long.is)

pub returns-in-Byte : goal.returns-in-Byte
returns-in-Byte c = c.from-in-Byte.ensures ∙ c.cast_unsigned-in-Byte.ensures ∙ cast w8 1 refl c.in-Byte.x (search rules) ∙ sym (ap bits_of_value c.in-Byte.is)

pub returns-in-Short : goal.returns-in-Short
returns-in-Short c = c.from-in-Short.ensures ∙ c.cast_unsigned-in-Short.ensures ∙ cast w16 2 refl c.in-Short.x (search rules) ∙ sym (ap bits_of_value c.in-Short.is)
