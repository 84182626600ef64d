-- A number of a basic type is the bits of the value that it says, which has that type.
use mathlib.Core.Path.{◌≡◌, refl, sym}
use mathlib.Core.Bool.{Bool, true, false, cond}
use Prim.Native.Nat.{ℕ, ◌^◌, ◌≤◌, ◌<◌}
use native.Mathlib.Omega.{arith}
use lib.Dec.{eqb}
use lib.IntN.{negsuc}
use borrow.Author.Tests.{eqb-true, eqb-false}
use Rattle.kinds.specs.Kinds.{form_by, signed}
use Rattle.kinds.specs.Values.{numeral, basic_of_value, bits_of_value}
use Rattle.kinds.specs.declared.Basic.{Basic}
use Rattle.kinds.specs.declared.Basic.TheVariants as basic
use Rattle.kinds.specs.declared.Form.{Form}
use Rattle.kinds.specs.declared.Form.TheVariants as form
use Rattle.kinds.specs.declared.Value.TheVariants as value
use Rattle.kinds.proofs.Unsigned.{unsigned_signed}

-- The bits of a form: a number that fits its octets, 0 or 1, none of octets.
abbrev pub Bits : Form → ℕ → Type 0
Bits (form.Fixed w) n = n < 256 ^ w
Bits form.Truth n = n ≤ 1
Bits (form.Led rule) n = n ≡ 0

pub numeral_basic : (b : Basic) (n : ℕ) → basic_of_value (numeral b n) ≡ b
numeral_basic basic.Int n = refl
numeral_basic basic.UnsignedInt n = refl
numeral_basic basic.Long n = refl
numeral_basic basic.UnsignedLong n = refl
numeral_basic basic.Float n = refl
numeral_basic basic.Double n = refl
numeral_basic basic.HexBinary n = refl
numeral_basic basic.String n = refl
numeral_basic basic.Boolean n = refl
numeral_basic basic.Byte n = refl
numeral_basic basic.UnsignedByte n = refl
numeral_basic basic.Short n = refl
numeral_basic basic.UnsignedShort n = refl

truth : (n : ℕ) → n ≤ 1 → cond (eqb n 1) 1 0 ≡ n
truth n h = go (eqb n 1) refl
  where
    go : (t : Bool) → eqb n 1 ≡ t → cond t 1 0 ≡ n
    go true e = sym (eqb-true n 1 e)
    go false e = omega (arith, eqb-false n 1 e)

pub numeral_bits : (b : Basic) (n : ℕ) → Bits (form_by b) n → bits_of_value (numeral b n) ≡ n
numeral_bits basic.Int n h = unsigned_signed 4 n h
numeral_bits basic.UnsignedInt n h = refl
numeral_bits basic.Long n h = unsigned_signed 8 n h
numeral_bits basic.UnsignedLong n h = refl
numeral_bits basic.Float n h = refl
numeral_bits basic.Double n h = refl
numeral_bits basic.HexBinary n h = sym h
numeral_bits basic.String n h = sym h
numeral_bits basic.Boolean n h = truth n h
numeral_bits basic.Byte n h = unsigned_signed 1 n h
numeral_bits basic.UnsignedByte n h = refl
numeral_bits basic.Short n h = unsigned_signed 2 n h
numeral_bits basic.UnsignedShort n h = refl

-- A byte of FE and a short of FFFE are -2. Computed.
pub minus_two : (numeral basic.Byte 0xfe ≡ value.Byte (negsuc 1)) × (numeral basic.Short 0xfffe ≡ value.Short (negsuc 1))
unfolding signed
minus_two = (refl, refl)
