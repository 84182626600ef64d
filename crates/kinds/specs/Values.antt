-- A value as it is handed out and given: what its bits say at its basic type, and back.
use Rattle.std.specs.Prelude.{ℕ, List, [], cond, eqb}
use Rattle.kinds.specs.Kinds.{signed, unsigned}
use Rattle.kinds.specs.Forms as forms
use Rattle.kinds.specs.declared.Basic.{Basic}
use Rattle.kinds.specs.declared.Basic.TheVariants as basic
use Rattle.kinds.specs.declared.Value.{Value}
use Rattle.kinds.specs.declared.Value.TheVariants as value

-- What the bits of a value of each basic type say: a number at its own width, signed by two's complement or not; float and double as bits; a boolean is 1 or not. Octets are no number.
abbrev pub numeral : Basic → ℕ → Value
numeral basic.Int n = value.Int (signed 4 n)
numeral basic.UnsignedInt n = value.UnsignedInt n
numeral basic.Long n = value.Long (signed 8 n)
numeral basic.UnsignedLong n = value.UnsignedLong n
numeral basic.Float n = value.Float n
numeral basic.Double n = value.Double n
numeral basic.HexBinary n = value.HexBinary
numeral basic.String n = value.String
numeral basic.Boolean n = value.Boolean (eqb n 1)
numeral basic.Byte n = value.Byte (signed 1 n)
numeral basic.UnsignedByte n = value.UnsignedByte n
numeral basic.Short n = value.Short (signed 2 n)
numeral basic.UnsignedShort n = value.UnsignedShort n

-- A value's basic type.
abbrev pub basic_of_value : Value → Basic
basic_of_value (value.Int x) = basic.Int
basic_of_value (value.UnsignedInt x) = basic.UnsignedInt
basic_of_value (value.Long x) = basic.Long
basic_of_value (value.UnsignedLong x) = basic.UnsignedLong
basic_of_value (value.Float x) = basic.Float
basic_of_value (value.Double x) = basic.Double
basic_of_value value.HexBinary = basic.HexBinary
basic_of_value value.String = basic.String
basic_of_value (value.Boolean x) = basic.Boolean
basic_of_value (value.Byte x) = basic.Byte
basic_of_value (value.UnsignedByte x) = basic.UnsignedByte
basic_of_value (value.Short x) = basic.Short
basic_of_value (value.UnsignedShort x) = basic.UnsignedShort

-- A value's bits at its type's width; 0 where it is octets.
abbrev pub bits_of_value : Value → ℕ
bits_of_value (value.Int x) = unsigned 4 x
bits_of_value (value.UnsignedInt x) = x
bits_of_value (value.Long x) = unsigned 8 x
bits_of_value (value.UnsignedLong x) = x
bits_of_value (value.Float x) = x
bits_of_value (value.Double x) = x
bits_of_value value.HexBinary = 0
bits_of_value value.String = 0
bits_of_value (value.Boolean x) = cond x 1 0
bits_of_value (value.Byte x) = unsigned 1 x
bits_of_value (value.UnsignedByte x) = x
bits_of_value (value.Short x) = unsigned 2 x
bits_of_value (value.UnsignedShort x) = x

-- A value that was read: its bits where it is a number, its octets where it has them.
abbrev pub bits_of : forms.Value → ℕ
bits_of (forms.bits n) = n
bits_of (forms.held xs) = 0

abbrev pub octets_of : forms.Value → List ℕ
octets_of (forms.bits n) = []
octets_of (forms.held xs) = xs

-- By its basic type: the number that its bits say; octets are handed out as a part.
abbrev pub value_of : Basic → forms.Value → Value
value_of b v = numeral b (bits_of v)
