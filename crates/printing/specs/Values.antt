-- The text of a field's value.
use Rattle.std.specs.Prelude.{ℕ, List, ◌++◌}
use Rattle.octets.specs.Writing.{word}
use Rattle.printing.specs.Text.{spelt, showing, decimal, signed, truth}
use Rattle.printing.specs.declared.Show.TheVariants.{Hex}
use Rattle.kinds.specs.declared.Value.{Value}
use Rattle.kinds.specs.declared.Value.TheVariants.{Int, UnsignedInt, Long, UnsignedLong, Float, Double, HexBinary, String, Boolean, Byte, UnsignedByte, Short, UnsignedShort}

-- A value by its basic type: a number in decimal, "x" and hex digits for float and double, 0 or 1. What stands for hexBinary and for a string is given.
abbrev pub value_by : List ℕ → List ℕ → Value → List ℕ
value_by octets text (Int x) = signed x
value_by octets text (UnsignedInt x) = decimal x
value_by octets text (Long x) = signed x
value_by octets text (UnsignedLong x) = decimal x
value_by octets text (Float x) = spelt "x" ++ showing Hex (word 4 x)
value_by octets text (Double x) = spelt "x" ++ showing Hex (word 8 x)
value_by octets text HexBinary = octets
value_by octets text String = text
value_by octets text (Boolean x) = truth x
value_by octets text (Byte x) = signed x
value_by octets text (UnsignedByte x) = decimal x
value_by octets text (Short x) = signed x
value_by octets text (UnsignedShort x) = decimal x

-- A value alone: "-" for octets, which stand in the document.
abbrev pub value_text : Value → List ℕ
value_text v = value_by (spelt "-") (spelt "-") v
