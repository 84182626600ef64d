-- The thirteen basic types and what a type number means.
use Rattle.std.specs.Prelude.{ℕ, suc, ◌+◌, ◌-◌, ◌*◌, ◌^◌, ◌%◌, ◌/◌, List, [], ◌∷◌, leb, ltb, eqb, ℤ, pos, negsuc}
use Rattle.std.proofs.Math.Option.{Option, some, none}
use Rattle.std.proofs.Math.IntN.{sub_ℕ}
use Rattle.octets.specs.Reading.{Read, ok, no, ◌then◌, choose, number}
use Rattle.texts.specs.declared.Rule.TheVariants.{Free, Characters}
use Rattle.kinds.specs.declared.Basic.{Basic}
use Rattle.kinds.specs.declared.Basic.TheVariants.{Int, UnsignedInt, Long, UnsignedLong, Float, Double, HexBinary, String, Boolean, Byte, UnsignedByte, Short, UnsignedShort}
use Rattle.kinds.specs.declared.Kind.{Kind}
use Rattle.kinds.specs.declared.Form.{Form}
use Rattle.kinds.specs.declared.Form.TheVariants.{Fixed, Truth, Led}

-- The table of type numbers: each type's low octet.
abbrev pub code_of : Basic → ℕ
code_of Int = 0x21
code_of UnsignedInt = 0x22
code_of Long = 0x23
code_of UnsignedLong = 0x24
code_of Float = 0x25
code_of Double = 0x26
code_of HexBinary = 0x27
code_of String = 0x28
code_of Boolean = 0x29
code_of Byte = 0x2a
code_of UnsignedByte = 0x2b
code_of Short = 0x2c
code_of UnsignedShort = 0x2d

abbrev pub basics : List Basic
basics =
    Int ∷ UnsignedInt ∷ Long ∷ UnsignedLong ∷ Float ∷ Double ∷ HexBinary ∷ String ∷ Boolean ∷ Byte ∷ UnsignedByte ∷ Short ∷ UnsignedShort
    ∷ []

-- The basic type of a low octet, among some.
unfoldable pub among : ℕ → List Basic → Option Basic
among code [] = none
among code (b ∷ rest) = choose (eqb code (code_of b)) (λ _. some b) (λ _. among code rest)

unfoldable pub basic_of : ℕ → Option Basic
basic_of code = among code basics

-- A type's number: the octet that marks a derived type, which has no effect, and the basic type's.
abbrev pub number_of : Kind → ℕ
number_of k = k.derived * 256 + code_of k.basic

-- The table's third column: so many octets, a 0 or 1 in one octet, octets behind a length, which in a string are characters.
abbrev pub form_by : Basic → Form
form_by Int = Fixed 4
form_by UnsignedInt = Fixed 4
form_by Long = Fixed 8
form_by UnsignedLong = Fixed 8
form_by Float = Fixed 4
form_by Double = Fixed 8
form_by HexBinary = Led Free
form_by String = Led Characters
form_by Boolean = Truth
form_by Byte = Fixed 1
form_by UnsignedByte = Fixed 1
form_by Short = Fixed 2
form_by UnsignedShort = Fixed 2

-- The form of a type's values, which the octet that marks a derived type does not change.
abbrev pub form_of : Kind → Form
form_of k = form_by k.basic

-- Two's complement: the signed number that has the bits n in w octets.
unfoldable pub signed : ℕ → ℕ → ℤ
signed w n = choose (ltb n (2 ^ (w * 8 - 1))) (λ _. pos n) (λ _. sub_ℕ n (2 ^ (w * 8)))

-- And back: the bits of a signed number in w octets.
unfoldable pub unsigned : ℕ → ℤ → ℕ
unsigned w (pos n) = n
unsigned w (negsuc n) = 2 ^ (w * 8) - suc n

-- A kind by its basic type, or none: refusal 8.
abbrev pub kind_for : ℕ → ℕ → ℕ → Option Basic → Read Kind
kind_for at t next (some b) = ok (record { derived = t / 256; basic = b }) next
kind_for at t next none = no 8 at

-- What a type number t at a place means. Refusal 9: its top bit is set; else 8: bits 16 to 30 are not zero or the low octet is not in the table.
abbrev pub kind_of : ℕ → ℕ → ℕ → Read Kind
kind_of at t next =
    choose (leb (2 ^ 31) t) (λ _. no 9 at)
    (λ _. choose (ltb t 0x10000) (λ _. kind_for at t next (basic_of (t % 256))) (λ _. no 8 at))

-- A four-octet type at a place.
unfoldable pub kind_at : List ℕ → ℕ → Read Kind
kind_at s at = number 4 s at then λ t next. kind_of at t next
