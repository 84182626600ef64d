-- `row_fields::value_at` meets its contract: each type by the number of its width that stands there, signed where the type is. Assumes nothing.
use Prim.Native.Nat.{ℕ, ◌+◌, ◌*◌, ◌^◌, ◌<◌, ◌≤◌}
use mathlib.Core.Path.{◌≡◌, refl, ap, ◌∙◌}
use mathlib.Core.List.{List}
use lib.ListN.{length}
use lib.IntN.{ℤ}
use mir.Syntax.{Width, w8, w16, w32, w64}
use mir.Val.{to_z, of_z, bits}
use Rattle.std.proofs.lemmas.Int.{of_z-to_z}
use Rattle.octets.specs.Reading.{be}
use Rattle.kinds.specs.Kinds.{form_by, signed}
use Rattle.kinds.proofs.Signs.{signed_cast}
use Rattle.kinds.specs.declared.Basic.{Basic}
use Rattle.kinds.specs.declared.Basic.TheVariants as basic
use Rattle.kinds.specs.declared.Value.TheVariants as value
use Rattle.kinds.specs.Values.{numeral, value_of}
use Rattle.row_fields.specs.Places.{Stood}
use Rattle.row_fields.proofs.Spelt.{Wide, stood_room, stood_says}
use Rattle.row_fields.proofs.value_at.Goals as goal
use Rattle.row_fields.proofs.value_at.Lts
use Rattle.row_fields.proofs.value_at.Reads
use Rattle.row_fields.proofs.value_at.Tie

-- The value by its type, where the octets of the document are known.
module _ (k : Lts.After-shared_slice_known Tie.the-claims Reads.Pre Reads.Post) where
  abbrev doc : List ℕ
  doc = k.args.doc.now

  abbrev at : ℕ
  at = k.args.at

  abbrev type : Basic
  type = k.args.basic

  room : (c : Basic) (w : ℕ) → type ≡ c → Wide (form_by c) w → at + w ≤ length doc
  room c w told wide = stood_room doc type c at w told wide k.requires

  says : (c : Basic) (w : ℕ) → type ≡ c → Wide (form_by c) w → (v : Stood doc type at) (n : ℕ) → n ≡ be w doc at → numeral c n ≡ value_of type v.value
  says c w told wide v n e = stood_says doc type c at w told wide v n e

-- The signed number that a cast has made of a number of k octets.
cast : (w : Width) (k : ℕ) → bits w ≡ k * 8 → (n : ℕ) (z : ℤ) → n < 2 ^ bits w → z ≡ to_z w n → to_z w (of_z w z) ≡ signed k n
cast w k whole n z h e = ap (λ (x : ℤ). to_z w (of_z w x)) e ∙ (ap (to_z w) (of_z-to_z w n h) ∙ signed_cast w k whole n h)

pub u32_at-requires : goal.u32_at-requires
u32_at-requires c = room c.before.before basic.Int 4 c.in-Int.is refl

pub u32_at-requires-in-UnsignedInt : goal.u32_at-requires-in-UnsignedInt
u32_at-requires-in-UnsignedInt c = room c.before.before basic.UnsignedInt 4 c.in-UnsignedInt.is refl

pub u64_at-requires : goal.u64_at-requires
u64_at-requires c = room c.before.before basic.Long 8 c.in-Long.is refl

pub u64_at-requires-in-UnsignedLong : goal.u64_at-requires-in-UnsignedLong
u64_at-requires-in-UnsignedLong c = room c.before.before basic.UnsignedLong 8 c.in-UnsignedLong.is refl

pub u32_at-requires-in-Float : goal.u32_at-requires-in-Float
u32_at-requires-in-Float c = room c.before.before basic.Float 4 c.in-Float.is refl

pub u64_at-requires-in-Double : goal.u64_at-requires-in-Double
u64_at-requires-in-Double c = room c.before.before basic.Double 8 c.in-Double.is refl

pub u8_at-requires : goal.u8_at-requires
u8_at-requires c = room c.before.before basic.Boolean 1 c.in-Boolean.is refl

pub u8_at-requires-in-Byte : goal.u8_at-requires-in-Byte
u8_at-requires-in-Byte c = room c.before.before basic.Byte 1 c.in-Byte.is refl

pub u8_at-requires-in-UnsignedByte : goal.u8_at-requires-in-UnsignedByte
u8_at-requires-in-UnsignedByte c = room c.before.before basic.UnsignedByte 1 c.in-UnsignedByte.is refl

pub u16_at-requires : goal.u16_at-requires
u16_at-requires c = room c.before.before basic.Short 2 c.in-Short.is refl

pub u16_at-requires-in-UnsignedShort : goal.u16_at-requires-in-UnsignedShort
u16_at-requires-in-UnsignedShort c = room c.before.before basic.UnsignedShort 2 c.in-UnsignedShort.is refl

pub returns-in-Int : goal.returns-in-Int
returns-in-Int c = λ v.
    ap value.Int (cast w32 4 refl c.u32_at.result _ (c.u32_at.type_inv) c.cast_signed.ensures)
    ∙ says c.before.before.before.before basic.Int 4 c.in-Int.is refl v _ c.u32_at.ensures

pub returns-in-UnsignedInt : goal.returns-in-UnsignedInt
returns-in-UnsignedInt c = λ v. says c.before.before.before basic.UnsignedInt 4 c.in-UnsignedInt.is refl v _ c.u32_at-in-UnsignedInt.ensures

pub returns-in-Long : goal.returns-in-Long
returns-in-Long c = λ v.
    ap value.Long (cast w64 8 refl c.u64_at.result _ (c.u64_at.type_inv) c.cast_signed-in-Long.ensures)
    ∙ says c.before.before.before.before basic.Long 8 c.in-Long.is refl v _ c.u64_at.ensures

pub returns-in-UnsignedLong : goal.returns-in-UnsignedLong
returns-in-UnsignedLong c = λ v. says c.before.before.before basic.UnsignedLong 8 c.in-UnsignedLong.is refl v _ c.u64_at-in-UnsignedLong.ensures

pub returns-in-Float : goal.returns-in-Float
returns-in-Float c = λ v. says c.before.before.before basic.Float 4 c.in-Float.is refl v _ c.u32_at-in-Float.ensures

pub returns-in-Double : goal.returns-in-Double
returns-in-Double c = λ v. says c.before.before.before basic.Double 8 c.in-Double.is refl v _ c.u64_at-in-Double.ensures

pub returns-in-Boolean : goal.returns-in-Boolean
returns-in-Boolean c = λ v. says c.before.before.before basic.Boolean 1 c.in-Boolean.is refl v _ c.u8_at.ensures

pub returns-in-Byte : goal.returns-in-Byte
returns-in-Byte c = λ v.
    ap value.Byte (cast w8 1 refl c.u8_at-in-Byte.result _ (c.u8_at-in-Byte.type_inv) c.cast_signed-in-Byte.ensures)
    ∙ says c.before.before.before.before basic.Byte 1 c.in-Byte.is refl v _ c.u8_at-in-Byte.ensures

pub returns-in-UnsignedByte : goal.returns-in-UnsignedByte
returns-in-UnsignedByte c = λ v. says c.before.before.before basic.UnsignedByte 1 c.in-UnsignedByte.is refl v _ c.u8_at-in-UnsignedByte.ensures

pub returns-in-Short : goal.returns-in-Short
returns-in-Short c = λ v.
    ap value.Short (cast w16 2 refl c.u16_at.result _ (c.u16_at.type_inv) c.cast_signed-in-Short.ensures)
    ∙ says c.before.before.before.before basic.Short 2 c.in-Short.is refl v _ c.u16_at.ensures

pub returns-in-UnsignedShort : goal.returns-in-UnsignedShort
returns-in-UnsignedShort c = λ v. says c.before.before.before basic.UnsignedShort 2 c.in-UnsignedShort.is refl v _ c.u16_at-in-UnsignedShort.ensures
