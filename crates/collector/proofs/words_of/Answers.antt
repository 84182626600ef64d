-- `collector::words_of` meets its contract: the element by its cases. Assumes nothing.
use mathlib.Core.Path.{◌≡◌, refl, ap, ◌∙◌}
use mathlib.Core.Bool.{Bool, true, false}
use mir.Syntax.{w64}
use mir.Val.{of_z, bool_byte}
use mir.Facts.{to_z-of_z}
use Rattle.kinds.proofs.Signs.{unsigned_cast}
use Rattle.collector.specs.Calls.{bit}
use Rattle.collector.proofs.words_of.Goals as goal

bit_is : (b : Bool) → bool_byte b ≡ bit b
bit_is true = refl
bit_is false = refl

pub returns-in-End : goal.returns-in-End
returns-in-End c =
    let time = ap (of_z w64) (to_z-of_z {w = w64} {z = c.in-End.time} (record { sfits = c.in-End.known_told-in-End-1-own.given.1.0.1 })) ∙ unsigned_cast w64 8 refl c.in-End.time in
    rw (c.in-End.is, c.from-in-End.ensures, c.cast_unsigned.ensures, time)
