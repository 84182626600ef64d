-- `writing_parts::fits_octets` meets its contract. The invariant: the number fits where what is left fits in the octets to come. Assumes nothing.
use Prim.Native.Nat.{◌-◌, ◌^◌}
use mathlib.Core.Path.{◌≡◌}
use lib.Dec.{ltb}
use Rattle.writing_parts.proofs.fits_octets.Given as goal

abbrev pub invariant-loop : goal.invariant-loop
invariant-loop l = ltb l.n (256 ^ l.w) ≡ ltb l.left (256 ^ (l.w - l.counter))
