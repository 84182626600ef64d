-- `writing_parts::fits_octets` meets its contract. The invariant: the number fits where what is left fits in the octets to come. Assumes nothing.
use borrow.Author.Tests.{ltb-true, ltb-false, lt-ltb, le-ltb}
use native.Mathlib.Omega.{arith}
use native.Mathlib.Nat.{pow-suc}
use Prim.Native.Nat.{ℕ, suc, ◌+◌, ◌-◌, ◌*◌, ◌/◌, ◌^◌}
use mathlib.Core.Path.{◌≡◌, refl, ap, ◌∙◌}
use mathlib.Core.Bool.{Bool, true, false}
use lib.Dec.{ltb}
use Rattle.octets.proofs.Ends.{left_suc}
use Rattle.writing_parts.proofs.fits_octets.Goals as goal

-- One octet less, and the number without its last.
one_less : (n k : ℕ) → ltb n (256 ^ suc k) ≡ ltb (n / 256) (256 ^ k)
one_less n k = rw (pow-suc 256 k) (go (ltb (n / 256) (256 ^ k)) refl)
  where
    go : (t : Bool) → ltb (n / 256) (256 ^ k) ≡ t → ltb n (256 ^ k * 256) ≡ ltb (n / 256) (256 ^ k)
    go true e = let f = ltb-true (n / 256) (256 ^ k) e in rw e (lt-ltb n (256 ^ k * 256) (omega arith))
    go false e = let f = ltb-false (n / 256) (256 ^ k) e in rw e (le-ltb n (256 ^ k * 256) (omega arith))

pub loop-preserved : goal.loop-preserved
loop-preserved c =
    let l = c.loop in
    let w = c.args.w in
    l.invariant ∙ (ap (λ (k : ℕ). ltb l.left (256 ^ k)) (left_suc w l.counter c.loop-test.true) ∙ one_less l.left (w - (l.counter + 1)))
