-- `octets::put_number` meets its contract. The invariant: what is to stand in the end is the word of what is left, then the rest from there on.
-- The measure is the octets to come. Assumes nothing.
use native.Mathlib.Omega.{arith}
use Prim.Native.Nat.{ℕ, ◌≤◌}
use mathlib.Core.Path.{◌≡◌, sym, ap, ◌∙◌}
use mathlib.Core.List.{◌++◌}
use lib.ListN.{length, drop, length-set}
use Rattle.octets.specs.Writing.{word}
use Rattle.octets.proofs.Copies.{word_back}
use Rattle.octets.proofs.put_number.Goals as goal

pub loop-i-preserved : goal.loop-i-preserved
loop-i-preserved c =
    let l = c.loop-i in
    let fits : l.i ≤ length l.rest = omega (arith, c.requires) in (
      omega arith,
      simp length-set l.invariant.1,
      l.invariant.2 ∙ word_back l.i l.left l.rest c.loop-i-test.true fits,
    )

pub returns : goal.returns
unfolding word
returns c =
    let l = c.loop-i in
    let a = c.args in
    let none : l.i ≡ 0 = omega arith in
    sym (l.invariant.2 ∙ ap (λ (i : ℕ). word i l.left ++ drop i l.rest) none)
