-- `printing::spell` meets its contract. The invariant: the digits of what is left, then what stands from there on, are the number's digits.
-- Assumes nothing.
use native.Mathlib.Omega.{arith}
use mathlib.Core.Path.{◌≡◌, sym, ap, ◌∙◌}
use mathlib.Core.List.{◌++◌}
use Prim.Native.Nat.{ℕ}
use lib.ListN.{drop, length-set}
use Rattle.printing.specs.Text.{digits}
use Rattle.printing.proofs.Spelling.{last_digit, more_digits}
use Rattle.printing.proofs.spell.Goals as goal

pub returns-then-left-lt10 : goal.returns-then-left-lt10
returns-then-left-lt10 c =
    let l = c.loop-i in
    (omega arith, sym (l.invariant.2 ∙ last_digit l.i l.left l.text c.loop-i-test.true (omega arith) c.if-left-lt10.true))

pub loop-i-preserved : goal.loop-i-preserved
loop-i-preserved c =
    let l = c.loop-i in
    (omega arith, simp length-set l.invariant.1, l.invariant.2 ∙ more_digits l.i l.left l.text c.loop-i-test.true (omega arith) c.if-left-lt10.false)

pub returns : goal.returns
unfolding digits
returns c =
    let l = c.loop-i in
    let none : l.i ≡ 0 = omega arith in
    (omega arith, sym (l.invariant.2 ∙ ap (λ (i : ℕ). digits i l.left ++ drop i l.text) none))
