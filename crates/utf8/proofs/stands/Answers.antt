-- `utf8::stands` meets its contract: the tests one by one. Assumes nothing.
use native.Mathlib.Omega.{arith}
use mathlib.Core.Path.{refl, sym, ◌∙◌}
use mathlib.Core.Bool.{false}
use lib.ListN.{get_or}
use lib.Dec.{leb}
use borrow.Author.Tests.{ltb-true}
use Rattle.utf8.specs.Utf8.{◌‥◌}
use Rattle.utf8.proofs.Characters.{steps_end, steps_within}
use Rattle.utf8.proofs.stands.Goals.{then-at-to, else-at-to}
use Rattle.utf8.proofs.stands.Goals as goal

pub returns-then-low-s : goal.returns-then-low-s
returns-then-low-s c rest =
    let a = c.args in
    let x = get_or a.s.now a.at 0 in
    elim c.if-at-to.branch [
      | then-at-to w ↦ steps_within a.s.now a.at a.to (omega (arith, w.if-at-to.true)) (omega arith) (a.low ‥ a.high) rest (leb x a.high) (rw (sym w.value-is ∙ c.if-low-s.true) refl)
      | else-at-to w ↦ absurd (let below = ltb-true a.at a.to (sym w.value-is ∙ c.if-low-s.true) in omega (arith, below, w.if-at-to.false))
    ]

pub returns-else-low-s : goal.returns-else-low-s
returns-else-low-s c rest =
    let a = c.args in
    rw c.if-low-s.false
    (elim c.if-at-to.branch [
      | then-at-to w ↦ steps_within a.s.now a.at a.to (omega (arith, w.if-at-to.true)) (omega arith) (a.low ‥ a.high) rest false (rw (sym w.value-is ∙ c.if-low-s.false) refl)
      | else-at-to w ↦ steps_end a.s.now a.at a.to (a.low ‥ a.high) rest (omega (arith, w.if-at-to.false))
    ])
