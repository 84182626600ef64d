-- `walks::Known::position_of` meets its contract. The invariant: none of the numbers passed is this one. Assumes nothing.
use native.Mathlib.Omega.{arith}
use mathlib.Core.Path.{◌∙◌}
use Rattle.walks.proofs.Shelves.{at_position, no_position}
use Rattle.walks.proofs.Known.position_of.Goals as goal

pub returns-then-self-i : goal.returns-then-self-i
returns-then-self-i c = λ book k.
    let a = c.args in
    at_position a.self.now book k c.loop-i.i a.number (omega arith) (c.if-self-i.true ∙ c.from.ensures)

pub returns : goal.returns
returns c = λ book k.
    let a = c.args in
    no_position a.self.now book k a.number (λ i h. c.loop-i.invariant.1 i (omega arith))
