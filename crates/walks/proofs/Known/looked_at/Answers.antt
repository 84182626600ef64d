-- `walks::Known::looked_at` meets its contract: the layout of a position stands at its place, and behind all there is none. Assumes nothing.
use native.Mathlib.Omega.{arith}
use Rattle.walks.proofs.Shelves.{shelf_at, shelf_none}
use Rattle.walks.proofs.Known.looked_at.Goals as goal

pub returns-then-self-i : goal.returns-then-self-i
returns-then-self-i c = λ shelf number book k h is. (shelf_none number book (omega (arith, k, c.if-self-i.true)), k)

pub returns : goal.returns
returns c = λ shelf number book k h is.
    let a = c.args in
    shelf_at shelf a.self.now book h k number a.i is (omega (arith, c.if-self-i.false))
