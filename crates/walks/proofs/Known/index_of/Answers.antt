-- `walks::Known::index_of` meets its contract: each return is of an index whose number was compared, and the number's position is the only other. Assumes nothing.
use native.Mathlib.Omega.{arith}
use mathlib.Core.Path.{sym, ◌∙◌}
use Rattle.walks.proofs.Shelves.{position_lacks}
use Rattle.walks.proofs.Known.index_of.Goals.{else-i-self-via-then-i-self+else-self-i, else-i-self-via-else-i-self}
use Rattle.walks.proofs.Known.index_of.Goals as goal

-- At its position the number has no plan, or there is none.
pub returns : goal.returns
returns c = λ book k.
    let a = c.args in
    let lacks = position_lacks a.self.now book k c.position_of-i.result a.number (omega arith) (c.position_of-i.ensures book k) in
    elim c.else-i-self.branch [
      | else-i-self-via-then-i-self+else-self-i w ↦ lacks (λ _ q. w.if-self-i.false (q ∙ sym c.from-title.ensures))
      | else-i-self-via-else-i-self w ↦ lacks (λ l. absurd (omega (arith, w.if-i-self.false)))
    ]
