-- `printing::Page::signed` meets its contract, by the number's sign. Assumes nothing.
use mathlib.Core.Path.{subst}
use Rattle.printing.specs.Pages.{Shows}
use Rattle.printing.specs.Text.{decimal}
use Rattle.printing.specs.declared.Page.{Page}
use Rattle.printing.proofs.Signs.{above_text, below_text}
use Rattle.printing.proofs.Pages.{then, says}
use Rattle.printing.proofs.Page.signed.Goals as goal
use Rattle.printing.proofs.Page.signed.Goals.{then-v-lt0, else-v-lt0}

pub returns : goal.returns
returns c =
    let digits = λ (p : Page). Shows p (decimal c.unsigned_abs.result) c.decimal.new.self in
    elim c.if-v-lt0.branch [
      | then-v-lt0 w ↦ says (below_text c.ranges.v c.unsigned_abs.ensures.value w.if-v-lt0.true) (then w.octet.ensures (subst digits w.self-is c.decimal.ensures))
      | else-v-lt0 w ↦ says (above_text c.ranges.v c.unsigned_abs.ensures.value w.if-v-lt0.false) (subst digits w.self-is c.decimal.ensures)
    ]
