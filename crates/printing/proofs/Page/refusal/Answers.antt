-- `printing::Page::refusal` meets its contract. Assumes nothing.
use Prim.Native.Nat.{ℕ}
use mathlib.Core.Path.{ap}
use Rattle.printing.specs.Text.{refusal}
use Rattle.printing.proofs.Pages.{then, says}
use Rattle.printing.proofs.Page.refusal.Goals as goal

pub returns : goal.returns
returns c = says (ap (λ (n : ℕ). refusal n c.args.place) c.from.ensures) (then c.named.ensures c.named-2.ensures)
