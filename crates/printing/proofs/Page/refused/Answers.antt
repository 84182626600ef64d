-- `printing::Page::refused` meets its contract. Assumes nothing.
use Prim.Native.Nat.{ℕ}
use mathlib.Core.Path.{ap, ◌∙◌}
use Rattle.octets.specs.Refusals.{Refusal}
use Rattle.printing.specs.Text.{refusal}
use Rattle.printing.proofs.Pages.{says}
use Rattle.printing.proofs.Page.refused.Goals as goal

pub returns : goal.returns
returns c =
    let r = c.r.inside in
    says (ap (λ (n : ℕ). refusal n r.place) c.number.ensures ∙ ap (λ (v : Refusal). refusal v.number v.place) c.r.view_is) c.refusal.ensures
