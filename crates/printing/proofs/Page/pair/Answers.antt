-- `printing::Page::pair` meets its contract. Assumes nothing.
use mathlib.Core.Path.{ap, ◌∙◌}
use mathlib.Core.List.{[], ◌∷◌}
use Prim.Native.Nat.{ℕ, ◌/◌}
use Rattle.printing.specs.Text.{digit}
use Rattle.printing.proofs.Pages.{then, says}
use Rattle.printing.proofs.Page.pair.Goals as goal

pub returns : goal.returns
returns c =
    let a = c.args in
    says
    (ap (λ (d : ℕ). d ∷ c.digit-2.result ∷ []) c.digit.ensures
    ∙ ap (λ (d : ℕ). digit a.ten (a.x / 16) ∷ d ∷ []) c.digit-2.ensures)
    (then c.octet.ensures c.octet-2.ensures)
