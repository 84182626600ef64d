-- `printing::Page::named` meets its contract. Assumes nothing.
use Rattle.printing.proofs.Pages.{then}
use Rattle.printing.proofs.Page.named.Goals as goal

pub returns : goal.returns
returns c =
    then c.show_all.ensures c.decimal.ensures
