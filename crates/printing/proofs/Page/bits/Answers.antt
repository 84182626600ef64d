-- `printing::Page::bits` meets its contract. Assumes nothing.
use Rattle.printing.proofs.Pages.{then}
use Rattle.printing.proofs.Page.bits.Goals as goal

pub returns : goal.returns
returns c =
    then c.octet.ensures c.hex.ensures
