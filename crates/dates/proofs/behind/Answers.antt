-- `dates::behind` meets its contract. Assumes nothing.
use Rattle.printing.proofs.Pages.{then}
use Rattle.dates.proofs.behind.Goals as goal

pub returns : goal.returns
returns c =
    then c.octet.ensures c.filled.ensures
