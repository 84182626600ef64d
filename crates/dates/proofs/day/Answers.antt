-- `dates::day` meets its contract. Assumes nothing.
use Rattle.printing.proofs.Pages.{then}
use Rattle.dates.proofs.day.Goals as goal

pub returns : goal.returns
returns c =
    then c.filled.ensures (then c.behind.ensures c.behind-2.ensures)
