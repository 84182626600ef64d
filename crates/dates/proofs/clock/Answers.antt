-- `dates::clock` meets its contract. Assumes nothing.
use Rattle.printing.proofs.Pages.{then}
use Rattle.dates.proofs.clock.Goals as goal

pub returns : goal.returns
returns c =
    then c.behind.ensures (then c.behind-2.ensures c.behind-3.ensures)
