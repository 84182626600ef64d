-- `lines::refused_line` meets its contract. Assumes nothing.
use Rattle.printing.proofs.Pages.{then}
use Rattle.lines.proofs.refused_line.Goals as goal

pub returns : goal.returns
returns c =
    then c.refused.ensures c.octet.ensures
