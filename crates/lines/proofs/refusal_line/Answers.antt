-- `lines::refusal_line` meets its contract. Assumes nothing.
use Rattle.printing.proofs.Pages.{then}
use Rattle.lines.proofs.refusal_line.Goals as goal

pub returns : goal.returns
returns c =
    then c.refusal.ensures c.octet.ensures
