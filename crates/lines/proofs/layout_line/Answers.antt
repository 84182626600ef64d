-- `lines::layout_line` meets its contract. Assumes nothing.
use Rattle.printing.specs.Text.{spelt, decimal}
use Rattle.printing.proofs.Pages.{then}
use Rattle.lines.proofs.Words.{word_then}
use Rattle.lines.proofs.layout_line.Goals as goal

pub returns : goal.returns
returns c =
    let a = c.args in
    then c.numbered.ensures
    (then (then c.octet.ensures c.behind.ensures) (then (word_then (spelt " ") (decimal a.count) (rw c.from.ensures at c.named.ensures)) c.octet-2.ensures))
