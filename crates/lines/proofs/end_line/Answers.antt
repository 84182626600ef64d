-- `lines::end_line` meets its contract. Assumes nothing.
use mathlib.Core.Path.{ap}
use mir.Facts.{to_z-of_z}
use Rattle.printing.specs.Text.{spelt, decimal}
use Rattle.printing.proofs.Pages.{then, says}
use Rattle.lines.specs.Lines.{end_text}
use Rattle.lines.proofs.Words.{word_then}
use Rattle.lines.proofs.end_line.Goals as goal

pub returns : goal.returns
returns c =
    let a = c.args in
    says (ap (end_text a.at a.count) (to_z-of_z c.ranges.time))
    (then (word_then (spelt "end ") (decimal a.at) c.named.ensures)
    (then (word_then (spelt " ") (decimal a.count) (rw c.from.ensures at c.named-2.ensures)) (then c.octet.ensures (then c.time.ensures c.octet-2.ensures))))
