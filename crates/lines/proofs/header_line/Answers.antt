-- `lines::header_line` meets its contract. Assumes nothing.
use mathlib.Core.Path.{ap}
use mir.Facts.{to_z-of_z}
use Rattle.printing.specs.Text.{spelt}
use Rattle.printing.proofs.Pages.{then, says}
use Rattle.lines.specs.Lines.{header_text}
use Rattle.lines.proofs.Words.{word}
use Rattle.lines.proofs.header_line.Goals as goal

pub returns : goal.returns
returns c =
    says (ap header_text (to_z-of_z c.ranges.start))
    (then (word (spelt "document 4 ") c.show_all.ensures)
    (then c.time.ensures c.octet.ensures))
