-- `probe_input::sum` meets its contract. Assumes nothing.
use Rattle.std.proofs.Common.{ℕ, ◌++◌, ap}
use Rattle.octets.specs.Writing.{word}
use Rattle.printing.specs.Text.{spelt, showing}
use Rattle.printing.specs.declared.Show.TheVariants.{Hex}
use Rattle.printing.proofs.Pages.{then, says}
use Rattle.probe_input.proofs.sum.Goals as goal

pub returns : goal.returns
returns c = says (ap (λ (s : ℕ). spelt " " ++ showing Hex (word 8 s)) c.checksum.ensures) (then c.octet.ensures c.hex.ensures)
