-- `printing::Page::escaped` meets its contract. Assumes nothing.
use mathlib.Core.Path.{sym, ◌∙◌}
use Rattle.printing.proofs.Pages.{then}
use Rattle.printing.proofs.Page.escaped.Goals as goal

pub returns : goal.returns
returns c =
    rw (sym c.is_plain.ensures ∙ c.if-is_plain.false) (then c.octet-2.ensures c.pair.ensures)
