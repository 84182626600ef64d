-- `lines::field_word` meets its contract. Assumes nothing.
use mathlib.Core.Path.{sym, ◌∙◌}
use Rattle.questions.specs.Asked.{field_for}
use Rattle.printing.proofs.Pages.{then, says}
use Rattle.lines.proofs.Words.{asked_text}
use Rattle.lines.proofs.field_word.Goals as goal

pub returns : goal.returns
returns c =
    let a = c.args in
    λ f next e.
    says (asked_text (field_for a.asked a.i) f next c.in-Ok.field _ e (sym c.in-Ok.is ∙ c.field.ensures) c.field_octets.ensures)
    (then c.octet.ensures c.value_word.ensures)
