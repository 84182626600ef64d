-- `lines::numbered` meets its contract. Assumes nothing.
use mathlib.Core.Path.{refl, ap, ◌∙◌}
use mir.Syntax.{w32, w64}
use mir.Facts.{to_z-of_z}
use Rattle.kinds.proofs.Signs.{signed_cast}
use Rattle.printing.specs.Text.{decimal, signed}
use Rattle.printing.proofs.Pages.{then, says}
use Rattle.lines.proofs.Words.{word_then}
use Rattle.lines.proofs.numbered.Goals as goal

pub returns : goal.returns
returns c =
    let bits = c.cast_signed in
    let a = c.args in
    let is = bits.ensures ∙ signed_cast w32 4 refl a.number c.ranges.number.fits in
    then (word_then a.word.now (decimal a.at) c.named.ensures)
    (then c.octet.ensures
    (says (ap signed (to_z-of_z {w = w64} (record { sfits = c.from.type_inv }) ∙ c.from.ensures ∙ to_z-of_z {w = w32} (record { sfits = bits.type_inv }) ∙ is)) c.signed.ensures))
