-- `writing::value_number` meets its contract: the last of its eight octets are its image. Assumes nothing.
use mathlib.Core.Path.{◌∙◌}
use mathlib.Core.List.{append-nil}
use Rattle.kinds.specs.Kinds.{form_by}
use Rattle.kinds.specs.Forms.{bits}
use Rattle.writer.proofs.Values.{number_image, number_free}
use Rattle.giving.proofs.Values.{number_octets}
use Rattle.writing.proofs.value_number.Goals as goal

pub returns : goal.returns
returns c =
    let a = c.args in
    let width = c.width_of-first.ensures in
    c.give_value.ensures (bits a.n) c.suits_number-fits.ensures (number_free (form_by a.b) a.n)
    (λ _. append-nil _ ∙ (number_octets c.width_of-first.result a.n width.1 c.word8-head.ensures ∙ rw width.0 (number_image (form_by a.b) a.n)))
