-- `questions::Asked::field_name` meets its contract: the name of the attribute where it stands in the book. Assumes nothing.
use native.Mathlib.Omega.{arith}
use mathlib.Core.Path.{sym, ap, ◌∙◌}
use lib.ListN.{take}
use Rattle.octets.specs.Reading.{is_ok}
use Rattle.octets.specs.Asked.{part_of}
use Rattle.texts.specs.declared.Rule.TheVariants.{Characters}
use Rattle.texts.proofs.Ends.{text_there}
use Rattle.layouts.proofs.Parts.{attribute_named, attribute_text}
use Rattle.rows.specs.Row.{Field}
use Rattle.questions.proofs.Asked.field_name.Goals as goal

pub led_part-requires : goal.led_part-requires
led_part-requires c =
    let q = c.args.self in
    let p = c.in-Ok.ensures.0 in
    (omega (arith, p.small), text_there (take q.used q.book.now) _ (attribute_named (take q.used q.book.now) _ (ap is_ok p.names)))

pub returns : goal.returns
returns c =
    let q = c.args.self in
    let p = c.in-Ok.ensures.0 in
    let (mid, named) = attribute_text (take q.used q.book.now) _ p.names in
    c.led_part.ensures Characters p.field.attribute.name mid named ∙ sym (ap (part_of (λ (f : Field). f.attribute.name)) p.is)
