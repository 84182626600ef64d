-- `questions::Asked::attribute_name` meets its contract: the name of the attribute where it stands in the document. Assumes nothing.
use mathlib.Core.Path.{sym, ap, ◌∙◌}
use Rattle.octets.specs.Reading.{is_ok}
use Rattle.octets.specs.Asked.{part_of}
use Rattle.texts.specs.declared.Rule.TheVariants.{Characters}
use Rattle.texts.proofs.Ends.{text_there}
use Rattle.layouts.specs.Layout.{Attribute}
use Rattle.layouts.proofs.Parts.{attribute_named, attribute_text}
use Rattle.questions.proofs.Asked.attribute_name.Goals as goal

pub led_part-requires : goal.led_part-requires
led_part-requires c =
    let q = c.args.self in
    let p = c.in-Ok.ensures in
    (p.short, text_there q.doc.now _ (attribute_named q.doc.now _ (ap is_ok p.reads)))

pub returns : goal.returns
returns c =
    let q = c.args.self in
    let p = c.in-Ok.ensures in
    let (mid, named) = attribute_text q.doc.now _ p.reads in
    c.led_part.ensures Characters p.item.name mid named ∙ sym (ap (part_of (λ (a : Attribute). a.name)) p.is)
