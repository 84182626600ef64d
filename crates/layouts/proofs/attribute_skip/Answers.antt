-- `layouts::attribute_skip` meets its contract: an attribute's type is the four octets behind its name. Assumes nothing.
use Prim.Native.Nat.{ℕ}
use mathlib.Core.Path.{ap, ◌∙◌}
use Rattle.octets.specs.Reading.{ok, ends}
use Rattle.layouts.specs.Layout.{attribute_at}
use Rattle.octets.proofs.Ends.{value_is}
use Rattle.layouts.proofs.Parts.{attribute_named, attribute_fields}
use Rattle.layouts.proofs.attribute_skip.Goals as goal

pub text_skip-requires : goal.text_skip-requires
text_skip-requires c = (c.requires.0, attribute_named c.args.s.now c.args.at c.requires.1)

pub returns : goal.returns
returns c =
    let (a, next, e) = value_is (attribute_at c.args.s.now c.args.at) c.requires.1 in
    let d = attribute_fields c.args.s.now c.args.at c.text_skip.result c.text_skip.ensures.0 e in
    ap ends e ∙ ap (λ (n : ℕ). ok n n) d.place
