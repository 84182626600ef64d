-- `layouts::kind_behind` meets its contract: an accepted attribute's type stands behind its name. Assumes nothing.
use Rattle.layouts.proofs.Parts.{attribute_named, attribute_typed, attribute_fields}
use Rattle.layouts.proofs.kind_behind.Goals as goal

pub text_skip-requires : goal.text_skip-requires
text_skip-requires c = (c.requires.0, attribute_named c.args.s.now c.args.at c.requires.1)

pub kind_here-requires : goal.kind_here-requires
kind_here-requires c =
    attribute_typed c.args.s.now c.args.at c.text_skip.result c.text_skip.ensures.0 c.requires.1

pub returns : goal.returns
returns c = λ a next e.
    let s = c.args in
    c.kind_here.ensures a.kind next (attribute_fields s.s.now s.at c.text_skip.result c.text_skip.ensures.0 e).kind
