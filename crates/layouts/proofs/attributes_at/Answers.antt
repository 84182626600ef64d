-- `layouts::attributes_at` meets its contract: behind its type name an accepted layout has its count. Assumes nothing.
use native.Mathlib.Omega.{arith}
use Rattle.layouts.specs.Layout.{layout_at}
use Rattle.octets.proofs.Ends.{value_is}
use Rattle.layouts.proofs.Parts.{layout_named, layout_number, layout_fields}
use Rattle.layouts.proofs.attributes_at.Goals as goal

pub overflow_add-at : goal.overflow_add-at
overflow_add-at c =
    let (l, end, e) = value_is (layout_at c.args.s.now c.args.at) c.requires.1 in
    omega (arith, (layout_number c.args.s.now c.args.at e).0)

pub text_skip-requires : goal.text_skip-requires
text_skip-requires c = (c.requires.0, layout_named c.args.s.now c.args.at c.requires.1)

pub returns : goal.returns
returns c =
    let (l, end, e) = value_is (layout_at c.args.s.now c.args.at) c.requires.1 in
    (c.text_skip.ensures.0, (layout_fields c.args.s.now c.args.at c.text_skip.result c.text_skip.ensures.0 e).inside)
