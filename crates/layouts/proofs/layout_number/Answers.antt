-- `layouts::layout_number` meets its contract: a layout's number stands first. Assumes nothing.
use mathlib.Core.Path.{◌∙◌}
use Rattle.layouts.specs.Layout.{layout_at}
use Rattle.octets.proofs.Ends.{value_is}
use Rattle.layouts.proofs.Parts.{layout_number}
use Rattle.layouts.proofs.layout_number.Goals as goal

pub u32_at-requires : goal.u32_at-requires
u32_at-requires c =
    let (l, end, e) = value_is (layout_at c.args.s.now c.args.at) c.requires in
    (layout_number c.args.s.now c.args.at e).0

pub returns : goal.returns
returns c = λ l end e.
    let a = c.args in
    c.u32_at.ensures ∙ (layout_number a.s.now a.at e).1
