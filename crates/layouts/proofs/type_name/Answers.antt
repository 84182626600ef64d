-- `layouts::type_name` meets its contract: a layout's type name stands behind its number. Assumes nothing.
use native.Mathlib.Omega.{arith}
use Prim.Native.Nat.{◌+◌}
use Rattle.layouts.specs.Layout.{layout_at}
use Rattle.octets.proofs.Ends.{value_is}
use Rattle.layouts.proofs.Parts.{layout_named, layout_number, layout_text_lem}
use Rattle.texts.specs.declared.Rule.TheVariants.{Characters}
use Rattle.texts.proofs.Ends.{text_there}
use Rattle.layouts.proofs.type_name.Goals as goal

pub overflow_add-at : goal.overflow_add-at
overflow_add-at c =
    let (l, end, e) = value_is (layout_at c.args.s.now c.args.at) c.requires.1 in
    omega (arith, (layout_number c.args.s.now c.args.at e).0)

pub led_part-requires : goal.led_part-requires
led_part-requires c = (c.requires.0, text_there c.args.s.now (c.args.at + 4) (layout_named c.args.s.now c.args.at c.requires.1))

pub returns : goal.returns
returns c = λ l end e.
    let a = c.args in
    let (mid, named) = layout_text_lem a.s.now a.at e in
    c.led_part.ensures Characters l.type_name mid named
