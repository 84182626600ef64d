-- `layouts::attribute_place` meets its contract: the run of the first n attributes ends where attribute n stands. Assumes nothing.
use mathlib.Core.Path.{subst}
use Prim.Native.Nat.{◌<◌}
use lib.ListN.{length}
use Rattle.octets.proofs.Inverse.{ok_value}
use Rattle.layouts.specs.Layout.{Layout}
use Rattle.layouts.proofs.Parts.{layout_fields, first_read, nth_here}
use Rattle.layouts.proofs.attribute_place.Goals as goal

pub attributes_skip-requires : goal.attributes_skip-requires
attributes_skip-requires c =
    let a = c.args in
    let h = c.requires.1 in
    (c.requires.0, first_read a.s.now a.at (layout_fields a.s.now a.at c.attributes_at.result c.attributes_at.ensures.0 h.reads) a.n h.more)

pub returns : goal.returns
returns c = λ l end e.
    let a = c.args in
    let h = c.requires.1 in
    let more : a.n < length l.attributes = subst (λ (x : Layout). a.n < length x.attributes) (ok_value h.reads e) h.more in
    nth_here a.s.now a.at (layout_fields a.s.now a.at c.attributes_at.result c.attributes_at.ensures.0 e) a.n more c.attributes_skip.result c.attributes_skip.ensures
