-- `layouts::layout_skip` meets its contract: the layout ends where the run of its attributes does. Assumes nothing.
use mathlib.Core.Path.{◌≡◌, sym, ◌∙◌}
use Rattle.octets.specs.Reading.{ends, run}
use Rattle.octets.proofs.Ends.{ok_alike}
use Rattle.layouts.specs.Layout.{attribute_at, layout_at}
use Rattle.layouts.proofs.Parts.{layout_run}
use Rattle.layouts.proofs.layout_skip.Goals as goal
use Rattle.layouts.proofs.layout_skip.Lts
use Rattle.layouts.proofs.layout_skip.Reads
use Rattle.layouts.proofs.layout_skip.Tie
use Prim.Native.Nat.{◌+◌}

-- The count that stands behind the name.
abbrev Counted : Type 0
Counted = Lts.After-u32_at Tie.the-claims Reads.Pre Reads.Post

run_of : (u : Counted) → ends (layout_at u.args.s.now u.args.at) ≡ ends (run (attribute_at u.args.s.now) u.u32_at.result (u.attributes_at-counted.result + 4))
run_of u = layout_run u.args.s.now u.args.at u.requires.1 u.attributes_at-counted.result u.u32_at.result u.attributes_at-counted.ensures.0 u.u32_at.ensures

pub attributes_skip-requires : goal.attributes_skip-requires
attributes_skip-requires c =
    let u = c.before in
    (c.requires.0, sym (ok_alike (layout_at u.args.s.now u.args.at) (run (attribute_at u.args.s.now) u.u32_at.result (u.attributes_at-counted.result + 4)) (run_of u)) ∙ c.requires.1)

pub returns : goal.returns
returns c = run_of c.before.before ∙ c.attributes_skip.ensures
