-- `plans::follow` meets its contract. The invariant: the values of all attributes end where those of the attributes whose plan stands here do, from here.
-- The measure is the steps to come. Assumes nothing.
use Prim.Native.Nat.{◌-◌, ◌≤◌}
use mathlib.Core.List.{List}
use Rattle.layouts.specs.Layout.{Attribute}
use Rattle.plans.specs.Plan.{plan_of, Begins}
use Rattle.plans.proofs.Walking.{Onward}
use Rattle.plans.proofs.follow.Given as goal

abbrev pub invariant-loop-at : goal.invariant-loop-at
invariant-loop-at l = (l.at ≤ l.pos) × (l.pos ≤ l.end) × ((xs : List Attribute) → Begins l.steps l.from (plan_of 0 xs) → Onward l.doc l.steps l.end xs l.at l.pos l.j)

abbrev pub decreases-loop-at : goal.decreases-loop-at
decreases-loop-at l = 1216 - l.j
