-- `plans::put_plan` meets its contract. The invariant: the steps that stand, with those of the attributes that are left, are the plan. Assumes nothing.
use Prim.Native.Nat.{ℕ, ◌-◌, ◌*◌, ◌≤◌}
use mathlib.Core.Path.{◌≡◌}
use mathlib.Core.List.{List}
use lib.ListN.{length, take}
use Rattle.octets.specs.Reading.{ok, run}
use Rattle.layouts.specs.Layout.{Attribute, attribute_at}
use Rattle.plans.proofs.Making.{Making}
use Rattle.plans.proofs.put_plan.Given as goal

abbrev pub invariant-loop : goal.invariant-loop
invariant-loop l = (l.counter ≤ l.count) × (l.j ≤ l.to) × (l.from ≤ l.j) × (l.sum ≤ l.counter * 32) × (length l.steps ≡ 1216) × (take l.from l.steps ≡ take l.from l.initial.steps)
    × ((xs : List Attribute) (last : ℕ) → run (attribute_at l.doc) l.count l.first ≡ ok xs last → Making l.doc l.steps xs last l.from (l.count - l.counter) l.place l.j l.sum)
