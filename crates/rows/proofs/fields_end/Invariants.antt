-- `rows::fields_end` meets its contract. The invariant: the values of all attributes end where those of the attributes that are left do, from here.
-- Assumes nothing.
use Prim.Native.Nat.{ℕ, ◌-◌, ◌≤◌}
use mathlib.Core.Path.{◌≡◌}
use mathlib.Core.List.{List}
use Rattle.octets.specs.Reading.{ok, reach, run}
use Rattle.layouts.specs.Layout.{Attribute, attribute_at}
use Rattle.rows.proofs.Values.{Left}
use Rattle.rows.proofs.fields_end.Given as goal

abbrev pub invariant-loop : goal.invariant-loop
invariant-loop l = (l.counter ≤ l.count) × (l.at ≤ l.pos) × (l.pos ≤ reach l.room l.doc)
    × ((xs : List Attribute) (last : ℕ) → run (attribute_at l.book) l.count l.first ≡ ok xs last → Left l.book l.doc l.room xs l.at last (l.count - l.counter) l.place l.pos)
