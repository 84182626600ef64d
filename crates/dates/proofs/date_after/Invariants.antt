-- `dates::date_after` meets its contract. The invariant: the day left, from the year reached on, is the day given.
-- Assumes nothing.
use mathlib.Core.Path.{◌≡◌}
use Prim.Native.Nat.{ℕ, ◌+◌, ◌-◌, ◌≤◌}
use Rattle.dates.specs.Calendar.{year_days, span_of, year_of}
use Rattle.dates.proofs.date_after.Given as goal

abbrev pub size : ℕ → ℕ
size k = year_days (1970 + k)

abbrev pub invariant-loop-years : goal.invariant-loop-years
invariant-loop-years l = (l.years ≤ 8029) × (span_of size (8029 - l.years) l.years l.left ≡ year_of l.days)
