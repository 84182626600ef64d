-- `dates::day_of_year` meets its contract. The invariant: the day left, from the month reached on, is the day given.
-- Assumes nothing.
use mathlib.Core.Path.{◌≡◌}
use Prim.Native.Nat.{◌+◌, ◌-◌, ◌≤◌}
use Rattle.dates.specs.Calendar.{month_days, span_of}
use Rattle.dates.proofs.day_of_year.Given as goal

abbrev pub invariant-loop-months : goal.invariant-loop-months
invariant-loop-months l = (l.months ≤ 11) × (span_of (month_days (1970 + l.years)) (11 - l.months) l.months l.left ≡ span_of (month_days (1970 + l.years)) 11 0 l.day)
