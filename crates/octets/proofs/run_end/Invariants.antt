-- `octets::run_end` meets its contract. The invariant: reading the run from its start is reading what is left of it from here, whatever is passed reads. Assumes nothing.
use Rattle.std.proofs.Common.{ℕ, ◌≡◌, ◌≤◌, ◌-◌}
use Rattle.octets.specs.Reading.{Read, run, ends}
use Rattle.octets.specs.Runs.{Finds}
use Rattle.octets.proofs.run_end.Given as goal

abbrev pub invariant-loop : goal.invariant-loop
invariant-loop g l =
    (l.counter ≤ l.count)
    × ((end : ℕ) (f : ℕ → Read ℕ) → l.at ≤ end → Finds (goal.F-pre g l.one) (goal.F-post g l.one) end f → (l.at ≤ l.pos) × (l.pos ≤ end) × (ends (run f l.count l.at) ≡ ends (run f (l.count - l.counter) l.pos)))
