-- `dates::year_days` meets its contract. Assumes nothing.
use mathlib.Core.Path.{sym, ap, ◌∙◌}
use mathlib.Core.Bool.{Bool, cond}
use Prim.Native.Nat.{ℕ}
use Rattle.dates.specs.Calendar.{year_days}
use Rattle.dates.proofs.year_days.Goals as goal

pub returns-then-is_leap : goal.returns-then-is_leap
unfolding year_days
returns-then-is_leap c = sym (ap (λ (b : Bool). cond {A = ℕ} b 366 365) (sym c.is_leap.ensures ∙ c.if-is_leap.true))

pub returns-else-is_leap : goal.returns-else-is_leap
unfolding year_days
returns-else-is_leap c = sym (ap (λ (b : Bool). cond {A = ℕ} b 366 365) (sym c.is_leap.ensures ∙ c.if-is_leap.false))
