-- `dates::moment` meets its contract. Assumes nothing.
use native.Mathlib.Omega.{arith}
use mathlib.Core.Path.{sym, ap, subst}
use Prim.Native.Nat.{◌/◌, ◌≤◌}
use Rattle.printing.proofs.Pages.{then, says}
use Rattle.dates.specs.declared.Date.{Date}
use Rattle.dates.specs.Times.{day_text, moment_text}
use Rattle.dates.proofs.Dates.{small}
use Rattle.dates.proofs.moment.Goals as goal

pub day-requires : goal.day-requires
day-requires c =
    subst (λ (d : Date). (d.years ≤ 8029) × (d.months ≤ 11) × (d.days ≤ 30)) (sym c.date_after.ensures) (small (c.args.t / 1000 / 86400) (omega (arith, c.requires)))

pub returns : goal.returns
unfolding moment_text
returns c =
    then (says (ap day_text c.date_after.ensures) c.day.ensures)
    (then c.clock.ensures (then c.behind.ensures c.octet.ensures))
