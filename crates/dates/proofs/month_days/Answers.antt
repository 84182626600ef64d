-- `dates::month_days` meets its contract, by cases on the month. Assumes nothing.
use mathlib.Core.Path.{refl, sym, ap}
use borrow.Author.Tests.{ne_eqb}
use Rattle.dates.specs.Calendar.{month_days}
use Rattle.dates.proofs.month_days.Goals as goal

pub returns-in-3 : goal.returns-in-3
unfolding month_days
returns-in-3 c = sym (ap (month_days c.args.y) c.in-3.is)

pub returns-in-5 : goal.returns-in-5
unfolding month_days
returns-in-5 c = sym (ap (month_days c.args.y) c.in-5.is)

pub returns-in-8 : goal.returns-in-8
unfolding month_days
returns-in-8 c = sym (ap (month_days c.args.y) c.in-8.is)

pub returns-in-10 : goal.returns-in-10
unfolding month_days
returns-in-10 c = sym (ap (month_days c.args.y) c.in-10.is)

pub returns-in_default : goal.returns-in_default
unfolding month_days
returns-in_default c =
    let m = c.args.m in
    let r = c.in_default.in_default-own.rest in
    rw (ne_eqb m 1 r.0.0.0.0.1, ne_eqb m 3 r.0.0.0.1, ne_eqb m 5 r.0.0.1, ne_eqb m 8 r.0.1, ne_eqb m 10 r.1) refl
