-- `dates::day_of_year` meets its contract. The invariant: the day left, from the month reached on, is the day given.
-- Assumes nothing.
use native.Mathlib.Omega.{arith}
use mathlib.Core.Path.{◌≡◌, sym, ap, ◌∙◌, subst}
use Prim.Native.Nat.{ℕ, ◌+◌, ◌-◌, ◌≤◌, ◌<◌}
use Rattle.dates.specs.Calendar.{month_days, span_of, in_year}
use Rattle.dates.proofs.Spans.{here, on, last}
use Rattle.dates.proofs.day_of_year.Goals as goal

pub returns-then-left-here : goal.returns-then-left-here
returns-then-left-here c =
    let l = c.loop-months in
    let years = c.args.years in
    ap (in_year years)
    (sym (here (month_days (1970 + years)) (11 - l.months) l.months l.left (subst (λ (k : ℕ). l.left < k) c.month_days-here.ensures c.if-left-here.true)) ∙ l.invariant.1)

pub loop-months-preserved : goal.loop-months-preserved
loop-months-preserved c =
    let l = c.loop-months in
    let size = month_days (1970 + c.args.years) in
    let here : c.month_days-here.result ≡ size l.months = c.month_days-here.ensures in (
      omega arith,
      ap (λ (n : ℕ). span_of size (11 - (l.months + 1)) (l.months + 1) (l.left - n)) here
          ∙ (sym (on size 11 l.months l.left c.loop-months-test.true (subst (λ (n : ℕ). n ≤ l.left) here c.if-left-here.false)) ∙ l.invariant.1),
    )

pub returns : goal.returns
returns c =
    let l = c.loop-months in
    let years = c.args.years in
    let all : l.months ≡ 11 = omega arith in
    ap (in_year years) (sym (last (month_days (1970 + years)) 11 l.months l.left (omega arith) ∙ ap (λ (k : ℕ). (k, l.left)) all) ∙ l.invariant.1)
