-- `dates::date_after` meets its contract. The invariant: the day left, from the year reached on, is the day given.
-- Assumes nothing.
use native.Mathlib.Omega.{arith}
use mathlib.Core.Path.{◌≡◌, sym, ap, ◌∙◌, subst}
use Prim.Native.Nat.{ℕ, ◌+◌, ◌-◌, ◌≤◌, ◌<◌}
use Rattle.dates.specs.Calendar.{span_of, day_of_year, date_after}
use Rattle.dates.proofs.Spans.{here, on, last}
use Rattle.dates.proofs.date_after.Invariants.{size}
use Rattle.dates.proofs.date_after.Goals as goal

pub returns-then-left-here : goal.returns-then-left-here
unfolding date_after
returns-then-left-here c =
    let l = c.loop-years in
    c.day_of_year.ensures
    ∙ ap (λ (s : ℕ × ℕ). day_of_year s.0 s.1)
    (sym (here size (8029 - l.years) l.years l.left (subst (λ (k : ℕ). l.left < k) c.year_days-here.ensures c.if-left-here.true)) ∙ l.invariant.1)

pub loop-years-preserved : goal.loop-years-preserved
loop-years-preserved c =
    let l = c.loop-years in
    let here : c.year_days-here.result ≡ size l.years = c.year_days-here.ensures in (
      omega arith,
      ap (λ (n : ℕ). span_of size (8029 - (l.years + 1)) (l.years + 1) (l.left - n)) here
          ∙ (sym (on size 8029 l.years l.left c.loop-years-test.true (subst (λ (n : ℕ). n ≤ l.left) here c.if-left-here.false)) ∙ l.invariant.1),
    )

pub returns : goal.returns
unfolding date_after
returns c =
    let l = c.loop-years in
    let all : l.years ≡ 8029 = omega arith in
    c.day_of_year-2.ensures
    ∙ ap (λ (s : ℕ × ℕ). day_of_year s.0 s.1) (sym (last size 8029 l.years l.left (omega arith) ∙ ap (λ (k : ℕ). (k, l.left)) all) ∙ l.invariant.1)
