-- The date found is the right one: so many days stand before it, the calendar has it, and no other date is like that.
use Prim.Native.Nat.{ℕ, suc, ◌+◌, ◌≤◌, ◌<◌}
use mathlib.Core.Path.{◌≡◌, refl, sym, ap, ◌∙◌}
use mathlib.Core.Bool.{Bool, true, false, cond}
use native.Mathlib.Omega.{arith}
use lib.Dec.{eqb}
use Rattle.dates.specs.declared.Date.{Date}
use Rattle.dates.specs.Calendar.{leap, year_days, month_days, year_of, date_after, years_days, months_days, DateOf}
use Rattle.dates.proofs.Spans.{few, later, one_span, span_in}

year_none : years_days 0 ≡ 0
unfolding years_days
year_none = refl

month_none : (y : ℕ) → months_days y 0 ≡ 0
unfolding months_days
month_none y = refl

year_next : (k : ℕ) → years_days (suc k) ≡ years_days k + year_days (1970 + k)
unfolding years_days
year_next k = refl

month_next : (y k : ℕ) → months_days y (suc k) ≡ months_days y k + month_days y k
unfolding months_days
month_next y k = refl

-- The calendar from 1970 to 9999 has so many days, and twelve months are a year.
all_years : years_days 8030 ≡ 2932897
unfolding years_days year_days
all_years = refl

all_months : (y : ℕ) (b : Bool) → leap y ≡ b → months_days y 12 ≡ year_days y
unfolding months_days month_days year_days
all_months y true e = rw e refl
all_months y false e = rw e refl

pub right_date : (days : ℕ) → days < 2932897 → DateOf days (date_after days)
unfolding date_after
right_date days h =
    let year = 1970 + (year_of days).0 in
    let y = span_in years_days (λ (k : ℕ). year_days (1970 + k)) year_next 8029 0 days (omega (arith, year_none, all_years)) in
    let m = span_in (months_days year) (month_days year) (month_next year) 11 0 (year_of days).1 (omega (arith, y.1, month_none year, all_months year (leap year) refl)) in
    record {
      sum = omega (arith, y.0, m.0, year_none, month_none year);
      month = omega (arith, few (month_days year) 11 0 (year_of days).1);
      day = m.1;
    }

-- No month is long.
under : (b : Bool) (x y : ℕ) → x ≤ 31 → y ≤ 31 → cond b x y ≤ 31
under true x y h k = h
under false x y h k = k

month_short : (y m : ℕ) → month_days y m ≤ 31
unfolding month_days
month_short y m =
    under (eqb m 1) _ _ (under (leap y) 29 28 (omega arith) (omega arith))
    (under (eqb m 3) 30 _ (omega arith)
    (under (eqb m 5) 30 _ (omega arith) (under (eqb m 8) 30 _ (omega arith) (under (eqb m 10) 30 31 (omega arith) (omega arith)))))

pub small : (days : ℕ) → days < 2932897 → let d = date_after days in (d.years ≤ 8029) × (d.months ≤ 11) × (d.days ≤ 30)
unfolding date_after
small days h =
    let d = date_after days in
    let r = right_date days h in
    (few (λ (k : ℕ). year_days (1970 + k)) 8029 0 days, omega (arith, r.month), omega (arith, r.day, month_short (1970 + d.years) d.months))

-- A day of a year's months is one of the year's.
within : (y m x : ℕ) → m < 12 → x < month_days y m → months_days y m + x < year_days y
within y m x h k = omega (arith, later (months_days y) (month_days y) (month_next y) m 12 h, all_months y (leap y) refl)

pub one_date : (days : ℕ) (d e : Date) → DateOf days d → DateOf days e → d ≡ e
one_date days d e p q =
    let years : d.years ≡ e.years =
    one_span years_days (λ (k : ℕ). year_days (1970 + k)) year_next d.years e.years (months_days (1970 + d.years) d.months + d.days)
    (months_days (1970 + e.years) e.months + e.days) (p.sum ∙ sym q.sum) (within (1970 + d.years) d.months d.days p.month p.day)
    (within (1970 + e.years) e.months e.days q.month q.day) in
    let months : d.months ≡ e.months =
    one_span (months_days (1970 + d.years)) (month_days (1970 + d.years)) (month_next (1970 + d.years)) d.months e.months d.days e.days
    (omega (arith, p.sum, q.sum, ap years_days years, ap (λ (y : ℕ). months_days (1970 + y) e.months) years)) p.day (rw years q.day) in
    let days_same : d.days ≡ e.days =
    omega (arith, p.sum, q.sum, ap years_days years, ap (λ (y : ℕ). months_days (1970 + y) d.months) years, ap (months_days (1970 + e.years)) months) in
    rw (years, months, days_same) refl
