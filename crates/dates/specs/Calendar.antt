-- Days and dates, both counted from 1970-01-01.
use Rattle.std.specs.Prelude.{ℕ, zero, suc, ◌+◌, ◌-◌, ◌%◌, ◌<◌, ◌≡◌, Bool, cond, ◌&&◌, ◌||◌, not, eqb, ltb}
use Rattle.octets.specs.Reading.{choose}
use Rattle.dates.specs.declared.Date.{Date}

-- Every fourth year has a leap day, but of the full hundreds only every fourth.
abbrev pub leap : ℕ → Bool
leap y = eqb (y % 4) 0 && (not (eqb (y % 100) 0) || eqb (y % 400) 0)

unfoldable pub year_days : ℕ → ℕ
year_days y = cond (leap y) 366 365

-- The days of a month, counted from 0.
unfoldable pub month_days : ℕ → ℕ → ℕ
month_days y m =
    cond (eqb m 1) (cond (leap y) 29 28)
    (cond (eqb m 3) 30 (cond (eqb m 5) 30 (cond (eqb m 8) 30 (cond (eqb m 10) 30 31))))

-- Spans one behind another, span k of `size k` days: the span, from k on, in which day x falls, and which day of it that is. The last of so many more takes all the rest.
unfoldable pub span_of : (ℕ → ℕ) → ℕ → ℕ → ℕ → ℕ × ℕ
span_of size zero k x = (k, x)
span_of size (suc more) k x = choose (ltb x (size k)) (λ _. (k, x)) (λ _. span_of size more (k + 1) (x - size k))

-- The year, counted from 1970 and up to 9999, in which a day falls, and which day of it.
abbrev pub year_of : ℕ → ℕ × ℕ
year_of days = span_of (λ (k : ℕ). year_days (1970 + k)) 8029 0 days

-- The date of a year's day, with the month and the day of the month.
abbrev pub in_year : ℕ → ℕ × ℕ → Date
in_year years s = record { years = years; months = s.0; days = s.1 }

abbrev pub day_of_year : ℕ → ℕ → Date
day_of_year years day = in_year years (span_of (month_days (1970 + years)) 11 0 day)

-- The date that so many days stand before.
unfoldable pub date_after : ℕ → Date
date_after days = day_of_year (year_of days).0 (year_of days).1

-- The days of so many years from 1970 on, and of so many months of a year.
unfoldable pub years_days : ℕ → ℕ
years_days zero = 0
years_days (suc k) = years_days k + year_days (1970 + k)

unfoldable pub months_days : ℕ → ℕ → ℕ
months_days y zero = 0
months_days y (suc m) = months_days y m + month_days y m

-- What makes it the right date: so many days stand before it, and the calendar has it.
pub record DateOf (days : ℕ) (d : Date) : Type 0 where
  pub sum : years_days d.years + (months_days (1970 + d.years) d.months + d.days) ≡ days
  pub month : d.months < 12
  pub day : d.days < month_days (1970 + d.years) d.months
