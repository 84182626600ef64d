-- A time is told by its text: no two times have the same.
use Prim.Native.Nat.{ℕ, ◌+◌, ◌-◌, ◌*◌, ◌/◌, ◌%◌, ◌^◌, ◌≤◌, ◌<◌}
use Prim.Native.Char.{code}
use mathlib.Core.Path.{◌≡◌, refl, sym, ap, ◌∙◌}
use mathlib.Core.List.{List, [], ◌∷◌, ◌++◌}
use mathlib.Core.Bool.{Bool, true, false, cond}
use native.Mathlib.Omega.{arith}
use lib.ListN.{take, drop}
use lib.Dec.{eqb, leb}
use lib.IntN.{ℤ, pos, negsuc}
use mir.Syntax.{w64}
use mir.Val.{SFits}
use borrow.Author.Tests.{ne_eqb, leb-true}
use Rattle.octets.specs.Reading.{choose}
use Rattle.printing.specs.Text.{spelt, decimal, filled}
use Rattle.printing.proofs.Digits.{total, filled_tells, digits_tell, digits_lead}
use Rattle.dates.specs.Calendar.{years_days, months_days, date_after}
use Rattle.dates.specs.Times.{moment_text, time_text}
use Rattle.dates.proofs.Dates.{right_date, small}

-- The milliseconds of a date and a time of day, and those of a text, whose numbers stand at their places.
unfoldable pub instant : ℕ → ℕ → ℕ → ℕ → ℕ → ℕ → ℕ → ℕ
instant year month day hour minute second ms =
    ((years_days (year - 1970) + (months_days year (month - 1) + (day - 1))) * 86400 + (hour * 3600 + (minute * 60 + second))) * 1000 + ms

abbrev pub digits_at : List ℕ → ℕ → ℕ → ℕ
digits_at text at k = total 0 (take k (drop at text))

abbrev pub moment_of : List ℕ → ℕ
moment_of x = instant (digits_at x 0 4) (digits_at x 5 2) (digits_at x 8 2) (digits_at x 11 2) (digits_at x 14 2) (digits_at x 17 2) (digits_at x 20 3)

abbrev stamp : ℕ → ℕ → ℕ → ℕ → ℕ → ℕ → ℕ → List ℕ
stamp a b c d e f g =
    (filled 4 a ++ (spelt "-" ++ (filled 2 b ++ (spelt "-" ++ filled 2 c))))
    ++ ((spelt "T" ++ (filled 2 d ++ (spelt ":" ++ (filled 2 e ++ (spelt ":" ++ filled 2 f))))) ++ (spelt "." ++ (filled 3 g ++ spelt "Z")))

stamped : (a b c d e f g : ℕ) → a < 10000 → b < 100 → c < 100 → d < 100 → e < 100 → f < 100 → g < 1000
    → moment_of (stamp a b c d e f g) ≡ instant a b c d e f g
unfolding filled
stamped a b c d e f g ha hb hc hd he hf hg =
    let pa = filled_tells 4 a ha in
    let pb = filled_tells 2 b hb in
    let pc = filled_tells 2 c hc in
    let pd = filled_tells 2 d hd in
    let pe = filled_tells 2 e he in
    let pf = filled_tells 2 f hf in
    let pg = filled_tells 3 g hg in
    cc

moment_told : (t : ℕ) → t ≤ 253402300799999 → moment_of (moment_text t) ≡ t
unfolding moment_text instant
moment_told t h =
    let days = t / 1000 / 86400 in
    let d = date_after days in
    let s = t / 1000 % 86400 in
    let r = right_date days (omega arith) in
    let (years, months, days_few) = small days (omega arith) in
    let a : 1970 + d.years - 1970 ≡ d.years = omega arith in
    let b : d.months + 1 - 1 ≡ d.months = omega arith in
    let c : d.days + 1 - 1 ≡ d.days = omega arith in
    stamped (1970 + d.years) (d.months + 1) (d.days + 1) (s / 3600) (s / 60 % 60) (s % 60) (t % 1000) (omega arith) (omega arith) (omega arith) (omega arith) (omega arith) (omega arith) (omega arith)
    ∙ rw (a, b, c, r.sum) (omega arith)

-- The time that a text tells: each time is told by its own.
abbrev pub time_of : List ℕ → ℤ
time_of [] = pos 0
time_of (x ∷ []) = pos 0
time_of (x ∷ y ∷ rest) = cond (eqb x (code "@")) (cond (eqb y (code "-")) (negsuc (total 0 rest - 1)) (pos (total 0 (y ∷ rest)))) (pos (moment_of (x ∷ y ∷ rest)))

late : (t : ℕ) → t < 10 ^ 20 → time_of (spelt "@" ++ decimal t) ≡ pos t
late t h =
    let l = digits_lead 19 t in
    let same : decimal t ≡ l.lead ∷ l.rest = l.is in
    ap (λ (xs : List ℕ). time_of (spelt "@" ++ xs)) same
    ∙ rw (ne_eqb l.lead 45 (λ e. omega (arith, l.digit, e))) (ap pos (ap (total 0) (sym same) ∙ digits_tell 20 t h))

dated : (t : ℕ) → t ≤ 253402300799999 → time_of (moment_text t) ≡ pos t
unfolding moment_text filled
dated t h = rw (ne_eqb (48 + (1970 + (date_after (t / 1000 / 86400)).years) / 10 / 10 / 10 % 10) 64 (λ e. omega (arith, e))) (ap pos (moment_told t h))

pub time_told : (z : ℤ) → SFits w64 z → time_of (time_text z) ≡ z
unfolding time_text
time_told (pos t) f = go (leb t 253402300799999) refl
  where
    go : (b : Bool) → leb t 253402300799999 ≡ b → time_of (choose b (λ _. moment_text t) (λ _. spelt "@" ++ decimal t)) ≡ pos t
    go true e = dated t (leb-true t 253402300799999 e)
    go false e = late t (omega (arith, f.sfits))
time_told (negsuc n) f = ap negsuc (ap (λ (k : ℕ). k - 1) (digits_tell 20 (n + 1) (omega (arith, f.sfits))) ∙ omega arith)

pub one_time : (y z : ℤ) → SFits w64 y → SFits w64 z → time_text y ≡ time_text z → y ≡ z
one_time y z f g e = sym (time_told y f) ∙ (ap time_of e ∙ time_told z g)
