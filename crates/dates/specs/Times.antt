-- The text of a time: milliseconds since 1970-01-01 00:00:00 UTC, a signed number.
use Rattle.std.specs.Prelude.{ℕ, ◌+◌, ◌/◌, ◌%◌, List, ◌++◌, leb, ℤ, pos, negsuc}
use Rattle.octets.specs.Reading.{choose}
use Rattle.printing.specs.Text.{spelt, filled, signed}
use Rattle.dates.specs.declared.Date.{Date}
use Rattle.dates.specs.Calendar.{date_after}

-- YYYY-MM-DD.
abbrev pub day_text : Date → List ℕ
day_text d = filled 4 (1970 + d.years) ++ (spelt "-" ++ (filled 2 (d.months + 1) ++ (spelt "-" ++ filled 2 (d.days + 1))))

-- THH:MM:SS of the seconds of a day.
abbrev pub clock_text : ℕ → List ℕ
clock_text s = spelt "T" ++ (filled 2 (s / 3600) ++ (spelt ":" ++ (filled 2 (s / 60 % 60) ++ (spelt ":" ++ filled 2 (s % 60)))))

-- YYYY-MM-DDTHH:MM:SS.mmmZ: the quotient by 1000 is the seconds, the rest the decimals.
unfoldable pub moment_text : ℕ → List ℕ
moment_text t = day_text (date_after (t / 1000 / 86400)) ++ (clock_text (t / 1000 % 86400) ++ (spelt "." ++ (filled 3 (t % 1000) ++ spelt "Z")))

-- A time from 1970 to the last millisecond of 9999 is shown so, any other as "@" and the number.
unfoldable pub time_text : ℤ → List ℕ
time_text (pos t) = choose (leb t 253402300799999) (λ _. moment_text t) (λ _. spelt "@" ++ signed (pos t))
time_text (negsuc n) = spelt "@" ++ signed (negsuc n)
