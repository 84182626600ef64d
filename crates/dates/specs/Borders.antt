-- Times at the borders of the range, of the decimals and of the calendar, each with its text.
use Rattle.std.specs.Prelude.{List, [], ◌∷◌, ℕ, ℤ, pos, negsuc}
use Prim.Native.String.{String}
use Rattle.printing.specs.Text.{spelt}
use Rattle.dates.specs.Times.{time_text}

pub record Border : Type 0 where
  pub time : ℤ
  pub text : String

abbrev pub borders : List Border
borders =
    -- The least number of 64 bits, and the last before 1970.
    record { time = negsuc 9223372036854775807; text = "@-9223372036854775808" }
    ∷ record { time = negsuc 0; text = "@-1" }
    -- The first second, with each count of leading zeros, and the next one.
    ∷ record { time = pos 0; text = "1970-01-01T00:00:00.000Z" }
    ∷ record { time = pos 9; text = "1970-01-01T00:00:00.009Z" }
    ∷ record { time = pos 10; text = "1970-01-01T00:00:00.010Z" }
    ∷ record { time = pos 100; text = "1970-01-01T00:00:00.100Z" }
    ∷ record { time = pos 999; text = "1970-01-01T00:00:00.999Z" }
    ∷ record { time = pos 1000; text = "1970-01-01T00:00:01.000Z" }
    -- The specimen's times.
    ∷ record { time = pos 86400; text = "1970-01-01T00:01:26.400Z" }
    ∷ record { time = pos 86401; text = "1970-01-01T00:01:26.401Z" }
    -- The last millisecond of a day, and the next day.
    ∷ record { time = pos 86399999; text = "1970-01-01T23:59:59.999Z" }
    ∷ record { time = pos 86400000; text = "1970-01-02T00:00:00.000Z" }
    -- The last millisecond of a year without and of one with a leap day, and the next years.
    ∷ record { time = pos 946684799999; text = "1999-12-31T23:59:59.999Z" }
    ∷ record { time = pos 946684800000; text = "2000-01-01T00:00:00.000Z" }
    ∷ record { time = pos 978307199999; text = "2000-12-31T23:59:59.999Z" }
    ∷ record { time = pos 978307200000; text = "2001-01-01T00:00:00.000Z" }
    -- 29 February 2000 and the day behind it: of the full hundreds every fourth has a leap day.
    ∷ record { time = pos 951782400000; text = "2000-02-29T00:00:00.000Z" }
    ∷ record { time = pos 951868799999; text = "2000-02-29T23:59:59.999Z" }
    ∷ record { time = pos 951868800000; text = "2000-03-01T00:00:00.000Z" }
    -- 28 February 2100 and the day behind it: the other full hundreds have none.
    ∷ record { time = pos 4107456000000; text = "2100-02-28T00:00:00.000Z" }
    ∷ record { time = pos 4107542399999; text = "2100-02-28T23:59:59.999Z" }
    ∷ record { time = pos 4107542400000; text = "2100-03-01T00:00:00.000Z" }
    -- The last millisecond that has a date, the first that has none, and the greatest number of 64 bits.
    ∷ record { time = pos 253402300799999; text = "9999-12-31T23:59:59.999Z" }
    ∷ record { time = pos 253402300800000; text = "@253402300800000" }
    ∷ record { time = pos 9223372036854775807; text = "@9223372036854775807" }
    ∷ []

-- Every time is shown as its text.
abbrev pub shown : List Border → List (List ℕ)
shown [] = []
shown (b ∷ rest) = time_text b.time ∷ shown rest

abbrev pub texts : List Border → List (List ℕ)
texts [] = []
texts (b ∷ rest) = spelt b.text ∷ texts rest
