-- Every time at a border is shown as its text: one statement, which antt computes. Assumes nothing.
use mathlib.Core.Path.{◌≡◌, refl}
use Rattle.printing.specs.Text.{digits, filled}
use Rattle.dates.specs.Calendar.{year_days, month_days, span_of, date_after}
use Rattle.dates.specs.Times.{moment_text, time_text}
use Rattle.dates.specs.Borders.{borders, shown, texts}

pub all_shown : shown borders ≡ texts borders
unfolding digits filled year_days month_days span_of date_after moment_text time_text
all_shown = refl
