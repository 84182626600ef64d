-- The first word of a line that answers a question.
use Rattle.std.specs.Prelude.{ℕ, List, Result, Ok, Err}
use Rattle.octets.specs.declared.Refused.{Refused}
use Rattle.printing.specs.Text.{showing, refusal}
use Rattle.printing.specs.declared.Show.TheVariants.{Plain}

-- A word, or the refusal of what was asked.
abbrev pub head_text : Result (Unit {0}) Refused → List ℕ → List ℕ
head_text (Ok tt) w = showing Plain w
head_text (Err r) w = refusal r.number r.place
