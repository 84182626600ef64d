-- What is said of octets behind a length: of their end, and where they are known to be accepted, whatever their rule.
use Rattle.std.specs.Prelude.{ℕ, ◌+◌, ◌≤◌, ◌≡◌, List, Result, Ok, Err}
use Rattle.octets.specs.Reading.{ok}
use Rattle.octets.specs.declared.Room.TheVariants.{Document}
use Rattle.octets.specs.declared.Refused.{Refused}
use Rattle.texts.specs.Texts.{led_in}
use Rattle.texts.specs.declared.Rule.{Rule}

-- An end that is behind the length at a place and passes no end.
abbrev pub Behind : ℕ → Result ℕ Refused → ℕ → Type 0
Behind at (Ok p) end = (at + 4 ≤ p) × (p ≤ end)
Behind at (Err r) end = Unit {0}

-- Octets behind a length stand at a place, by some rule.
pub record Stands (s : List ℕ) (at : ℕ) : Type 0 where
  pub rule : Rule
  pub octets : List ℕ
  pub next : ℕ
  pub reads : led_in rule Document s at ≡ ok octets next
