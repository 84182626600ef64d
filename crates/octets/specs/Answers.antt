-- What the answers of the readers say.
use Rattle.std.specs.Prelude.{ℕ, ◌≤◌, Result, Ok, Err}
use Rattle.octets.specs.Reading.{Read, ok, no}
use Rattle.octets.specs.declared.Refused.{Refused}

-- An end, or a refusal by number and place.
abbrev pub says : Result ℕ Refused → Read ℕ
says (Ok p) = ok p p
says (Err r) = no r.number r.place

-- A count and the place behind it, or a refusal.
abbrev pub counts : Result (ℕ × ℕ) Refused → Read ℕ
counts (Ok (k, next)) = ok k next
counts (Err r) = no r.number r.place

-- A place that is behind another and passes no end.
abbrev pub Within : ℕ → Result ℕ Refused → ℕ → Type 0
Within at (Ok p) end = (at ≤ p) × (p ≤ end)
Within at (Err r) end = Unit {0}

abbrev pub CountWithin : ℕ → Result (ℕ × ℕ) Refused → ℕ → Type 0
CountWithin at (Ok (k, next)) end = (at ≤ next) × (next ≤ end)
CountWithin at (Err r) end = Unit {0}
