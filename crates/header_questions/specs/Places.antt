-- What the inner functions find of a header: where item n of a list stands, and a string.
use Rattle.std.specs.Prelude.{ℕ, ◌+◌, ◌≤◌, ◌≡◌, List, true, length, leb, Result, Ok, Err}
use Rattle.octets.specs.Limits.{longest}
use Rattle.octets.specs.Reading.{Read, no, choose, ends, is_ok, be, run}
use Rattle.octets.specs.declared.Refused.{Refused}
use Rattle.texts.specs.Texts.{text}

-- The place of item n of a list whose count stands at a place, where the items before it end, one behind another; 18 at the count.
unfoldable pub listed_at : (ℕ → Read ℕ) → List ℕ → ℕ → ℕ → Read ℕ
listed_at one s at n = choose (leb (be 4 s at) n) (λ _. no 18 at) (λ _. ends (run one n (at + 4)))

-- Where something was found, a string stands in a document that is not too long.
abbrev pub IsText : List ℕ → Result ℕ Refused → Type 0
IsText s (Ok p) = (length s ≤ longest) × (is_ok (text s p) ≡ true)
IsText s (Err r) = Unit {0}
