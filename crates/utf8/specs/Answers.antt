-- What the functions of this crate answer.
use Rattle.std.specs.Prelude.{ℕ, zero, suc, ◌+◌, ◌-◌, ◌*◌, ◌/◌, ◌^◌, ◌≤◌, ◌<◌, ◌≡◌, List, Bool, true, false, get_or, Some, None}
use Rattle.std.specs.Prelude as std
use Rattle.std.proofs.Math.Option.{Option}
use Rattle.octets.specs.Reading.{part}
use Rattle.utf8.specs.Utf8.{Range, spells, utf8}

-- The number of so many octets of which each keeps its top bit alone.
unfoldable pub marks : ℕ → List ℕ → ℕ → ℕ
marks zero s at = 0
marks (suc w) s at = marks w s at * 256 + get_or s (at + w) 0 / 128 * 128

-- So many of a number's eight octets are zero before the first that is not.
abbrev pub Zeros : ℕ → ℕ → Type 0
Zeros m r = (r ≤ 8) × (m < 256 ^ (8 - r)) × ((n : ℕ) → m < 256 ^ n → 8 ≤ r + n)

-- The octets from a place to another are ASCII.
abbrev pub Ascii : List ℕ → ℕ → ℕ → Type 0
Ascii s at to = (i : ℕ) → at ≤ i → i < to → get_or s i 0 < 128

-- Where something is wanted at a place, the octet there is right and something else is wanted behind it, or octets are never right from there to an end.
abbrev pub Steps : Option (List Range) → Option (List Range) → List ℕ → ℕ → ℕ → Bool → Type 0
Steps wanted later s at to true = (at + 1 ≤ to) × (spells wanted (part s at (to - at)) ≡ spells later (part s (at + 1) (to - (at + 1))))
Steps wanted later s at to false = spells wanted (part s at (to - at)) ≡ false

-- The same of all that is wanted: octets are right from there to an end just where those behind what was passed are UTF-8, or never.
abbrev pub Passes : Option (List Range) → List ℕ → ℕ → ℕ → std.Option ℕ → Type 0
Passes wanted s at to (Some next) = (at ≤ next) × (next ≤ to) × (spells wanted (part s at (to - at)) ≡ utf8 (part s next (to - next)))
Passes wanted s at to None = spells wanted (part s at (to - at)) ≡ false
