-- Demand 2: which octets are a document, and what each of them says, is settled by the octets alone.
use Rattle.std.specs.Prelude.{ℕ, ◌≡◌, List, true, ◌↔◌, length}
use Rattle.octets.specs.Reading.{ok, no, is_ok}
use Rattle.elements.specs.Reading.{Reading, reading, whole}
use Rattle.elements.specs.Document.{Document, image, row_count, Good, reading_of}

-- Octets mean a document where it is inside the limits and they are its one image.
pub record Means (s : List ℕ) (d : Document) : Type 0 where
  pub good : Good d
  pub is : image d ≡ s

-- What is promised of octets.
pub record Meaning (s : List ℕ) : Type 0 where
  -- What has a meaning is read as just that: the header, every element at its place, to the last octet; and the whole check answers its rows.
  pub complete : (d : Document) → Means s d → (reading s ≡ ok (reading_of d) (length s)) × (whole s ≡ ok (row_count d.items) (length s))
  -- What is read to its end has a meaning, and the reading is that document's.
  pub sound : (r : Reading) (end : ℕ) → reading s ≡ ok r end → (d : Document) × Means s d × (reading_of d ≡ r) × (end ≡ length s)
  -- There is one meaning.
  pub one : (d e : Document) → Means s d → Means s e → d ≡ e
  -- The whole check accepts just what has a meaning, and refuses by that reading's number and place.
  pub accepts : (is_ok (whole s) ≡ true) ↔ ((d : Document) × Means s d)
  pub refuses : (n p : ℕ) → (whole s ≡ no n p) ↔ (reading s ≡ no n p)
