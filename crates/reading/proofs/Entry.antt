-- The equations of the whole check: the header's refusal, or the rows counted behind it.
use Prim.Native.Nat.{ℕ}
use mathlib.Core.Path.{◌≡◌, refl, ap, ◌∙◌}
use mathlib.Core.List.{List, []}
use Rattle.octets.specs.Reading.{Read, ok, no, ◌then◌}
use Rattle.headers.specs.Header.{Header, header_at}
use Rattle.elements.specs.Walk.{spot_at, through}
use Rattle.elements.specs.Reading.{rows_read, reading, whole}
use Rattle.elements.proofs.Readings.{whole_through}

module _ (s : List ℕ) where
  pub whole_refused : (n p : ℕ) → header_at s ≡ no n p → whole s ≡ no n p
  unfolding whole reading
  whole_refused n p e = rw e refl

  pub whole_from : (h : Header) (next : ℕ) → header_at s ≡ ok h next → whole s ≡ rows_read (through s (spot_at next 0 []))
  whole_from h next e = whole_through s ∙ ap (λ (r : Read Header). r then λ _ place. rows_read (through s (spot_at place 0 []))) e
