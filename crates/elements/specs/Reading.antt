-- The readings that a walk makes: from the first octet, and from a place over a lent book.
use Rattle.std.specs.Prelude.{ℕ, ◌+◌, List, [], ◌∷◌, ◌++◌}
use Rattle.std.proofs.Math.Option.{Option, some, none}
use Rattle.octets.specs.Reading.{Read, ok, no, ◌then◌}
use Rattle.headers.specs.Header.{Header, header_at}
use Rattle.elements.specs.Element.{layout, row, Element, item, finish}
use Rattle.elements.specs.Steps.{lent_book}
use Rattle.elements.specs.Walk.{Stop, ended, refused, Seen, Walk, Spot, spot_at, through}

-- An element with its place.
pub record Placed : Type 0 where
  pub place : ℕ
  pub element : Element

abbrev pub placed : Seen → Placed
placed p = record { place = p.place; element = item p.which }

abbrev pub placed_all : List Seen → List Placed
placed_all [] = []
placed_all (p ∷ ps) = placed p ∷ placed_all ps

-- The end, where a walk that stands at a place came to it.
abbrev pub closing : ℕ → Option Stop → List Placed
closing at none = []
closing at (some (ended n t next)) = record { place = at; element = finish n t } ∷ []
closing at (some (refused n p)) = []

-- The elements met: the items, and the end behind them.
abbrev pub elements_of : List Seen → ℕ → Option Stop → List Placed
elements_of ps at e = placed_all ps ++ closing at e

-- What is answered of a walk: a value and the place behind the end, or the refusal alone. One that paused is cut short.
abbrev pub answer_of : {A : Type 0} → A → ℕ → Option Stop → Read A
answer_of a at none = no 1 at
answer_of a at (some (ended n t next)) = ok a next
answer_of a at (some (refused n p)) = no n p

-- Its elements, or its count of rows.
abbrev pub elements_read : Walk Spot → Read (List Placed)
elements_read w = answer_of (elements_of w.seen w.spot.at w.stop) w.spot.at w.stop

abbrev pub rows_read : Walk Spot → Read ℕ
rows_read w = answer_of w.spot.rows w.spot.at w.stop

-- A reading from a place, over a lent book and told the rows before.
unfoldable pub reading_from : List ℕ → ℕ → ℕ → List ℕ → ℕ → Read (List Placed)
reading_from s at rows octets used = lent_book s rows octets used then λ book _. elements_read (through s (spot_at at rows book))

pub record Reading : Type 0 where
  pub header : Header
  pub elements : List Placed

abbrev pub headed : Header → Read (List Placed) → Read Reading
headed h r = r then λ elements end. ok (record { header = h; elements = elements }) end

-- A first-octet reading: the header, then the elements from an empty book.
unfoldable pub reading : List ℕ → Read Reading
reading s = header_at s then λ h next. headed h (elements_read (through s (spot_at next 0 [])))

abbrev pub as_row : Element → ℕ
as_row (item (layout l)) = 0
as_row (item (row r)) = 1
as_row (finish n t) = 0

abbrev pub rows_of : List Placed → ℕ
rows_of [] = 0
rows_of (p ∷ rest) = as_row p.element + rows_of rest

-- The whole check: the row count, or that reading's refusal.
unfoldable pub whole : List ℕ → Read ℕ
whole s = reading s then λ r end. ok (rows_of r.elements) end
