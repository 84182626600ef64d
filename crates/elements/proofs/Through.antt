-- The walk to its end or refusal, with no count of turns in sight: it comes to a stop, goes on by any way, and splits at every item met.
use Prim.Native.Nat.{ℕ, ◌+◌, ◌-◌, ◌≤◌, ◌<◌}
use mathlib.Core.Path.{◌≡◌, sym}
use mathlib.Core.List.{List, [], ◌∷◌, ◌++◌}
use mathlib.Core.Option.{some}
use native.Mathlib.Omega.{arith}
use native.Mathlib.Nat.{add-zero}
use lib.ListN.{length}
use Rattle.octets.specs.Limits.{longest}
use Rattle.octets.specs.Writing.{Each, Octet}
use Rattle.elements.specs.Element.{item}
use Rattle.elements.specs.Reading.{placed_all, rows_of}
use Rattle.elements.specs.Walk.{Stop, Seen, goes, stops, standing, behind, Path, Spot, turn_at, through, Lent, turn_over, through_over}
use Rattle.elements.proofs.Behind.{few_rows}
use Rattle.elements.proofs.Walks.{walk_comes, whole_path, whole_split, whole_stops}
use Rattle.elements.proofs.Turns.{turn_moves, turn_rows, over_moves}

-- Rows are not more than items.
pub rows_few : (ps : List Seen) → rows_of (placed_all ps) ≤ length ps
rows_few [] = omega arith
rows_few (p ∷ ps) = let one = few_rows (item p.which) in omega (arith, rows_few ps)

-- Along a way they are counted.
pub path_rows : (s : List ℕ) (ps : List Seen) (x y : Spot) → Path (turn_at s) x ps y → y.rows ≡ x.rows + rows_of (placed_all ps)
path_rows s [] x y h = rw (← h) (sym (add-zero x.rows))
path_rows s (p ∷ ps) x y h = omega (arith, turn_rows s x p h.0 h.1, path_rows s ps h.0 y h.2)

module _ (s : List ℕ) (o : Each Octet s) where
  module _ (short : length s ≤ longest) where
    abbrev left : Spot → ℕ
    left x = length s - x.at

    less : (x y : Spot) (p : Seen) → turn_at s x ≡ goes p y → left y < left x
    less x y p e = omega (arith, turn_moves s x o short p y e)

    enough : (x : Spot) → left x < length s + 1
    enough x = omega arith

    pub through_comes : (x : Spot) → (e : Stop) × ((through s x).stop ≡ some e)
    unfolding through
    through_comes x = walk_comes (turn_at s) left less (length s + 1) x (enough x)

    pub through_stops : (x : Spot) (e : Stop) → turn_at s x ≡ stops e → through s x ≡ standing x (some e)
    unfolding through
    through_stops x e h = whole_stops (turn_at s) left less (length s + 1) enough x e h

    -- Any way first: so the items met begin with it.
    pub through_path : (ps : List Seen) (x y : Spot) → Path (turn_at s) x ps y → through s x ≡ behind ps (through s y)
    unfolding through
    through_path ps x y h = whole_path (turn_at s) left less (length s + 1) enough ps x y h

    -- A walk split at an item: the rest is the walk from there.
    pub through_split : (ps qs : List Seen) (x : Spot) → (through s x).seen ≡ ps ++ qs → (z : Spot) × Path (turn_at s) x ps z × (through s x ≡ behind ps (through s z))
    unfolding through
    through_split ps qs x e = whole_split (turn_at s) left less (length s + 1) enough ps qs x e

    -- Every item takes octets.
    pub path_moves : (ps : List Seen) (x y : Spot) → Path (turn_at s) x ps y → x.at + length ps ≤ y.at
    path_moves [] x y h = rw (← h) (omega arith)
    path_moves (p ∷ ps) x y h = omega (arith, turn_moves s x o short p h.0 h.1, path_moves ps h.0 y h.2)

  -- Over lent octets, whatever they hold.
  abbrev left_over : Lent → ℕ
  left_over x = length s - x.at

  less_over : (x y : Lent) (p : Seen) → turn_over s x ≡ goes p y → left_over y < left_over x
  less_over x y p e = omega (arith, over_moves s x o p y e)

  enough_over : (x : Lent) → left_over x < length s + 1
  enough_over x = omega arith

  pub over_comes : (x : Lent) → (e : Stop) × ((through_over s x).stop ≡ some e)
  unfolding through_over
  over_comes x = walk_comes (turn_over s) left_over less_over (length s + 1) x (enough_over x)

  pub over_stops : (x : Lent) (e : Stop) → turn_over s x ≡ stops e → through_over s x ≡ standing x (some e)
  unfolding through_over
  over_stops x e h = whole_stops (turn_over s) left_over less_over (length s + 1) enough_over x e h

  pub over_path : (ps : List Seen) (x y : Lent) → Path (turn_over s) x ps y → through_over s x ≡ behind ps (through_over s y)
  unfolding through_over
  over_path ps x y h = whole_path (turn_over s) left_over less_over (length s + 1) enough_over ps x y h

  pub over_split : (ps qs : List Seen) (x : Lent) → (through_over s x).seen ≡ ps ++ qs → (z : Lent) × Path (turn_over s) x ps z × (through_over s x ≡ behind ps (through_over s z))
  unfolding through_over
  over_split ps qs x e = whole_split (turn_over s) left_over less_over (length s + 1) enough_over ps qs x e
