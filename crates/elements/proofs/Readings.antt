-- Readings are views of a walk: what the reading and the whole check answer behind a way, and how elements met split where the items do.
use Prim.Native.Nat.{ℕ, ◌+◌}
use mathlib.Core.Path.{◌≡◌, refl, sym, ap, ◌∙◌}
use mathlib.Core.List.{List, [], ◌∷◌, ◌++◌, append_assoc}
use mathlib.Core.Option.{Option, some, none}
use native.Mathlib.Omega.{arith}
use lib.ListN.{length}
use Rattle.octets.specs.Reading.{Read, ok, no, ◌then◌}
use Rattle.octets.proofs.Inverse.{no_ok, ok_value, ok_place}
use Rattle.headers.specs.Header.{Header, header_at}
use Rattle.elements.specs.Element.{finish}
use Rattle.elements.specs.Walk.{Stop, ended, refused, Seen, Walk, walk, Spot, spot_at, turn_at, through}
use Rattle.elements.specs.Reading.{Placed, placed, placed_all, closing, elements_of, answer_of, elements_read, rows_read, headed, reading, rows_of, whole}
use Rattle.elements.proofs.Walks.{walk_path}
use Rattle.elements.proofs.Through.{path_rows}

pub placed_append : (ps qs : List Seen) → placed_all (ps ++ qs) ≡ placed_all ps ++ placed_all qs
placed_append [] qs = refl
placed_append (p ∷ ps) qs = rw (placed_append ps qs) refl

pub elements_behind : (ps qs : List Seen) (at : ℕ) (e : Option Stop) → elements_of (ps ++ qs) at e ≡ placed_all ps ++ elements_of qs at e
elements_behind ps qs at e = rw (placed_append ps qs) (append_assoc (placed_all ps) (placed_all qs) (closing at e))

pub placed_length : (ps : List Seen) → length (placed_all ps) ≡ length ps
placed_length [] = refl
placed_length (p ∷ ps) = rw (placed_length ps) refl

-- What was answered to the end.
pub ended_answer : {A : Type 0} (a b : A) (at end : ℕ) (e : Option Stop) → answer_of a at e ≡ ok b end → (n : ℕ) × (t : ℕ) × (e ≡ some (ended n t end)) × (a ≡ b)
ended_answer a b at end none h = absurd (no_ok refl h)
ended_answer a b at end (some (ended n t next)) h = (n, t, ap (λ (p : ℕ). some (ended n t p)) (ok_place refl h), ok_value refl h)
ended_answer a b at end (some (refused n p)) h = absurd (no_ok refl h)

pub read_ended : (w : Walk Spot) (ps : List Placed) (end : ℕ) → elements_read w ≡ ok ps end
    → (n : ℕ) × (t : ℕ) × (w.stop ≡ some (ended n t end)) × (ps ≡ placed_all w.seen ++ (record { place = w.spot.at; element = finish n t } ∷ []))
read_ended w ps end e =
    let (n, t, stop, is) = ended_answer (elements_of w.seen w.spot.at w.stop) ps w.spot.at end w.stop e in
    (n, t, stop, sym is ∙ ap (elements_of w.seen w.spot.at) stop)

-- Elements met, split where an element is named: the items before it are a part of those seen.
pub record Cut (ps : List Seen) (at : ℕ) (e : Option Stop) (before : List Placed) (rest : List Placed) : Type 0 where
  pub front : List Seen
  pub back : List Seen
  pub both : ps ≡ front ++ back
  pub before_is : before ≡ placed_all front
  pub rest_is : rest ≡ elements_of back at e

pub cut : (ps : List Seen) (at : ℕ) (e : Option Stop) (before : List Placed) (here : Placed) (rest : List Placed) → elements_of ps at e ≡ before ++ here ∷ rest → Cut ps at e before (here ∷ rest)
cut ps at e [] here rest h = record { front = []; back = ps; both = refl; before_is = refl; rest_is = sym h }
cut [] at e (b ∷ before) here rest h = absurd (too_short e h)
  where
    none_more : (before : List Placed) → [] ≡ before ++ here ∷ rest → ⊥
    none_more [] h = let z : ◌≡◌ {A = ℕ} 0 1 = cc in omega arith
    none_more (c ∷ before) h = let z : ◌≡◌ {A = ℕ} 0 1 = cc in omega arith

    too_short : (e : Option Stop) → closing at e ≡ b ∷ (before ++ here ∷ rest) → ⊥
    too_short none h = let z : ◌≡◌ {A = ℕ} 0 1 = cc in omega arith
    too_short (some (ended n t next)) h = none_more before (let same : [] ≡ before ++ here ∷ rest = cc in same)
    too_short (some (refused n p)) h = let z : ◌≡◌ {A = ℕ} 0 1 = cc in omega arith
cut (p ∷ ps) at e (b ∷ before) here rest h =
    let same : placed p ≡ b = cc in
    let more = cut ps at e before here rest (let tails : elements_of ps at e ≡ before ++ here ∷ rest = cc in tails) in
    record {
      front = p ∷ more.front;
      back = more.back;
      both = ap (λ (qs : List Seen). p ∷ qs) more.both;
      before_is = rw (same, ← more.before_is) refl;
      rest_is = more.rest_is;
    }

-- The rows behind a walk are those before it and those met.
module _ (s : List ℕ) where
  rows_closing : (at : ℕ) (e : Option Stop) → rows_of (closing at e) ≡ 0
  rows_closing at none = refl
  rows_closing at (some (ended n t next)) = refl
  rows_closing at (some (refused n p)) = refl

  rows_append : (xs ys : List Placed) → rows_of (xs ++ ys) ≡ rows_of xs + rows_of ys
  rows_append [] ys = omega arith
  rows_append (x ∷ xs) ys = omega (arith, rows_append xs ys)

  pub elements_rows : (ps : List Seen) (at : ℕ) (e : Option Stop) → rows_of (elements_of ps at e) ≡ rows_of (placed_all ps)
  elements_rows ps at e = omega (arith, rows_append (placed_all ps) (closing at e), rows_closing at e)

  -- The whole check behind the header.
  pub whole_through : whole s ≡ (header_at s then λ h next. rows_read (through s (spot_at next 0 [])))
  unfolding whole reading through
  whole_through = go (header_at s)
    where
      counts : (h : Header) (n at : ℕ) (ps : List Placed) (e : Option Stop) → n ≡ rows_of ps → (headed h (answer_of ps at e) then λ r end. ok (rows_of r.elements) end) ≡ answer_of n at e
      counts h n at ps none q = refl
      counts h n at ps (some (ended m t next)) q = ap (λ (i : ℕ). ok i next) (sym q)
      counts h n at ps (some (refused m p)) q = refl

      go : (r : Read Header)
          → ((r then λ h next. headed h (elements_read (walk (turn_at s) (length s + 1) (spot_at next 0 [])))) then λ r end. ok (rows_of r.elements) end)
          ≡ (r then λ h next. rows_read (walk (turn_at s) (length s + 1) (spot_at next 0 [])))
      go (no n p) = refl
      go (ok h next) =
          let x : Spot = spot_at next 0 [] in
          let w : Walk Spot = walk (turn_at s) (length s + 1) x in
          counts h w.spot.rows w.spot.at (elements_of w.seen w.spot.at w.stop) w.stop
          (omega (arith, path_rows s w.seen x w.spot (walk_path (turn_at s) (length s + 1) x), elements_rows w.seen w.spot.at w.stop))
