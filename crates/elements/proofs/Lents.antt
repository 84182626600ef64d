-- A walk by steps over lent octets is the walk over the book that they hold: each step finds there what the step before left.
use Prim.Native.Nat.{ℕ, ◌+◌, ◌-◌, ◌≤◌}
use mathlib.Core.Path.{◌≡◌, refl, ◌∙◌}
use mathlib.Core.List.{List}
use native.Mathlib.Omega.{arith}
use lib.ListN.{length}
use Rattle.octets.specs.Limits.{longest, most_rows, book_room}
use Rattle.octets.specs.Reading.{Read, ok, no}
use Rattle.octets.specs.Writing.{Each, Octet}
use Rattle.layouts.specs.Book.{book_in, IsBook, GoodBook}
use Rattle.elements.specs.Element.{Element, item, finish, Stepped, element_at}
use Rattle.elements.specs.Steps.{step_at}
use Rattle.elements.specs.Walk.{walk, turn_by, turn_of, Spot, spot_of, turn_at, Lent, lent_of, turn_over, through, through_over}
use Rattle.elements.proofs.Before.{step_is}
use Rattle.elements.proofs.Behind.{few_rows, element_place, element_book, holding_length, holding_book}
use Rattle.elements.proofs.Went.{step_rows}
use Rattle.elements.proofs.Walks.{Agree, Alike, walk_alike}

module _ (s : List ℕ) (o : Each Octet s) (short : length s ≤ longest) where
  -- Lent octets that hold a good book, and rows that stay within the limit whatever follows.
  pub record Holds (x : Lent) (y : Spot) : Type 0 where
    pub at : x.at ≡ y.at
    pub rows : x.rows ≡ y.rows
    pub few : x.rows + (length s - x.at) ≤ most_rows
    pub room : book_room ≤ length x.octets
    pub is : IsBook x.octets x.used
    pub book : book_in x.octets x.used ≡ y.book
    pub good : GoodBook y.book

  module _ (x : Lent) (y : Spot) (h : Holds x y) where
    pub over_book : step_at s x.at x.rows x.octets x.used ≡ element_at s y.at y.rows y.book
    over_book = step_is s x.rows x.octets x.used x.at short h.is (omega (arith, h.few)) ∙ rw (h.at, h.rows, h.book) refl

    pub holds_on : (st : Stepped) (next : ℕ) → element_at s y.at y.rows y.book ≡ ok st next → Holds (lent_of x.octets st next) (spot_of st next)
    holds_on st next e =
        let good = element_book s short o y.at y.rows y.book st next e h.good in
        let (is, same) = holding_book st.book x.octets good h.room in
        let (far, inside) = element_place s short o y.at y.rows y.book st next e in
        record {
          at = refl;
          rows = refl;
          few = omega (arith, h.few, h.at, h.rows, step_rows s y.at y.rows y.book st next e, few_rows st.element);
          room = omega (arith, h.room, holding_length st.book x.octets good h.room);
          is = is;
          book = same;
          good = good;
        }

    agree_by : (r : Read Stepped) → element_at s y.at y.rows y.book ≡ r
        → Agree (turn_over s) (turn_at s) Holds (turn_of (lent_of x.octets) y.at r) (turn_of spot_of y.at r)
    agree_by (no n p) e = refl
    agree_by (ok st next) e = by st.element
      where
        by : (d : Element) → Agree (turn_over s) (turn_at s) Holds (turn_by (lent_of x.octets) y.at st next d) (turn_by spot_of y.at st next d)
        by (finish n t) = refl
        by (item i) = (refl, holds_on st next e)

    agree : Agree (turn_over s) (turn_at s) Holds (turn_over s x) (turn_at s y)
    agree = rw (over_book, h.at) (agree_by (element_at s y.at y.rows y.book) refl)

  -- So they go alike, by any number of turns.
  pub lent_alike : (k : ℕ) (x : Lent) (y : Spot) → Holds x y → Alike (turn_over s) (turn_at s) Holds (walk (turn_over s) k x) (walk (turn_at s) k y)
  lent_alike k x y h = walk_alike (turn_over s) (turn_at s) Holds agree k x y h

  pub through_alike : (x : Lent) (y : Spot) → Holds x y → Alike (turn_over s) (turn_at s) Holds (through_over s x) (through s y)
  unfolding through through_over
  through_alike x y h = lent_alike (length s + 1) x y h
