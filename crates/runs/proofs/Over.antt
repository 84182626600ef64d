-- Turns over a book in hand are turns over the lent octets that hold it: an item leaves its book in them, rows leave them as they are, and behind more rows than a step is told nothing goes on.
use Prim.Native.Nat.{ℕ, ◌+◌, ◌%◌, ◌≤◌, ◌<◌}
use mathlib.Core.Path.{◌≡◌, refl, sym, ap, ◌∙◌, subst}
use mathlib.Core.List.{List, [], ◌∷◌}
use native.Mathlib.Omega.{arith}
use native.Mathlib.Nat.{add-zero}
use lib.ListN.{length, get_or}
use Rattle.octets.specs.Limits.{longest, most_rows}
use Rattle.octets.specs.Reading.{Read, ok, no}
use Rattle.octets.specs.Writing.{Each, Octet}
use Rattle.layouts.specs.Book.{Book, book_image, book_in, IsBook}
use Rattle.layouts.proofs.Walks.{lent_book_lem}
use Rattle.elements.specs.Element.{Item, layout, row, Element, item, finish, Stepped, element_at}
use Rattle.elements.specs.Steps.{holding}
use Rattle.elements.specs.Document.{GoodItems}
use Rattle.elements.specs.Reading.{as_row, placed_all, rows_of}
use Rattle.elements.specs.Walk.{Stop, refused, Seen, Turn, goes, stops, Path, number_of, turn_by, turn_of, Spot, spot_at, spot_of, turn_at, Lent, lent_at, lent_of, turn_over}
use Rattle.elements.proofs.Before.{lent_many, step_refused, step_is}
use Rattle.elements.proofs.Told.{holding_same}
use Rattle.elements.proofs.Items.{items_of}
use Rattle.elements.proofs.Behind.{few_rows}
use Rattle.elements.proofs.Turns.{Took, took_at, took_row, turn_item}
use Rattle.elements.proofs.Through.{rows_few}
use Rattle.walks.specs.Rows.{words_by, HasPlan}
use Rattle.runs.specs.Runs.{words_of}

-- The lent octets behind an item.
abbrev pub left_by : List ℕ → Seen → Spot → Lent
left_by octets p y = lent_at p.next y.rows (holding y.book octets) (length (book_image y.book))

module _ (s : List ℕ) (short : length s ≤ longest) (octets : List ℕ) (used : ℕ) (is : IsBook octets used) where
  abbrev held : Book
  held = book_in octets used

  module _ (at rows : ℕ) where
    -- A step that is told rows within the limit, and one that is not.
    same_turn_lem : rows ≤ most_rows → (r : Read Stepped) → element_at s at rows held ≡ r → turn_over s (lent_at at rows octets used) ≡ turn_of (lent_of octets) at r
    same_turn_lem few r e = rw (step_is s rows octets used at short is few, e) refl

    item_turn : rows ≤ most_rows → (p : Seen) (y : Spot) (t : Took spot_of at (element_at s at rows held) p y) → turn_over s (lent_at at rows octets used) ≡ goes p (lent_of octets t.stepped p.next)
    item_turn few p y t =
        same_turn_lem few (ok t.stepped p.next) t.reads
        ∙ (turn_item (lent_of octets) at (ok t.stepped p.next) t.stepped p.next p.which refl t.is ∙ ap (λ (q : Seen). goes q (lent_of octets t.stepped p.next)) (sym t.seen))

    pub over_many : most_rows < rows → turn_over s (lent_at at rows octets used) ≡ stops (refused 17 0)
    over_many h = rw (step_refused s rows octets used at 17 0 (lent_many s rows octets used short is h)) refl

    pub over_goes : rows ≤ most_rows → (p : Seen) (y : Spot) → turn_at s (spot_at at rows held) ≡ goes p y → turn_over s (lent_at at rows octets used) ≡ goes p (left_by octets p y)
    over_goes few p y e =
        let t = took_at s (spot_at at rows held) p y e in
        item_turn few p y t ∙ ap (λ (z : Spot). goes p (left_by octets p z)) (sym t.spot)

    pub over_stops : rows ≤ most_rows → (e : Stop) → turn_at s (spot_at at rows held) ≡ stops e → turn_over s (lent_at at rows octets used) ≡ stops e
    over_stops few e h = same_turn_lem few (element_at s at rows held) refl ∙ stopped (element_at s at rows held) h
      where
        stopped : (r : Read Stepped) → turn_of spot_of at r ≡ stops e → turn_of (lent_of octets) at r ≡ stops e
        stopped (no n p) h = let same : refused n p ≡ e = cc in ap (λ (x : Stop). stops x) same
        stopped (ok st next) h = by st.element h
          where
            by : (x : Element) → turn_by spot_of at st next x ≡ stops e → turn_by (lent_of octets) at st next x ≡ stops e
            by (item i) h = absurd (let z : ◌≡◌ {A = ℕ} 0 1 = cc in omega arith)
            by (finish n t) h = let same : ◌≡◌ {A = Turn Spot} (turn_by spot_of at st next (finish n t)) (stops e) = h in ends n t (let q : ◌≡◌ {A = Stop} _ e = cc in q)
              where
                ends : (n t : ℕ) {x : Stop} → x ≡ e → ◌≡◌ {A = Turn Lent} (stops x) (stops e)
                ends n t q = ap (λ (x : Stop). stops x) q

  module _ (o : Each Octet octets) where
    -- A row leaves the lent octets as they are.
    row_turn : (at rows : ℕ) (p : Seen) (y : Spot) → rows ≤ most_rows → as_row (item p.which) ≡ 1 → turn_at s (spot_at at rows held) ≡ goes p y
        → (y ≡ spot_at p.next (rows + 1) held) × (turn_over s (lent_at at rows octets used) ≡ goes p (lent_at p.next (rows + 1) octets used))
    row_turn at rows p y few one e = (spot, item_turn at rows few p y t ∙ ap (λ (z : Lent). goes p z) left)
      where
        t : Took spot_of at (element_at s at rows held) p y
        t = took_at s (spot_at at rows held) p y e

        spot : y ≡ spot_at p.next (rows + 1) held
        spot = (took_row s at rows held p y one e).spot

        left : lent_of octets t.stepped p.next ≡ lent_at p.next (rows + 1) octets used
        left = ap (left_by octets p) (sym t.spot ∙ spot) ∙ rw (holding_same octets used o is, (lent_book_lem octets used o is).size) refl

    -- So does a stretch of rows.
    pub over_rows : (seen : List Seen) (at rows next : ℕ) → (0 < length seen → rows + length seen ≤ most_rows + 1) → rows_of (placed_all seen) ≡ length seen
        → Path (turn_at s) (spot_at at rows held) seen (spot_at next (rows + length seen) held)
        → Path (turn_over s) (lent_at at rows octets used) seen (lent_at next (rows + length seen) octets used)
    over_rows [] at rows next few all h = rw (ap (λ (z : Spot). z.at) h, add-zero rows) refl
    over_rows (p ∷ ps) at rows next few all h =
        let one = few_rows (item p.which) in
        let rest = rows_few ps in
        let bound : rows + length (p ∷ ps) ≤ most_rows + 1 = few (omega arith) in
        let (spot, over) = row_turn at rows p h.0 (omega arith) (omega arith) h.1 in
        let sum : rows + 1 + length ps ≡ rows + length (p ∷ ps) = omega arith in
        let path : Path (turn_at s) (spot_at p.next (rows + 1) held) ps (spot_at next (rows + 1 + length ps) held) =
        subst (λ (n : ℕ). Path (turn_at s) (spot_at p.next (rows + 1) held) ps (spot_at next n held)) (sym sum)
        (subst (λ (z : Spot). Path (turn_at s) z ps (spot_at next (rows + length (p ∷ ps)) held)) spot h.2) in
        let more = over_rows ps p.next (rows + 1) next (λ _. omega arith) (omega arith) path in (
          lent_at p.next (rows + 1) octets used,
          over,
          subst (λ (n : ℕ). Path (turn_over s) (lent_at p.next (rows + 1) octets used) ps (lent_at next n octets used)) sum more,
        )

-- The word of a row passed by its plan is that with its layout's number.
pub words_same : (numbers : List ℕ) (book : Book) (seen : List Seen) → GoodItems book (items_of seen) → rows_of (placed_all seen) ≡ length seen → Each (HasPlan numbers) seen
    → words_by numbers seen ≡ words_of seen
words_same numbers book [] good all plans = refl
words_same numbers book (p ∷ ps) good all plans = go p.which refl good (λ g h. words_same numbers book ps g h plans.1)
  where
    go : (i : Item) → p.which ≡ i → GoodItems book (i ∷ items_of ps) → (GoodItems book (items_of ps) → rows_of (placed_all ps) ≡ length ps → words_by numbers ps ≡ words_of ps)
        → words_by numbers (p ∷ ps) ≡ words_of (p ∷ ps)
    go (layout l) q good again = absurd (let z = ap (λ (i : Item). as_row (item i)) q in omega (arith, rows_few ps))
    go (row r) q good again =
        let number : get_or numbers p.position 0 ≡ r.number = plans.0 ∙ ap number_of q in
        let one = ap (λ (i : Item). as_row (item i)) q in
        let low : get_or numbers p.position 0 % 4294967296 ≡ r.number = omega (arith, number, good.0) in
        rw (q, low, again good.2 (omega arith)) refl
