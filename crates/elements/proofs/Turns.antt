-- What a turn is: an item goes on, the end and a refusal stop; what a turn that goes on has read, and that it goes on by four octets at least.
use Prim.Native.Nat.{ℕ, ◌+◌, ◌≤◌}
use mathlib.Core.Path.{◌≡◌, refl, sym, ap, ◌∙◌, subst}
use mathlib.Core.List.{List}
use native.Mathlib.Omega.{arith}
use lib.ListN.{length}
use Rattle.octets.specs.Limits.{longest}
use Rattle.octets.specs.Reading.{Read, ok, no, number}
use Rattle.octets.specs.Writing.{Each, Octet}
use Rattle.octets.proofs.Inverse.{after}
use Rattle.layouts.specs.Book.{Book}
use Rattle.rows.specs.Row.{Row, row_at}
use Rattle.elements.specs.Element.{Item, layout, row, Element, item, finish, Stepped, element_at}
use Rattle.elements.specs.Steps.{lent_book, step_at}
use Rattle.elements.specs.Reading.{as_row}
use Rattle.elements.specs.Walk.{ended, refused, Seen, goes, stops, seen_at, turn_by, turn_of, Spot, spot_at, spot_of, turn_at, Lent, lent_of, turn_over}
use Rattle.elements.proofs.Before.{lent_short}
use Rattle.elements.proofs.Behind.{element_place}
use Rattle.elements.proofs.Went.{Went, at_layout, at_row, at_finish, went, step_rows}

-- What a turn that goes on has read, and what one that stops.
pub record Took {X : Type 0} (to : Stepped → ℕ → X) (at : ℕ) (r : Read Stepped) (p : Seen) (y : X) : Type 0 where
  pub stepped : Stepped
  pub reads : r ≡ ok stepped p.next
  pub is : stepped.element ≡ item p.which
  pub seen : p ≡ seen_at at p.which stepped p.next
  pub spot : y ≡ to stepped p.next

module _ {X : Type 0} (to : Stepped → ℕ → X) (at : ℕ) where
  pub took : (r : Read Stepped) (p : Seen) (y : X) → turn_of to at r ≡ goes p y → Took to at r p y
  took (no n q) p y e = absurd (let z : ◌≡◌ {A = ℕ} 0 1 = cc in omega arith)
  took (ok st next) p y e = by st.element refl e
    where
      by : (x : Element) → st.element ≡ x → turn_by to at st next x ≡ goes p y → Took to at (ok st next) p y
      by (finish n t) h e = absurd (let z : ◌≡◌ {A = ℕ} 0 1 = cc in omega arith)
      by (item i) h e =
          let q : p ≡ seen_at at i st next = cc in
          let z : y ≡ to st next = cc in
          rw (q, z) (record { stepped = st; reads = refl; is = h; seen = refl; spot = refl })

  pub refuses : (r : Read Stepped) (n p : ℕ) → turn_of to at r ≡ stops (refused n p) → r ≡ no n p
  refuses (no m q) n p e = let a : m ≡ n = cc in let b : q ≡ p = cc in cc
  refuses (ok st next) n p e = by st.element e
    where
      by : (x : Element) → turn_by to at st next x ≡ stops (refused n p) → ok st next ≡ no n p
      by (finish m t) e = absurd (let z : ◌≡◌ {A = ℕ} 0 1 = cc in omega arith)
      by (item i) e = absurd (let z : ◌≡◌ {A = ℕ} 0 1 = cc in omega arith)

  pub ends : (r : Read Stepped) (n t next : ℕ) → turn_of to at r ≡ stops (ended n t next) → (st : Stepped) × (r ≡ ok st next) × (st.element ≡ finish n t)
  ends (no m q) n t next e = absurd (let z : ◌≡◌ {A = ℕ} 0 1 = cc in omega arith)
  ends (ok st end) n t next e = by st.element refl e
    where
      by : (x : Element) → st.element ≡ x → turn_by to at st end x ≡ stops (ended n t next) → (su : Stepped) × (ok st end ≡ ok su next) × (su.element ≡ finish n t)
      by (finish m u) h e = let a : m ≡ n = cc in let b : u ≡ t = cc in let c : end ≡ next = cc in (st, ap (ok st) c, rw (← a, ← b) h)
      by (item i) h e = absurd (let z : ◌≡◌ {A = ℕ} 0 1 = cc in omega arith)

  pub turn_item : (r : Read Stepped) (st : Stepped) (next : ℕ) (i : Item) → r ≡ ok st next → st.element ≡ item i → turn_of to at r ≡ goes (seen_at at i st next) (to st next)
  turn_item r st next i e h = rw (e, h) refl

  pub turn_end : (r : Read Stepped) (st : Stepped) (next n t : ℕ) → r ≡ ok st next → st.element ≡ finish n t → turn_of to at r ≡ stops (ended n t next)
  turn_end r st next n t e h = rw (e, h) refl

  pub turn_no : (r : Read Stepped) (n p : ℕ) → r ≡ no n p → turn_of to at r ≡ stops (refused n p)
  turn_no r n p e = rw e refl

-- Over a book in hand: every item takes its kind at least, and is inside the document; a row is counted.
module _ (s : List ℕ) (x : Spot) where
  pub took_at : (p : Seen) (y : Spot) → turn_at s x ≡ goes p y → Took spot_of x.at (element_at s x.at x.rows x.book) p y
  took_at p y e = took spot_of x.at (element_at s x.at x.rows x.book) p y e

  pub turn_moves : Each Octet s → length s ≤ longest → (p : Seen) (y : Spot) → turn_at s x ≡ goes p y → (x.at + 4 ≤ y.at) × (y.at ≤ length s)
  turn_moves o short p y e =
      let t = took_at p y e in
      subst (λ (z : Spot). (x.at + 4 ≤ z.at) × (z.at ≤ length s)) (sym t.spot) (element_place s short o x.at x.rows x.book t.stepped p.next t.reads)

  pub turn_rows : (p : Seen) (y : Spot) → turn_at s x ≡ goes p y → y.rows ≡ x.rows + as_row (item p.which)
  turn_rows p y e =
      let t = took_at p y e in
      ap (λ (z : Spot). z.rows) t.spot
      ∙ (step_rows s x.at x.rows x.book t.stepped p.next t.reads ∙ ap (λ (d : Element). x.rows + as_row d) t.is)

-- What a turn by a row has read: it is counted, and leaves the book.
pub record TookRow (s : List ℕ) (at rows : ℕ) (b : Book) (p : Seen) (y : Spot) : Type 0 where
  pub read : Row
  pub is : p.which ≡ row read
  pub kind : number 4 s at ≡ ok 2 (at + 4)
  pub reads : row_at b s (at + 4) ≡ ok read p.next
  pub spot : y ≡ spot_at p.next (rows + 1) b

pub took_row : (s : List ℕ) (at rows : ℕ) (b : Book) (p : Seen) (y : Spot) → as_row (item p.which) ≡ 1 → turn_at s (spot_at at rows b) ≡ goes p y → TookRow s at rows b p y
took_row s at rows b p y one e = go (went s at rows b t.stepped p.next t.reads)
  where
    t : Took spot_of at (element_at s at rows b) p y
    t = took_at s (spot_at at rows b) p y e

    go : Went s at rows b t.stepped p.next → TookRow s at rows b p y
    go (at_layout l x k h g el ro) = absurd (let q : p.which ≡ layout l = cc t.is in let z = ap (λ (i : Item). as_row (item i)) q in omega arith)
    go (at_row r k h el ro bo) = record { read = r; is = cc t.is; kind = k; reads = h; spot = t.spot ∙ rw (ro, bo) refl }
    go (at_finish n u k h el ro bo) = absurd (let z : item p.which ≡ finish n u = cc t.is in let w : ◌≡◌ {A = ℕ} 0 1 = cc in omega arith)

-- Over lent octets too.
module _ (s : List ℕ) (x : Lent) where
  pub took_over : (p : Seen) (y : Lent) → turn_over s x ≡ goes p y → Took (lent_of x.octets) x.at (step_at s x.at x.rows x.octets x.used) p y
  took_over p y e = took (lent_of x.octets) x.at (step_at s x.at x.rows x.octets x.used) p y e

  pub over_moves : Each Octet s → (p : Seen) (y : Lent) → turn_over s x ≡ goes p y → (x.at + 4 ≤ y.at) × (y.at ≤ length s)
  unfolding step_at
  over_moves o p y e =
      let t = took_over p y e in
      subst (λ (z : Lent). (x.at + 4 ≤ z.at) × (z.at ≤ length s)) (sym t.spot)
      (after (lent_book s x.rows x.octets x.used) _ t.reads λ book end l g.
      element_place s (lent_short s x.rows x.octets x.used l) o x.at x.rows book t.stepped p.next g)
