-- The book of a walk only grows, so that a layout's position never changes: what was told with an item is its layout's position in every later book.
use Prim.Native.Nat.{ℕ}
use mathlib.Core.Path.{◌≡◌, refl, sym, ap, ◌∙◌}
use mathlib.Core.List.{List, [], ◌∷◌, ◌++◌, append_assoc, append-nil}
use mathlib.Core.Option.{some}
use mathlib.Core.Logic.{inl, inr}
use native.Mathlib.Omega.{arith}
use Rattle.octets.specs.Reading.{ok}
use Rattle.octets.specs.Writing.{Each}
use Rattle.layouts.specs.Layout.{Layout}
use Rattle.layouts.specs.Book.{Book, find, position}
use Rattle.layouts.proofs.Finding.{find_here, find_front, find_behind}
use Rattle.layouts.proofs.Growing.{Learnt, learnt}
use Rattle.layouts.proofs.Positions.{position_front}
use Rattle.elements.specs.Element.{Item, layout, row, item, Stepped, element_at}
use Rattle.elements.specs.Walk.{Seen, goes, Path, number_of, Spot, turn_at}
use Rattle.elements.proofs.Went.{Went, at_layout, at_row, at_finish, went}
use Rattle.rows.proofs.RowLaws.{row_found}
use Rattle.elements.proofs.Turns.{took_at}

abbrev pub Longer : Book → Book → Type 0
Longer b c = (more : Book) × (c ≡ b ++ more)

same_book : (b : Book) → Longer b b
same_book b = ([], sym (append-nil b))

-- An item whose layout stands in a book at the position told.
pub record InBook (book : Book) (p : Seen) : Type 0 where
  pub layout : Layout
  pub found : find (number_of p.which) book ≡ some layout
  pub index : position (number_of p.which) book ≡ p.position

pub in_longer : (b c : Book) (p : Seen) → Longer b c → InBook b p → InBook c p
in_longer b c p (m, e) h =
    rw e (record {
      layout = h.layout;
      found = find_front (number_of p.which) b m h.layout h.found;
      index = position_front (number_of p.which) b m h.layout h.found ∙ h.index;
    })

module _ (s : List ℕ) where
  pub element_longer : (at rows : ℕ) (b : Book) (st : Stepped) (next : ℕ) → element_at s at rows b ≡ ok st next → Longer b st.book
  element_longer at rows b st next e = go (went s at rows b st next e)
    where
      by : (l : Layout) → Learnt b l st.book → Longer b st.book
      by l (inl h) = rw h.3 (same_book b)
      by l (inr h) = (l ∷ [], h.3)

      go : Went s at rows b st next → Longer b st.book
      go (at_layout l x k h g el ro) = by l (learnt b l _ st.book x g)
      go (at_row r k h el ro bo) = rw bo (same_book b)
      go (at_finish n t k h el ro bo) = rw bo (same_book b)

  -- The book behind an item has the item's layout.
  pub element_has : (at rows : ℕ) (b : Book) (st : Stepped) (next : ℕ) (i : Item) → element_at s at rows b ≡ ok st next → st.element ≡ item i
      → (l : Layout) × (find (number_of i) st.book ≡ some l)
  element_has at rows b st next i e is = go (went s at rows b st next e)
    where
      by : (l : Layout) → Learnt b l st.book → (m : Layout) × (find l.number st.book ≡ some m)
      by l (inl h) = (h.0, ap (find l.number) h.3 ∙ h.1)
      by l (inr h) = (l, ap (find l.number) h.3 ∙ (find_behind l.number b (l ∷ []) h.0 ∙ find_here l.number l [] refl))

      go : Went s at rows b st next → (l : Layout) × (find (number_of i) st.book ≡ some l)
      go (at_layout l x k h g el ro) = let q : i ≡ layout l = cc in rw q (by l (learnt b l _ st.book x g))
      go (at_row r k h el ro bo) = let q : i ≡ row r = cc in rw (q, bo) (row_found b s _ r next h)
      go (at_finish n t k h el ro bo) = absurd (let z : ◌≡◌ {A = ℕ} 0 1 = cc in omega arith)

  pub turn_longer : (x y : Spot) (p : Seen) → turn_at s x ≡ goes p y → Longer x.book y.book
  turn_longer x y p e = let t = took_at s x p y e in rw t.spot (element_longer x.at x.rows x.book t.stepped p.next t.reads)

  pub turn_in_book : (x y : Spot) (p : Seen) → turn_at s x ≡ goes p y → InBook y.book p
  turn_in_book x y p e =
      let t = took_at s x p y e in
      let (l, f) = element_has x.at x.rows x.book t.stepped p.next p.which t.reads t.is in
      rw t.spot (record { layout = l; found = f; index = sym (ap (λ (q : Seen). q.position) t.seen) })

  -- Along a way: the book only grows, and every item met has its layout in the last book, at the position told when it was met.
  pub path_longer : (ps : List Seen) (x y : Spot) → Path (turn_at s) x ps y → Longer x.book y.book
  path_longer [] x y h = rw (← h) (same_book x.book)
  path_longer (p ∷ ps) x y h =
      let (m, e) = turn_longer x h.0 p h.1 in
      let (n, f) = path_longer ps h.0 y h.2 in
      (m ++ n, f ∙ (ap (λ (b : Book). b ++ n) e ∙ append_assoc x.book m n))

  pub path_positions : (ps : List Seen) (x y : Spot) → Path (turn_at s) x ps y → Each (InBook y.book) ps
  path_positions [] x y h = tt
  path_positions (p ∷ ps) x y h = (in_longer h.0.book y.book p (path_longer ps h.0 y h.2) (turn_in_book x h.0 p h.1), path_positions ps h.0 y h.2)
