-- What an accepted element leaves behind it: where it ends, a book that is good again and has only grown, and lent octets that hold it.
use Prim.Native.Nat.{ℕ, ◌+◌, ◌-◌, ◌≤◌, ◌<◌}
use mathlib.Core.Path.{◌≡◌, refl, sym, ap, ◌∙◌}
use mathlib.Core.List.{List, [], ◌∷◌, ◌++◌}
use mathlib.Core.Option.{none}
use mathlib.Core.Logic.{inl, inr}
use native.Mathlib.Omega.{arith}
use lib.ListN.{length, take, drop, length-append, length-drop}
use Rattle.octets.specs.Limits.{longest, book_room, most_layouts}
use Rattle.octets.specs.Reading.{ok, is_ok}
use Rattle.octets.specs.Writing.{word, Each, Octet, over}
use Rattle.octets.proofs.Ends.{number_room}
use Rattle.octets.proofs.Inverse.{ok_value}
use Rattle.octets.proofs.Spans.{Spans, length_word, each_append, each_drop}
use Rattle.layouts.specs.Layout.{Layout, layout_at, layout_image, GoodLayout}
use Rattle.layouts.specs.Book.{Book, find, book_image, GoodBook, book_of, book_in, IsBook, learn}
use Rattle.layouts.proofs.Layouts.{layout_octets, layout_long}
use Rattle.layouts.proofs.Books.{Lent, octets_book, image_nil, image_cons, image_snoc}
use Rattle.layouts.proofs.Lends.{layout_part, put_learnt}
use Rattle.layouts.proofs.Growing.{Learnt, learnt, grown}
use Rattle.rows.specs.Row.{row_image}
use Rattle.elements.specs.Element.{Element, item, layout, row, finish, Stepped, element_at}
use Rattle.elements.specs.Steps.{holding}
use Rattle.elements.specs.Answers.{Grows}
use Rattle.elements.specs.Reading.{as_row}
use Rattle.elements.proofs.Elements.{Came, a_layout, a_row, an_end, element_forth}
use Rattle.elements.proofs.Went.{Went, at_layout, at_row, at_finish, went}

-- Where an element that was read ends, and that the book behind it is good.
behind_kind : (s : List ℕ) (at next kind : ℕ) (xs : List ℕ) → Spans s (length s) at next (word 4 kind ++ xs) → (at + 4 ≤ next) × (next ≤ length s)
behind_kind s at next kind xs p = (omega (arith, p.place, length-append (word 4 kind) xs, length_word 4 kind), p.inside)

came_place : {s : List ℕ} {at rows : ℕ} {book : Book} {st : Stepped} {next : ℕ} → Came s at rows book st next → (at + 4 ≤ next) × (next ≤ length s)
came_place {s} {at} {next = next} (a_layout {l} g m p) = behind_kind s at next 1 (layout_image l) p
came_place {s} {at} {next = next} (a_row {r} g p) = behind_kind s at next 2 (row_image r) p
came_place {s} {at} {rows} {next = next} (an_end {time} g w p) = behind_kind s at next 3 (word 4 rows ++ word 8 time) p

came_book : {s : List ℕ} {at rows : ℕ} {book : Book} {st : Stepped} {next : ℕ} → GoodBook book → Came s at rows book st next → GoodBook st.book
came_book {book = book} good (a_layout {l} {learnt} g m p) = (grown book l 0 learnt 0 good g m).good
came_book good (a_row g p) = good
came_book good (an_end g w p) = good

-- An element has its kind before the end.
pub element_inside : (s : List ℕ) (at rows : ℕ) (book : Book) (st : Stepped) (next : ℕ) → element_at s at rows book ≡ ok st next → at + 4 ≤ length s
element_inside s at rows book st next e = go (went s at rows book st next e)
  where
    go : Went s at rows book st next → at + 4 ≤ length s
    go (at_layout l x k h g el ro) = number_room s at 4 (ap is_ok k)
    go (at_row r k h el ro bo) = number_room s at 4 (ap is_ok k)
    go (at_finish n t k h el ro bo) = number_room s at 4 (ap is_ok k)

module _ (s : List ℕ) (short : length s ≤ longest) (o : Each Octet s) (at rows : ℕ) (book : Book) (st : Stepped) (next : ℕ) (e : element_at s at rows book ≡ ok st next) where
  came : Came s at rows book st next
  came = element_forth s short at rows book o (omega (arith, element_inside s at rows book st next e)) e

  pub element_place : (at + 4 ≤ next) × (next ≤ length s)
  element_place = came_place came

  pub element_book : GoodBook book → GoodBook st.book
  element_book good = came_book good came

-- Lent octets that hold a good book.
image_octets : (book : Book) → Each GoodLayout book → Each Octet (book_image book)
image_octets [] g = rw image_nil tt
image_octets (l ∷ rest) g = rw (image_cons l rest) (each_append (layout_image l) (book_image rest) (layout_octets l g.0) (image_octets rest g.1))

module _ (book : Book) (octets : List ℕ) (good : GoodBook book) (long : book_room ≤ length octets) where
  pub holding_octets : Each Octet octets → Each Octet (holding book octets)
  holding_octets o = each_append (book_image book) (drop (length (book_image book)) octets) (image_octets book good.good) (each_drop Octet (length (book_image book)) octets o)

  pub holding_length : length (holding book octets) ≡ length octets
  holding_length = rw (length-append (book_image book) (drop (length (book_image book)) octets), length-drop (length (book_image book)) octets) (omega (arith, good.small))

  pub holding_of : book_of (holding book octets) (length (book_image book)) ≡ ok book (length (book_image book))
  holding_of = octets_book book (drop (length (book_image book)) octets) good (omega (arith, holding_length))

  pub holding_book : IsBook (holding book octets) (length (book_image book)) × (book_in (holding book octets) (length (book_image book)) ≡ book)
  unfolding book_in
  holding_book = (rw holding_of refl, rw holding_of refl)

-- An element is one row at most.
pub few_rows : (x : Element) → as_row x ≤ 1
few_rows (item (layout l)) = omega arith
few_rows (item (row r)) = omega arith
few_rows (finish n m) = omega arith

-- What an element leaves of the book.
module _ (s : List ℕ) (o : Each Octet s) (at rows : ℕ) (b : Book) (st : Stepped) (next : ℕ) (e : element_at s at rows b ≡ ok st next) where
  -- The layout that the book grew by.
  pub record New : Type 0 where
    pub layout : Layout
    pub reads : layout_at s (at + 4) ≡ ok layout next
    pub fresh : find layout.number b ≡ none
    pub few : length b < most_layouts
    pub small : length (book_image b) + length (layout_image layout) ≤ book_room
    pub is : st.book ≡ b ++ layout ∷ []

  longer : (l : Layout) → st.book ≡ b ++ l ∷ [] → length (book_image b) < length (book_image st.book)
  longer l q = let long = ap (λ (c : Book). length (book_image c)) q ∙ (ap length (image_snoc b l) ∙ length-append (book_image b) (layout_image l)) in omega (arith, long, layout_long l)

  -- Whether it grew shows in how much of it is used.
  pub element_new : (used filled : ℕ) → length (book_image b) ≡ used → length (book_image st.book) ≡ filled → used < filled → New
  element_new used filled before after more = go (went s at rows b st next e)
    where
      none : st.book ≡ b → New
      none same = absurd (let h = ap (λ (c : Book). length (book_image c)) same in omega arith)

      by : (l : Layout) → layout_at s (at + 4) ≡ ok l next → Learnt b l st.book → New
      by l f (inl h) = none h.3
      by l f (inr h) = record { layout = l; reads = f; fresh = h.0; few = h.1; small = h.2; is = h.3 }

      go : Went s at rows b st next → New
      go (at_layout l x k f m _ _) = by l f (learnt b l (at + 4) st.book x m)
      go (at_row r k f _ _ same) = none same
      go (at_finish n t k f _ _ same) = none same

  pub element_old : (used filled : ℕ) → length (book_image b) ≡ used → length (book_image st.book) ≡ filled → filled ≤ used → st.book ≡ b
  element_old used filled before after no_more = go (went s at rows b st next e)
    where
      by : (l : Layout) → Learnt b l st.book → st.book ≡ b
      by l (inl h) = h.3
      by l (inr h) = absurd (let z = longer l h.3 in omega arith)

      go : Went s at rows b st next → st.book ≡ b
      go (at_layout l x k f m _ _) = by l (learnt b l (at + 4) st.book x m)
      go (at_row r k f _ _ same) = same
      go (at_finish n t k f _ _ same) = same

-- The book behind an element does not depend on the rows passed before it.
pub element_once : (s : List ℕ) (at rows others : ℕ) (b : Book) (st su : Stepped) (next end : ℕ) → element_at s at rows b ≡ ok st next → element_at s at others b ≡ ok su end → st.book ≡ su.book
element_once s at rows others b st su next end e f = go (went s at rows b st next e) (went s at others b su end f)
  where
    learnt_once : (l m : Layout) (x y : ℕ) → l ≡ m → learn b l (at + 4) ≡ ok st.book x → learn b m (at + 4) ≡ ok su.book y → st.book ≡ su.book
    learnt_once l m x y same g h = ok_value (ap (λ (z : Layout). learn b z (at + 4)) (sym same) ∙ g) h

    go : Went s at rows b st next → Went s at others b su end → st.book ≡ su.book
    go (at_layout l x k h g el ro) (at_layout m y j i d em rm) = learnt_once l m x y (ok_value h i) g d
    go (at_layout l x k h g el ro) (at_row r j i em rm bo) = absurd (let z = ok_value k j in omega arith)
    go (at_layout l x k h g el ro) (at_finish n t j i em rm bo) = absurd (let z = ok_value k j in omega arith)
    go (at_row r k h el ro bo) (at_layout m y j i d em rm) = absurd (let z = ok_value k j in omega arith)
    go (at_row r k h el ro bo) (at_row q j i em rm bm) = bo ∙ sym bm
    go (at_row r k h el ro bo) (at_finish n t j i em rm bm) = bo ∙ sym bm
    go (at_finish n t k h el ro bo) (at_layout m y j i d em rm) = absurd (let z = ok_value k j in omega arith)
    go (at_finish n t k h el ro bo) (at_row q j i em rm bm) = bo ∙ sym bm
    go (at_finish n t k h el ro bo) (at_finish m u j i em rm bm) = bo ∙ sym bm

-- A layout that is new to a lent book: its octets stand in the document, the book has room for them, and behind the used ones they make the book with it.
pub record Laid (s : List ℕ) (at next : ℕ) (octets : List ℕ) (used : ℕ) : Type 0 where
  pub far : at + 4 ≤ next
  pub near : next ≤ length s
  pub room : used + length (take (next - (at + 4)) (drop (at + 4) s)) ≤ length octets
  pub is : (rows : ℕ) (st : Stepped) → element_at s at rows (book_in octets used) ≡ ok st next → over octets used (take (next - (at + 4)) (drop (at + 4) s)) ≡ holding st.book octets

pub laid : (s : List ℕ) (at next : ℕ) (octets : List ℕ) (used : ℕ) → Each Octet s → Lent octets used (book_in octets used) → Grows s at next (book_in octets used) → Laid s at next octets used
laid s at next octets used o held g =
    let b = book_in octets used in
    let n = element_new s o at g.rows b g.stepped next g.reads _ _ refl refl g.more in
    let (_, far, near, is) = layout_part s (at + 4) next n.layout o (element_inside s at g.rows b g.stepped next g.reads) n.reads in
    record {
      far = far;
      near = near;
      room = omega (arith, ap length is, n.small, held.size, held.room);
      is = λ rows st e.
          ap (over octets used) is ∙ (put_learnt octets used b n.layout held
          ∙ ap (λ (c : Book). holding c octets) (sym n.is ∙ element_once s at g.rows rows b g.stepped st next next g.reads e));
    }
