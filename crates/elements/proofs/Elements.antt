-- One element: what it was read from, and that its image reads back.
use mathlib.Core.Path.{◌≡◌, refl, sym, ap, subst}
use mathlib.Core.List.{List, [], ◌∷◌, ◌++◌}
use Prim.Native.Nat.{ℕ, ◌+◌, ◌^◌, ◌≤◌, ◌<◌}
use lib.ListN.{length}
use lib.Dec.{eqb, lit<}
use borrow.Author.Tests.{eqb-true, eq-eqb}
use Rattle.octets.specs.Limits.{longest}
use Rattle.octets.specs.Reading.{ok, number}
use Rattle.octets.specs.Writing.{word, images, Each, Octet}
use Rattle.layouts.specs.Layout.{Layout, layout_at, layout_image, GoodLayout}
use Rattle.layouts.specs.Book.{Book, book_image, learning, learn_by, learn}
use Rattle.layouts.specs.declared.Learning.{Learning}
use Rattle.layouts.specs.declared.Learning.TheVariants.{Known, New}
use Rattle.octets.specs.declared.Fault.{Fault}
use Rattle.std.specs.Prelude.{Result, Ok, Err}
use Rattle.rows.specs.Row.{Row, row_at, row_image}
use Rattle.elements.specs.Element.{Item, layout, row, Element, item, finish, Stepped, finish_at, element_at}
use Rattle.elements.specs.Document.{item_image, GoodItems}
use Rattle.octets.proofs.Spans.{Spans, join, middle, word_octets, each_append}
use Rattle.octets.proofs.Inverse.{after, settle, chosen, either, no_ok}
use Rattle.octets.proofs.Fields.{number_whole}
use Rattle.layouts.proofs.Layouts.{layout_inverse}
use Rattle.rows.proofs.Rows.{GoodRow, row_inverse}

-- What is learnt does not depend on the place.
learn_anywhere : (book : Book) (l : Layout) (p q : ℕ) {b : Book} {n : ℕ} → learn book l p ≡ ok b n → learn book l q ≡ ok b q
unfolding learn
learn_anywhere book l p q {b} {n} e = go (learning book (length (book_image book)) l.number (layout_image l)) e
  where
    go : (x : Result Learning Fault) → learn_by book l p x ≡ ok b n → learn_by book l q x ≡ ok b q
    go (Ok Known) r = settle (λ (y : Book) (_ : ℕ). ok book q ≡ ok y q) r refl
    go (Ok (New v)) r = settle (λ (y : Book) (_ : ℕ). ok (book ++ l ∷ []) q ≡ ok y q) r refl
    go (Err f) r = absurd (no_ok refl r)

-- The end's octets.
abbrev pub end_image : ℕ → ℕ → List ℕ
end_image rows time = word 4 3 ++ (word 4 rows ++ word 8 time)

-- What an element was read from.
pub data Came (s : List ℕ) (at rows : ℕ) (book : Book) : Stepped → ℕ → Type 0 where
  a_layout : {l : Layout} {learnt : Book} {next : ℕ} → GoodLayout l → learn book l 0 ≡ ok learnt 0 → Spans s (length s) at next (word 4 1 ++ layout_image l)
      → Came s at rows book (record { element = item (layout l); rows = rows; book = learnt }) next
  a_row : {r : Row} {next : ℕ} → GoodRow book r → Spans s (length s) at next (word 4 2 ++ row_image r)
      → Came s at rows book (record { element = item (row r); rows = rows + 1; book = book }) next
  an_end : {time next : ℕ} → time < 2 ^ 64 → next ≡ length s → Spans s (length s) at next (end_image rows time)
      → Came s at rows book (record { element = finish rows time; rows = rows; book = book }) next

-- What an end was read from.
abbrev Ended : List ℕ → ℕ → ℕ → Element → ℕ → Type 0
Ended s rows at f end = (time : ℕ) × (time < 2 ^ 64) × (end ≡ length s) × Spans s (length s) at end (word 4 rows ++ word 8 time) × (f ≡ finish rows time)

module _ (s : List ℕ) (short : length s ≤ longest) where
  finish_back : (rows time : ℕ) {at next : ℕ} → rows < 2 ^ 32 → time < 2 ^ 64 → next ≡ length s → Spans s (length s) at next (word 4 rows ++ word 8 time)
      → finish_at rows s at ≡ ok (finish rows time) next
  unfolding finish_at
  finish_back rows time {next = next} g h whole p =
      let (p₁, p₂) = middle (word 4 rows) (word 8 time) p in
      rw ((number_whole s 4).back rows tt g p₁, eq-eqb rows rows refl, (number_whole s 8).back time tt h p₂, eq-eqb next (length s) whole)

  finish_forth : (rows at : ℕ) {end : ℕ} {f : Element} → Each Octet s → at ≤ length s → finish_at rows s at ≡ ok f end → Ended s rows at f end
  unfolding finish_at
  finish_forth rows at o h e =
      after (number 4 s at) _ e λ n next e₁ e₂.
      let (t, e₃) = chosen (eqb n rows) _ 15 at e₂ in
      after (number 8 s next) _ e₃ λ time last e₄ e₅.
      let (t₁, e₆) = chosen (eqb last (length s)) _ 16 last e₅ in
      let (u, g, p) = (number_whole s 4).forth o h e₁ in
      let (v, k, q) = (number_whole s 8).forth o p.inside e₄ in
      let is : n ≡ rows = eqb-true n rows t in
      settle (Ended s rows at) e₆ (time, k, eqb-true last (length s) t₁, join (rw is at p) q, ap (λ (x : ℕ). finish x time) is)

  pub element_back : (rows : ℕ) (book : Book) {at next : ℕ} {st : Stepped} → rows < 2 ^ 32 → Came s at rows book st next → element_at s at rows book ≡ ok st next
  unfolding element_at
  element_back rows book {at} small (a_layout {l} {learnt} g m p) =
      let (p₁, p₂) = middle (word 4 1) (layout_image l) p in
      rw ((number_whole s 4).back 1 tt (lit< tt) p₁, (layout_inverse s).back l tt g p₂, learn_anywhere book l 0 (at + length (word 4 1)) m)
  element_back rows book small (a_row {r} g p) =
      let (p₁, p₂) = middle (word 4 2) (row_image r) p in
      rw ((number_whole s 4).back 2 tt (lit< tt) p₁, (row_inverse s short book).back r tt g p₂)
  element_back rows book small (an_end {time} g whole p) =
      let (p₁, p₂) = middle (word 4 3) (word 4 rows ++ word 8 time) p in
      rw ((number_whole s 4).back 3 tt (lit< tt) p₁, finish_back rows time small g whole p₂)

  pub element_forth : (at rows : ℕ) (book : Book) {end : ℕ} {st : Stepped} → Each Octet s → at ≤ length s → element_at s at rows book ≡ ok st end
      → Came s at rows book st end
  unfolding element_at
  element_forth at rows book o h e =
      after (number 4 s at) _ e λ kind next e₁ e₂.
      let (u, g, p) = (number_whole s 4).forth o h e₁ in
      either (eqb kind 1) _ _ e₂
      (λ t e₃.
      after (layout_at s next) _ e₃ λ l last e₄ e₅.
      after (learn book l next) _ e₅ λ learnt m e₆ e₇.
      let (v, gl, q) = (layout_inverse s).forth o p.inside e₄ in
      settle (Came s at rows book) e₇ (a_layout gl (learn_anywhere book l next 0 e₆) (join (rw (eqb-true kind 1 t) at p) q)))
      λ _ e₃.
      either (eqb kind 2) _ _ e₃
      (λ t e₄.
      after (row_at book s next) _ e₄ λ r last e₅ e₆.
      let (v, gr, q) = (row_inverse s short book).forth o p.inside e₅ in
      settle (Came s at rows book) e₆ (a_row gr (join (rw (eqb-true kind 2 t) at p) q)))
      λ _ e₄.
      let (t, e₅) = chosen (eqb kind 3) _ 7 at e₄ in
      after (finish_at rows s next) _ e₅ λ f last e₆ e₇.
      let (time, gt, whole, q, is) = finish_forth rows next o p.inside e₆ in
      settle (Came s at rows book) e₇
      (subst (λ (x : Element). Came s at rows book (record { element = x; rows = rows; book = book }) last) (sym is)
      (an_end gt whole (join (rw (eqb-true kind 3 t) at p) q)))

  pub items_octets : (items : List Item) (book : Book) → GoodItems book items → Each Octet (images item_image items)
  unfolding images
  items_octets [] book g = tt
  items_octets (layout l ∷ rest) book g =
      each_append (item_image (layout l)) (images item_image rest)
      (each_append (word 4 1) (layout_image l) (word_octets 4 1) ((layout_inverse s).octets l tt g.0)) (items_octets rest g.1.0 g.1.2)
  items_octets (row r ∷ rest) book g =
      each_append (item_image (row r)) (images item_image rest)
      (each_append (word 4 2) (row_image r) (word_octets 4 2) ((row_inverse s short book).octets r tt (g.0, g.1))) (items_octets rest book g.2)
