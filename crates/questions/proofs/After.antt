-- The questions after an accepted step, from its own inputs: they read the element that it read, and at one of another kind they refuse by 19. Assumes nothing.
use Prim.Native.Nat.{ℕ, ◌+◌}
use mathlib.Core.Path.{◌≡◌, refl}
use mathlib.Core.List.{List}
use native.Mathlib.Omega.{arith}
use Rattle.octets.specs.Reading.{Read, ok, no, number}
use Rattle.octets.proofs.Inverse.{after}
use Rattle.layouts.specs.Book.{Book}
use Rattle.rows.specs.Row.{Row}
use Rattle.elements.specs.Element.{item, row, Stepped, element_at}
use Rattle.elements.specs.Steps.{lent_book, step_at}
use Rattle.elements.proofs.Went.{Went, at_layout, at_row, at_finish, went}
use Rattle.questions.specs.Questions.{kind_asked, book_asked, row_of, layout_of, row_asked, layout_asked}

module _ (s : List ℕ) (at rows : ℕ) (octets : List ℕ) (used : ℕ) (st : Stepped) (next : ℕ) (e : step_at s at rows octets used ≡ ok st next) where
  abbrev After : Type 0
  After = (row_asked s at rows octets used ≡ row_of at st.element next) × (layout_asked s at rows octets used ≡ layout_of at st.element next)

  asked_after : After
  unfolding step_at row_asked layout_asked book_asked kind_asked
  asked_after = after (lent_book s rows octets used) _ e λ book mid lent f. go book mid lent f (went s at rows book st next f)
    where
      go : (book : Book) (mid : ℕ) → lent_book s rows octets used ≡ ok book mid → element_at s at rows book ≡ ok st next → Went s at rows book st next → After
      go book mid lent f (at_layout l x k h g el ro) = (rw (lent, k, el) refl, rw (lent, k, f) refl)
      go book mid lent f (at_row r k h el ro bo) = (rw (lent, k, f) refl, rw (lent, k, el) refl)
      go book mid lent f (at_finish n t k h el ro bo) = (rw (lent, k, el) refl, rw (lent, k, el) refl)

  pub row_after : row_asked s at rows octets used ≡ row_of at st.element next
  row_after = asked_after.0

  pub layout_after : layout_asked s at rows octets used ≡ layout_of at st.element next
  layout_after = asked_after.1

  pub row_kind : (r : Row) → st.element ≡ item (row r) → number 4 s at ≡ ok 2 (at + 4)
  unfolding step_at
  row_kind r is = after (lent_book s rows octets used) _ e λ book mid lent f. go book (went s at rows book st next f)
    where
      go : (book : Book) → Went s at rows book st next → number 4 s at ≡ ok 2 (at + 4)
      go book (at_layout l x k h g el ro) = absurd (let z : ◌≡◌ {A = ℕ} 0 1 = cc in omega arith)
      go book (at_row q k h el ro bo) = k
      go book (at_finish n t k h el ro bo) = absurd (let z : ◌≡◌ {A = ℕ} 0 1 = cc in omega arith)

-- Where a row stands and the step is refused, the row is refused as the step is.
pub row_refused : (s : List ℕ) (at rows : ℕ) (octets : List ℕ) (used n p : ℕ) → number 4 s at ≡ ok 2 (at + 4) → step_at s at rows octets used ≡ no n p → row_asked s at rows octets used ≡ no n p
unfolding step_at row_asked book_asked kind_asked
row_refused s at rows octets used n p k e = go (lent_book s rows octets used) refl
  where
    go : (r : Read Book) → lent_book s rows octets used ≡ r → row_asked s at rows octets used ≡ no n p
    go (no m q) lent =
        let same : ◌≡◌ {A = Read Stepped} (no m q) (no n p) = rw lent at e in
        let number_is : m ≡ n = cc in
        let place : q ≡ p = cc in
        rw (lent, number_is, place) refl
    go (ok book mid) lent = rw (lent, k, rw lent at e) refl
