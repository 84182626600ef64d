-- A question gives no refusal number but those listed for it: what stands before it, then the layout or the row that its kind says, then 18. Assumes nothing.
use Prim.Native.Nat.{ℕ, ◌+◌, ◌≤◌}
use mathlib.Core.Path.{◌≡◌, refl}
use mathlib.Core.List.{List, [], ◌∷◌}
use mathlib.Core.Bool.{Bool, true, false, ◌&&◌}
use native.Mathlib.Omega.{arith}
use native.Mathlib.Nat.{le_refl}
use lib.ListN.{length, drop}
use lib.Dec.{leb, eqb}
use Rattle.octets.specs.Limits.{longest, most_rows}
use Rattle.octets.specs.Reading.{Read, ok, choose, be, number}
use Rattle.octets.proofs.Inverse.{after}
use Rattle.layouts.specs.Layout.{layout_at}
use Rattle.layouts.specs.Book.{Book, book_of, learn}
use Rattle.layouts.specs.Answers.{is_among}
use Rattle.headers.specs.Header.{header_at}
use Rattle.rows.specs.Row.{row_at}
use Rattle.elements.specs.Element.{Element, item, layout, row, finish, element_at}
use Rattle.elements.specs.Steps.{lent_book}
use Rattle.elements.proofs.Refusing.{number_stays, layout_stays, learn_stays, row_stays}
use Rattle.elements.proofs.Told.{element_layout, element_row}
use Rattle.octets.specs.Asked.{first_of, nth}
use Rattle.questions.specs.Questions.{kind_asked, book_asked, row_of, layout_of, row_asked, field_asked, layout_asked, attribute_asked}
use Rattle.questions.proofs.Questions.{kind_forth}
use Rattle.header_questions.specs.Questions.{namespaces_place, services_place, namespace_asked, service_asked}
use Rattle.promises.specs.Refusals.{Only}
use Rattle.promises.proofs.Numbers.{taken, given, In, only, only_with, only_then, only_choose, book_17, header_only}
use Rattle.promises_questions.specs.Numbers.{field_numbers, layout_numbers, attribute_numbers, listed_numbers}

-- One number more.
also : {A : Type 0} {ns : List ℕ} (m : ℕ) {r : Read A} → Only ns r → Only (m ∷ ns) r
also {ns = ns} m h = record { number = λ n p e. go n (eqb n m) (h.number n p e) }
  where
    go : (n : ℕ) (t : Bool) → is_among n ns ≡ true → choose t (λ _. true) (λ _. is_among n ns) ≡ true
    go n true k = refl
    go n false k = k

nth_only : {A : Type 0} {ns : List ℕ} → is_among 18 ns ≡ true → (n place : ℕ) (xs : List A) (next : ℕ) → Only ns (nth n place xs next)
unfolding nth
nth_only {A} {ns} h n place xs next = go (drop n xs)
  where
    go : (ys : List A) → Only ns (first_of place ys next)
    go [] = given 18 place h
    go (a ∷ rest) = taken a next

-- What stands before every question about an element.
module _ {ns : List ℕ} (one : is_among 1 ns ≡ true) (two : is_among 2 ns ≡ true) (seven : is_among 7 ns ≡ true) (book17 : is_among 17 ns ≡ true) (kind19 : is_among 19 ns ≡ true) where
  lent_only : (s : List ℕ) (rows : ℕ) (octets : List ℕ) (used : ℕ) → Only ns (lent_book s rows octets used)
  unfolding lent_book
  lent_only s rows octets used =
      only_choose (leb (length s) longest) _ _
      (only_then (book_of octets used) _ (book_17 book17 octets used) λ book end.
      only_choose (leb rows most_rows) _ _ (taken book end) (given 17 0 book17))
      (given 2 0 two)

  kind_only : (wanted : ℕ) (s : List ℕ) (at : ℕ) → Only ns (kind_asked wanted s at)
  unfolding kind_asked
  kind_only wanted s at =
      only_then (number 4 s at) _ (only (at + length s) (number 4 s at) (number_stays (In ns) s (at + length s) (omega arith) one 4 at (omega arith))) λ kind next.
      only_choose (eqb kind wanted) _ _ (taken kind next) (only_choose (leb 1 kind && leb kind 3) _ _ (given 19 at kind19) (given 7 at seven))

  book_only : (wanted : ℕ) (s : List ℕ) (at rows : ℕ) (octets : List ℕ) (used : ℕ) → Only ns (book_asked wanted s at rows octets used)
  unfolding book_asked
  book_only wanted s at rows octets used =
      only_then (lent_book s rows octets used) _ (lent_only s rows octets used) λ book _.
      only_then (kind_asked wanted s at) _ (kind_only wanted s at) λ _ next. taken book next

module _ (s : List ℕ) (at rows : ℕ) (octets : List ℕ) (used : ℕ) where
  -- Behind that, the kind is the one asked about.
  kind_is : (wanted : ℕ) {book : Book} {next : ℕ} → book_asked wanted s at rows octets used ≡ ok book next → (at + 4 ≤ length s) × (be 4 s at ≡ wanted)
  unfolding book_asked
  kind_is wanted e =
      after (lent_book s rows octets used) _ e λ book end e₁ e₂.
      after (kind_asked wanted s at) _ e₂ λ kind mid e₃ e₄.
      let (room, right, place) = kind_forth wanted s at e₃ in (room, right)

  row_asked_lem : Only field_numbers (row_asked s at rows octets used)
  unfolding row_asked
  row_asked_lem =
      only_with (book_asked 2 s at rows octets used) _ (book_only refl refl refl refl refl 2 s at rows octets used) λ book mid e.
      let (room, right) = kind_is 2 e in
      only_then (element_at s at rows book) _
      (rw (element_row s at rows book room right)
      (only_then (row_at book s (at + 4)) _
      (only (length s) (row_at book s (at + 4)) (row_stays (In field_numbers) s (length s) (le_refl (length s)) refl refl refl refl refl book (at + 4) room)) λ r end. taken _ end))
      λ st next. go st.element next
    where
      go : (el : Element) (next : ℕ) → Only field_numbers (row_of at el next)
      go (item (row r)) next = taken r next
      go (item (layout l)) next = given 19 at refl
      go (finish n t) next = given 19 at refl

  pub field_asked_lem : (n : ℕ) → Only field_numbers (field_asked s at rows octets used n)
  unfolding field_asked
  field_asked_lem n = only_then (row_asked s at rows octets used) _ row_asked_lem λ r next. nth_only refl n at r.fields next

  pub layout_asked_lem : Only layout_numbers (layout_asked s at rows octets used)
  unfolding layout_asked
  layout_asked_lem =
      only_with (book_asked 1 s at rows octets used) _ (book_only refl refl refl refl refl 1 s at rows octets used) λ book mid e.
      let (room, right) = kind_is 1 e in
      only_then (element_at s at rows book) _
      (rw (element_layout s at rows book room right)
      (only_then (layout_at s (at + 4)) _
      (only (length s) (layout_at s (at + 4)) (layout_stays (In layout_numbers) s (length s) (le_refl (length s)) refl refl refl refl refl (at + 4) room)) λ l end.
      only_then (learn book l (at + 4)) _
      (only (length s) (learn book l (at + 4)) (learn_stays (In layout_numbers) s (length s) (le_refl (length s)) refl refl refl book l (at + 4) room)) λ learnt _. taken _ end))
      λ st next. go st.element next
    where
      go : (el : Element) (next : ℕ) → Only layout_numbers (layout_of at el next)
      go (item (row r)) next = given 19 at refl
      go (item (layout l)) next = taken l next
      go (finish n t) next = given 19 at refl

  pub attribute_asked_lem : (n : ℕ) → Only attribute_numbers (attribute_asked s at rows octets used n)
  unfolding attribute_asked
  attribute_asked_lem n = only_then (layout_asked s at rows octets used) _ (also 18 layout_asked_lem) λ l next. nth_only refl n at l.attributes next

module _ (s : List ℕ) (n : ℕ) where
  pub namespace_asked_lem : Only listed_numbers (namespace_asked s n)
  unfolding namespace_asked
  namespace_asked_lem = only_then (header_at s) _ (also 18 (header_only s)) λ h next. nth_only refl n (namespaces_place h) h.others next

  pub service_asked_lem : Only listed_numbers (service_asked s n)
  unfolding service_asked
  service_asked_lem = only_then (header_at s) _ (also 18 (header_only s)) λ h next. nth_only refl n (services_place h) h.services next
