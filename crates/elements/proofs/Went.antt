-- One step of reading, taken apart: what each accepted step rests on.
use Prim.Native.Nat.{ℕ, ◌+◌}
use native.Mathlib.Omega.{arith}
use mathlib.Core.Path.{◌≡◌, refl, ◌∙◌, ap}
use mathlib.Core.List.{List}
use lib.ListN.{length}
use lib.Dec.{eqb}
use borrow.Author.Tests.{eqb-true}
use Rattle.octets.specs.Reading.{ok, no, number}
use Rattle.layouts.specs.Layout.{Layout, layout_at}
use Rattle.layouts.specs.Book.{Book, learn}
use Rattle.rows.specs.Row.{Row, row_at}
use Rattle.elements.specs.Element.{layout, row, Element, item, finish, Stepped, finish_at, element_at}
use Rattle.elements.specs.Reading.{as_row}
use Rattle.octets.proofs.Inverse.{no_ok, ok_value, ok_place, after, either}
use Rattle.octets.proofs.Ends.{number_place}

-- The three kinds of accepted step.
pub data Went (s : List ℕ) (at rows : ℕ) (b : Book) (st : Stepped) (end : ℕ) : Type 0 where
  at_layout : (l : Layout) (x : ℕ) → number 4 s at ≡ ok 1 (at + 4) → layout_at s (at + 4) ≡ ok l end → learn b l (at + 4) ≡ ok st.book x
      → st.element ≡ item (layout l) → st.rows ≡ rows → Went s at rows b st end
  at_row : (r : Row) → number 4 s at ≡ ok 2 (at + 4) → row_at b s (at + 4) ≡ ok r end
      → st.element ≡ item (row r) → st.rows ≡ rows + 1 → st.book ≡ b → Went s at rows b st end
  at_finish : (n t : ℕ) → number 4 s at ≡ ok 3 (at + 4) → finish_at rows s (at + 4) ≡ ok (finish n t) end
      → st.element ≡ finish n t → st.rows ≡ rows → st.book ≡ b → Went s at rows b st end

pub finish_form : (rows : ℕ) (s : List ℕ) (at : ℕ) (f : Element) (end : ℕ) → finish_at rows s at ≡ ok f end → (n : ℕ) × (t : ℕ) × (f ≡ finish n t)
unfolding finish_at
finish_form rows s at f end e =
    after (number 4 s at) _ e λ n next _ e2.
    either (eqb n rows) _ _ e2
    (λ _ e3. after (number 8 s next) _ e3 λ time p _ e4.
    either (eqb p (length s)) _ _ e4 (λ _ e5. (n, time, ok_value e5 refl)) (λ _ e5. absurd (no_ok refl e5)))
    (λ _ e3. absurd (no_ok refl e3))

pub went : (s : List ℕ) (at rows : ℕ) (b : Book) (st : Stepped) (end : ℕ) → element_at s at rows b ≡ ok st end → Went s at rows b st end
unfolding element_at
went s at rows b st end e =
    after (number 4 s at) _ e λ kind next e1 e2.
    let place : next ≡ at + 4 = number_place 4 s at kind next e1 in
    either (eqb kind 1) _ _ e2
    (λ k e3. after (layout_at s next) _ e3 λ l p e4 e5.
    after (learn b l next) _ e5 λ c x e6 e7.
    let one : kind ≡ 1 = eqb-true kind 1 k in
    let q : st ≡ record { element = item (layout l); rows = rows; book = c } = ok_value e7 refl in
    let z : end ≡ p = ok_place e7 refl in
    at_layout l x (cc) (cc) (cc (ap (λ (y : Stepped). y.book) q)) (ap (λ (y : Stepped). y.element) q) (ap (λ (y : Stepped). y.rows) q))
    (λ _ e3. either (eqb kind 2) _ _ e3
    (λ k e4. after (row_at b s next) _ e4 λ r p e5 e6.
    let two : kind ≡ 2 = eqb-true kind 2 k in
    let q : st ≡ record { element = item (row r); rows = rows + 1; book = b } = ok_value e6 refl in
    let z : end ≡ p = ok_place e6 refl in
    at_row r (cc) (cc) (ap (λ (y : Stepped). y.element) q) (ap (λ (y : Stepped). y.rows) q) (ap (λ (y : Stepped). y.book) q))
    (λ _ e4. either (eqb kind 3) _ _ e4
    (λ k e5. after (finish_at rows s next) _ e5 λ f p e6 e7.
    let three : kind ≡ 3 = eqb-true kind 3 k in
    let q : st ≡ record { element = f; rows = rows; book = b } = ok_value e7 refl in
    let z : end ≡ p = ok_place e7 refl in
    let form = finish_form rows s next f p e6 in
    let g : f ≡ finish form.0 form.1 = form.2 in
    at_finish form.0 form.1 (cc) (cc) (ap (λ (y : Stepped). y.element) q ∙ g) (ap (λ (y : Stepped). y.rows) q) (ap (λ (y : Stepped). y.book) q))
    (λ _ e5. absurd (no_ok refl e5))))

-- The way back: a step from what it rests on.
pub layout_step : (s : List ℕ) (at rows : ℕ) (b : Book) (l : Layout) (end : ℕ) (c : Book) (x : ℕ) → number 4 s at ≡ ok 1 (at + 4)
    → layout_at s (at + 4) ≡ ok l end → learn b l (at + 4) ≡ ok c x → element_at s at rows b ≡ ok (record { element = item (layout l); rows = rows; book = c }) end
unfolding element_at
layout_step s at rows b l end c x k e f = rw (k, e, f)

pub row_step : (s : List ℕ) (at rows : ℕ) (b : Book) (r : Row) (end : ℕ) → number 4 s at ≡ ok 2 (at + 4)
    → row_at b s (at + 4) ≡ ok r end → element_at s at rows b ≡ ok (record { element = item (row r); rows = rows + 1; book = b }) end
unfolding element_at
row_step s at rows b r end k e = rw (k, e)

pub row_stop : (s : List ℕ) (at rows : ℕ) (b : Book) (n p : ℕ) → number 4 s at ≡ ok 2 (at + 4)
    → row_at b s (at + 4) ≡ no n p → element_at s at rows b ≡ no n p
unfolding element_at
row_stop s at rows b n p k e = rw (k, e)

pub finish_step : (s : List ℕ) (at rows : ℕ) (b : Book) (f : Element) (end : ℕ) → number 4 s at ≡ ok 3 (at + 4)
    → finish_at rows s (at + 4) ≡ ok f end → element_at s at rows b ≡ ok (record { element = f; rows = rows; book = b }) end
unfolding element_at
finish_step s at rows b f end k e = rw (k, e)

-- A row counts, and nothing else does.
pub step_rows : (s : List ℕ) (at rows : ℕ) (b : Book) (st : Stepped) (next : ℕ) → element_at s at rows b ≡ ok st next → st.rows ≡ rows + as_row st.element
step_rows s at rows b st next e = go (went s at rows b st next e)
  where
    go : Went s at rows b st next → st.rows ≡ rows + as_row st.element
    go (at_layout l x k h g el ro) = rw el (omega arith)
    go (at_row r k h el ro bo) = rw el (omega arith)
    go (at_finish n t k h el ro bo) = rw el (omega arith)
