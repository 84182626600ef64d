-- One call, from every state: it is accepted just where it passes its tests, and then leaves what its deed says; a refusal's place is that of writing. Assumes nothing.
use mathlib.Core.Path.{◌≡◌, refl, ap, subst}
use mathlib.Core.List.{List, []}
use mathlib.Core.Bool.{true, ◌&&◌}
use Prim.Native.Nat.{ℕ, ◌+◌, ◌≤◌}
use native.Mathlib.Omega.{arith}
use lib.ListN.{length}
use lib.Dec.{leb}
use borrow.Author.Tests.{leb-true, le-leb}
use Rattle.octets.specs.Reading.{Read, ok, no, is_ok, value_or}
use Rattle.octets.proofs.Copies.{both_true}
use Rattle.octets.proofs.Inverse.{no_ok, settle}
use Rattle.layouts.specs.Book.{Book, book_of, book_in}
use Rattle.writing_parts.specs.Faults as faults
use Rattle.writing_parts.specs.Faults.{Fault, fine, unless}
use Rattle.writing_parts.specs.Answers.{refusal}
use Rattle.writing_parts.proofs.Faults.{both_fine, holds}
use Rattle.writer.specs.declared.State.{State}
use Rattle.writer.specs.Writer.{Call, Written, room, bounded, Deed, does, learns, fault_of, left_by, answer_by, deed_answer, call}
use Rattle.writer.proofs.Bounds.{Bounds, bounds, bounded_is}

-- What a deed has to pass in a state, over a book.
pub record Passes (s : State) (buffer : List ℕ) (used : ℕ) (b : Book) (d : Deed) : Type 0 where
  pub inside : Bounds s (length buffer)
  pub in_turn : d.in_turn ≡ true
  pub faultless : d.fault ≡ fine
  pub learnt : refusal (learns s buffer b used d) ≡ fine
  pub fits : d.at + length d.octets ≤ room (length buffer)

-- An answer by its fault.
answered_ok : (f : Fault) (at : ℕ) (v : Written) {w : Written} {n : ℕ} → answer_by f at v ≡ ok w n → (f ≡ fine) × (w ≡ v) × (n ≡ v.state.place)
answered_ok faults.None at v e = (refl, settle (λ (x : Written) (_ : ℕ). x ≡ v) e refl, settle (λ (_ : Written) (m : ℕ). m ≡ v.state.place) e refl)
answered_ok (faults.Refused m) at v e = absurd (no_ok refl e)

answered_no : (f : Fault) (at : ℕ) (v : Written) {n p : ℕ} → answer_by f at v ≡ no n p → p ≡ at
answered_no faults.None at v e = absurd (no_ok e refl)
answered_no (faults.Refused m) at v e = cc

module _ (s : State) (buffer lent : List ℕ) (used : ℕ) {b : Book} {m : ℕ} (is_book : book_of lent used ≡ ok b m) where
  book_in_lem : book_in lent used ≡ b
  unfolding book_in
  book_in_lem = ap (value_or []) is_book

  -- A call that passes every test is accepted.
  pub accepted : (c : Call) → Passes s buffer used b (does s buffer b c) → call s buffer lent used c ≡ ok (left_by s buffer lent used b (does s buffer b c)) (does s buffer b c).next.place
  unfolding call deed_answer fault_of
  accepted c p =
      let d : Deed = does s buffer b c in
      rw (
        book_in_lem,
        is_book,
        bounded_is s (length buffer) p.inside,
        p.in_turn,
        p.faultless,
        p.learnt,
        le-leb (d.at + length d.octets) (room (length buffer)) p.fits,
      )
      refl

-- What an accepted call has passed over a book, and what it left.
pub record Accepted (s : State) (buffer lent : List ℕ) (used : ℕ) (b : Book) (c : Call) (w : Written) (at : ℕ) : Type 0 where
  pub book_end : ℕ
  pub is_book : book_of lent used ≡ ok b book_end
  pub passes : Passes s buffer used b (does s buffer b c)
  pub left : w ≡ left_by s buffer lent used b (does s buffer b c)
  pub place : at ≡ (does s buffer b c).next.place

book_read : (lent : List ℕ) (used : ℕ) → is_ok (book_of lent used) ≡ true → (m : ℕ) × (book_of lent used ≡ ok (book_in lent used) m)
unfolding book_in
book_read lent used e = go (book_of lent used) e
  where
    go : (r : Read Book) → is_ok r ≡ true → (m : ℕ) × (r ≡ ok (value_or [] r) m)
    go (ok b m) e = (m, refl)
    go (no n p) e = absurd (let z : ◌≡◌ {A = ℕ} 0 1 = cc in omega arith)

module _ (s : State) (buffer lent : List ℕ) (used : ℕ) (c : Call) {w : Written} {at : ℕ} (e : call s buffer lent used c ≡ ok w at) where
  pub accepted_is : Accepted s buffer lent used (book_in lent used) c w at
  unfolding call deed_answer fault_of
  accepted_is =
      let d : Deed = does s buffer (book_in lent used) c in
      let (f, left, place) = answered_ok (fault_of s buffer lent used d) s.place (left_by s buffer lent used (book_in lent used) d) e in
      let (f₁, fits) = both_fine _ (unless (leb (d.at + length d.octets) (room (length buffer))) 23) f in
      let (f₂, learnt) = both_fine _ (refusal (learns s buffer (book_in lent used) used d)) f₁ in
      let (f₃, faultless) = both_fine _ d.fault f₂ in
      let (book, ready) = both_fine (unless (is_ok (book_of lent used)) 17) _ f₃ in
      let (within, turn) = both_true _ _ (holds (bounded s (length buffer) && d.in_turn) 20 ready) in
      let (m, is_book) = book_read lent used (holds (is_ok (book_of lent used)) 17 book) in
      record {
        book_end = m;
        is_book = is_book;
        passes =
            record {
              inside = bounds s (length buffer) within;
              in_turn = turn;
              faultless = faultless;
              learnt = learnt;
              fits = leb-true _ _ (holds (leb (d.at + length d.octets) (room (length buffer))) 23 fits);
            };
        left = left;
        place = place;
      }

  -- The same over the book that is known to be lent.
  pub passed_all : {b : Book} {m : ℕ} → book_of lent used ≡ ok b m → Accepted s buffer lent used b c w at
  passed_all is_book = subst (λ (b : Book). Accepted s buffer lent used b c w at) (book_in_lem s buffer lent used is_book) accepted_is

-- A refusal's place is the place of writing.
pub refused_place : (s : State) (buffer lent : List ℕ) (used : ℕ) (c : Call) {n p : ℕ} → call s buffer lent used c ≡ no n p → p ≡ s.place
unfolding call deed_answer
refused_place s buffer lent used c e =
    let d : Deed = does s buffer (book_in lent used) c in
    answered_no (fault_of s buffer lent used d) s.place (left_by s buffer lent used (book_in lent used) d) e
