-- What stands before every element: 2 for the document, then 17 for the book and the rows passed. A step is that refusal, or the element behind it.
use Prim.Native.Nat.{ℕ, ◌≤◌, ◌<◌}
use mathlib.Core.Path.{◌≡◌, refl, sym, ap, ◌∙◌}
use mathlib.Core.List.{List}
use mathlib.Core.Bool.{false}
use lib.ListN.{length, take}
use lib.Seq.{take-length}
use lib.Dec.{leb}
use borrow.Author.Tests.{le-leb, lt-leb, leb-true}
use Rattle.octets.specs.Limits.{longest, most_rows}
use Rattle.octets.specs.Reading.{ok, no, is_ok}
use Rattle.octets.specs.Asked.{refusal_of}
use Rattle.octets.specs.Refusals.{Refusal}
use Rattle.std.specs.Prelude.{Result, Ok, Err}
use Rattle.octets.specs.Writing.{Each, Octet}
use Rattle.octets.proofs.Inverse.{after, chosen}
use Rattle.octets.proofs.Asked.{unrefused, refused_as}
use Rattle.layouts.specs.Book.{Book, book_of, book_in, IsBook}
use Rattle.layouts.proofs.Checks.{good_book, bad_book}
use Rattle.elements.specs.Element.{element_at}
use Rattle.elements.specs.Steps.{lent_book, step_at}

module _ (s : List ℕ) (rows : ℕ) (octets : List ℕ) (used : ℕ) where
  pub lent_long : longest < length s → lent_book s rows octets used ≡ no 2 0
  unfolding lent_book
  lent_long h = rw (lt-leb (length s) longest h) refl

  module _ (short : length s ≤ longest) where
    pub lent_unbooked : is_ok (book_of octets used) ≡ false → lent_book s rows octets used ≡ no 17 0
    unfolding lent_book
    lent_unbooked e = rw (le-leb (length s) longest short, bad_book octets used e) refl

    pub lent_many : IsBook octets used → most_rows < rows → lent_book s rows octets used ≡ no 17 0
    unfolding lent_book
    lent_many e h = rw (le-leb (length s) longest short, e, lt-leb rows most_rows h) refl

    pub lent_is : IsBook octets used → rows ≤ most_rows → lent_book s rows octets used ≡ ok (book_in octets used) used
    unfolding lent_book
    lent_is e h = rw (le-leb (length s) longest short, e, le-leb rows most_rows h) refl

  pub lent_short : {book : Book} {end : ℕ} → lent_book s rows octets used ≡ ok book end → length s ≤ longest
  unfolding lent_book
  lent_short e = let (t, _) = chosen (leb (length s) longest) _ 2 0 e in leb-true (length s) longest t

  pub lent_forth : {book : Book} {end : ℕ} → Each Octet octets → lent_book s rows octets used ≡ ok book end
      → (length s ≤ longest) × (rows ≤ most_rows) × IsBook octets used
  unfolding lent_book
  lent_forth o e =
      let (t, e₁) = chosen (leb (length s) longest) _ 2 0 e in
      after (book_of octets used) _ e₁ λ book end e₂ e₃.
      let (t₁, e₄) = chosen (leb rows most_rows) (λ _. ok book end) 17 0 e₃ in
      (leb-true (length s) longest t, leb-true rows most_rows t₁, good_book octets used o (ap is_ok e₂))

  -- What is known where that question is answered by none.
  pub lent_good : Each Octet octets → refusal_of (lent_book s rows octets used) ≡ Ok tt → (length s ≤ longest) × (rows ≤ most_rows) × IsBook octets used
  lent_good o e = let (_, _, is) = unrefused (lent_book s rows octets used) e in lent_forth o is

  module _ (at : ℕ) where
    pub step_refused : (n p : ℕ) → lent_book s rows octets used ≡ no n p → step_at s at rows octets used ≡ no n p
    unfolding step_at
    step_refused n p e = rw e refl

    pub step_read : (book : Book) (end : ℕ) → lent_book s rows octets used ≡ ok book end → step_at s at rows octets used ≡ element_at s at rows book
    unfolding step_at
    step_read book end e = rw e refl

    pub step_is : length s ≤ longest → IsBook octets used → rows ≤ most_rows → step_at s at rows octets used ≡ element_at s at rows (book_in octets used)
    step_is short is few = step_read (book_in octets used) used (lent_is short is few)

  -- What the guard before a step has answered, to which all of the octets were lent.
  module _ (r : Result (Unit {0}) Refusal) (e : r ≡ refusal_of (lent_book s rows (take (length octets) octets) used)) where
    guarded : r ≡ refusal_of (lent_book s rows octets used)
    guarded = e ∙ ap (λ (x : List ℕ). refusal_of (lent_book s rows x used)) (take-length octets)

    pub guard_refused : (at n p : ℕ) → r ≡ Err (record { number = n; place = p }) → step_at s at rows octets used ≡ no n p
    guard_refused at n p q = step_refused at n p (refused_as (lent_book s rows octets used) n p (sym guarded ∙ q))

    pub guard_good : Each Octet octets → r ≡ Ok tt → (length s ≤ longest) × (rows ≤ most_rows) × IsBook octets used
    guard_good o q = lent_good o (sym guarded ∙ q)
