-- A row from its layout's number on: by its number, its layout and where its values end; refused where its length is cut short or its values are; and what a row that was read says of itself.
use Prim.Native.Nat.{ℕ, ◌+◌, ◌≤◌, ◌<◌}
use mathlib.Core.Path.{◌≡◌, refl, ap, ◌∙◌, subst}
use mathlib.Core.List.{List}
use mathlib.Core.Bool.{Bool, true, false}
use mathlib.Core.Option.{Option, some, none}
use native.Mathlib.Omega.{arith}
use lib.ListN.{length}
use lib.Dec.{leb, ltb}
use borrow.Author.Tests.{leb-true, leb-false}
use Rattle.octets.specs.Limits.{longest}
use Rattle.octets.specs.Reading.{ok, ends, is_ok, be, number}
use Rattle.octets.specs.Writing.{Each, Octet}
use Rattle.octets.proofs.Inverse.{no_ok, ok_value, after}
use Rattle.octets.proofs.Ends.{number_ok, number_no, number_place, number_room, ended, first_no}
use Rattle.layouts.specs.Layout.{Layout}
use Rattle.layouts.specs.Book.{Book, find}
use Rattle.rows.specs.Row.{Field, Row, values_at, named, row_at}
use Rattle.rows.proofs.Lengths.{row_cut}
use Rattle.rows.proofs.Rows.{row_inverse}

-- A row by its number, its layout and where its values end.
pub row_passed : (s : List ℕ) (at length_at p : ℕ) (book : Book) (l : Layout) → length_at ≡ at + 4 → length_at + 4 ≤ length s → find (be 4 s at) book ≡ some l
    → ends (values_at l.attributes s length_at (be 4 s length_at)) ≡ ok p p → (row : Row) × (row_at book s at ≡ ok row p)
unfolding row_at
row_passed s at length_at p book l is h found e =
    let (fields, f) = ended (values_at l.attributes s (at + 4) (be 4 s (at + 4))) p (subst (λ (n : ℕ). ends (values_at l.attributes s n (be 4 s n)) ≡ ok p p) is e) in
    go fields f
  where
    go : (fields : List Field) → values_at l.attributes s (at + 4) (be 4 s (at + 4)) ≡ ok fields p → (row : Row) × (row_at book s at ≡ ok row p)
    go fields f =
        (record { number = be 4 s at; is_stated = ltb (be 4 s (at + 4)) 0xffffffff; fields = fields }, rw (number_ok s at 4 (omega arith), found, number_ok s (at + 4) 4 (omega arith), f) refl)

-- The same for one that is refused: its length is cut short, or its values are refused.
module _ (s : List ℕ) (at length_at : ℕ) (book : Book) (is : length_at ≡ at + 4) where
  pub row_short : length s < length_at + 4 → is_ok (row_at book s at) ≡ false
  unfolding row_at
  row_short h = go (leb (at + 4) (length s)) refl
    where
      named_no : (n : ℕ) (o : Option Layout) → is_ok (named s at n (at + 4) o) ≡ false
      named_no n none = refl
      named_no n (some l) = ap is_ok (row_cut s at n (at + 4) l (omega arith))

      go : (b : Bool) → leb (at + 4) (length s) ≡ b → is_ok (row_at book s at) ≡ false
      go true t = rw (number_ok s at 4 (leb-true (at + 4) (length s) t)) (named_no (be 4 s at) (find (be 4 s at) book))
      go false t = rw (number_no s at 4 (leb-false (at + 4) (length s) t)) refl

  pub row_refused : (l : Layout) → length_at + 4 ≤ length s → find (be 4 s at) book ≡ some l
      → is_ok (values_at l.attributes s length_at (be 4 s length_at)) ≡ false → is_ok (row_at book s at) ≡ false
  unfolding row_at
  row_refused l h found e =
      rw (number_ok s at 4 (omega arith), found, number_ok s (at + 4) 4 (omega arith))
      (first_no (values_at l.attributes s (at + 4) (be 4 s (at + 4))) _ (subst (λ (n : ℕ). is_ok (values_at l.attributes s n (be 4 s n)) ≡ false) is e))

-- What a row says of itself stands at its places.
module _ (s : List ℕ) (at : ℕ) (row : Row) (next : ℕ) where
  pub record Says : Type 0 where
    pub room : at + 8 ≤ length s
    pub number : row.number ≡ be 4 s at
    pub stated : row.is_stated ≡ ltb (be 4 s (at + 4)) 0xffffffff

  said : (n p : ℕ) (o : Option Layout) → number 4 s at ≡ ok n p → named s at n p o ≡ ok row next → Says
  said n p none e₁ e = absurd (no_ok refl e)
  said n p (some l) e₁ e =
      after (number 4 s p) _ e λ size q e₂ e₃.
      after (values_at l.attributes s p size) _ e₃ λ fields x _ e₄.
      let is : row ≡ record { number = n; is_stated = ltb size 0xffffffff; fields = fields } = ok_value e₄ refl in
      let here : p ≡ at + 4 = number_place 4 s at n p e₁ in
      let room = number_room s p 4 (ap is_ok e₂) in
      let first : n ≡ be 4 s at = ok_value e₁ (number_ok s at 4 (omega arith)) in
      let second : size ≡ be 4 s (at + 4) = ok_value e₂ (number_ok s p 4 room) ∙ ap (be 4 s) here in
      record {
        room = omega arith;
        number = ap (λ (y : Row). y.number) is ∙ first;
        stated = ap (λ (y : Row). y.is_stated) is ∙ ap (λ (k : ℕ). ltb k 0xffffffff) second;
      }

  pub row_says_lem : (book : Book) → row_at book s at ≡ ok row next → Says
  unfolding row_at
  row_says_lem book e = after (number 4 s at) _ e λ n p e₁ e₂. said n p (find n book) e₁ e₂

-- Where a row of a book ends.
pub row_inside : (s : List ℕ) → length s ≤ longest → Each Octet s → (book : Book) (at : ℕ) (row : Row) (next : ℕ) → at ≤ length s → row_at book s at ≡ ok row next → next ≤ length s
row_inside s short o book at row next h e = let (_, _, span) = (row_inverse s short book).forth o h e in span.inside
