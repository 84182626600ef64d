-- A row by its book: refused where its number is cut short or its layout lacks, else by the shape of what its layout gives; what it takes of the book; and its fields, read in a room that ends where they end.
use Prim.Native.Nat.{ℕ, ◌+◌, ◌≤◌, ◌<◌}
use mathlib.Core.Path.{◌≡◌, refl, sym, ap, ◌∙◌, subst}
use mathlib.Core.List.{List}
use mathlib.Core.Bool.{Bool}
use mathlib.Core.Option.{Option, some, none}
use native.Mathlib.Omega.{arith}
use native.Mathlib.Nat.{le_refl}
use lib.ListN.{length}
use lib.Dec.{leb, eqb, ltb}
use borrow.Author.Tests.{leb-true}
use Rattle.octets.specs.Reading.{Read, ok, no, ◌then◌, be, number}
use Rattle.octets.specs.declared.Room.TheVariants.{Document, Stated}
use Rattle.octets.specs.Writing.{Each, Octet, images}
use Rattle.octets.proofs.Spans.{moved}
use Rattle.octets.proofs.Inverse.{Answer, Any, after, either, chosen, settle, no_ok, ok_value, ok_place}
use Rattle.octets.proofs.Ends.{number_ok, number_no, number_room}
use Rattle.layouts.specs.Layout.{Attribute, Layout}
use Rattle.layouts.specs.Book.{Book, find}
use Rattle.rows.specs.Row.{Field, Row, fields_in, filled, values_at, named, row_at, field_image, FieldsOf}
use Rattle.rows.specs.Answers.{Shape, shape}
use Rattle.rows.proofs.Rows.{fields_inverse}
use Rattle.rows.proofs.Lengths.{values_length}

-- A row is its number, and what the layout of that number gives.
pub row_by : (b : Book) (s : List ℕ) (at : ℕ) → row_at b s at ≡ (number 4 s at then λ n next. named s at n next (find n b))
unfolding row_at
row_by b s at = refl

-- A row that was read has the number by which its layout was found.
named_number : (s : List ℕ) (at n p : ℕ) (o : Option Layout) (r : Row) (end : ℕ) → named s at n p o ≡ ok r end → (r.number ≡ n) × ((l : Layout) × (o ≡ some l))
named_number s at n p none r end e = absurd (no_ok refl e)
named_number s at n p (some l) r end e =
    after (number 4 s p) _ e λ size _ _ e₂. after (values_at l.attributes s p size) _ e₂ λ fields x _ e₃.
    let q : r ≡ record { number = n; is_stated = ltb size 0xffffffff; fields = fields } = ok_value e₃ refl in
    (ap (λ (y : Row). y.number) q, (l, refl))

-- All that a row takes of its book is the layout of its number.
module _ (b : Book) (s : List ℕ) (at : ℕ) (r : Row) (end : ℕ) (e : row_at b s at ≡ ok r end) where
  pub row_found : (l : Layout) × (find r.number b ≡ some l)
  unfolding row_at
  row_found = after (number 4 s at) _ e λ n p _ e₂.
      let h = named_number s at n p (find n b) r end e₂ in
      (h.1.0, ap (λ (k : ℕ). find k b) h.0 ∙ h.1.1)

  pub row_agrees : (c : Book) → find r.number c ≡ find r.number b → row_at c s at ≡ ok r end
  unfolding row_at
  row_agrees c same = after (number 4 s at) _ e λ n p e₁ e₂.
      let h = named_number s at n p (find n b) r end e₂ in
      let q : find n c ≡ find n b = subst (λ (k : ℕ). find k c ≡ find k b) h.0 same in
      rw (e₁, q) e₂

  pub row_lacks : (c : Book) → find r.number c ≡ none → row_at c s at ≡ no 12 at
  unfolding row_at
  row_lacks c lacks = after (number 4 s at) _ e λ n p e₁ e₂.
      let h = named_number s at n p (find n b) r end e₂ in
      let q : find n c ≡ none = subst (λ (k : ℕ). find k c ≡ none) h.0 lacks in
      rw (e₁, q)

-- The values of a row that is accepted, whether its length is stated or not: what they are, and that they end in a room of just their length.
module _ (s : List ℕ) (o : Each Octet s) (xs : List Attribute) where
  abbrev Held : ℕ → List Field → ℕ → Type 0
  Held at fields end = Answer s (length s) (images field_image) Any (FieldsOf xs) at fields end

  values_held : (at size : ℕ) {fields : List Field} {end : ℕ} → at + 4 ≤ length s → values_at xs s at size ≡ ok fields end → Held (at + 4) fields end
  unfolding values_at
  values_held at size h e =
      either (eqb size 0xffffffff) _ _ e (λ t f. (fields_inverse s Document (le_refl (length s)) xs).forth o h f)
      λ t f.
      let (t₁, f₁) = chosen (leb (at + 4 + size) (length s)) (λ _. filled xs s at (at + 4 + size)) 1 at f in
      let inside = leb-true (at + 4 + size) (length s) t₁ in
      after (fields_in (Stated (at + 4 + size) at) xs s (at + 4)) _ f₁ λ fs last f₂ f₃.
      let (t₂, f₄) = chosen (eqb last (at + 4 + size)) (λ _. ok fs last) 13 at f₃ in
      let (u, g, q) = (fields_inverse s (Stated (at + 4 + size) at) inside xs).forth o (omega arith) f₂ in
      settle (Held (at + 4)) f₄ (tt, g, moved (length s) (at + 4) last q refl refl (omega (arith, q.inside)))

  own_room : (at : ℕ) (fields : List Field) (end : ℕ) → Held at fields end
      → (fields_in (Stated end 0) xs s at ≡ ok fields end) × (at ≤ end) × (end ≤ length s)
  own_room at fields end h =
      let (u, g, p) = h in
      ((fields_inverse s (Stated end 0) p.inside xs).back fields tt g (moved end at end p refl refl (le_refl end)), omega (arith, p.place), p.inside)

-- What a row of a shape is: its number, whether its length is stated, and its count of fields.
pub record Shaped (s : List ℕ) (at : ℕ) (read : Read Row) (is_stated : Bool) (count end : ℕ) : Type 0 where
  pub row : Row
  pub is : read ≡ ok row end
  pub number : row.number ≡ be 4 s at
  pub stated : row.is_stated ≡ is_stated
  pub counts : length row.fields ≡ count

-- What an accepted row is: its fields, and that they are read from behind its length to its end.
pub record Taken (s : List ℕ) (at : ℕ) (read : Read Row) (l : Layout) (count end : ℕ) : Type 0 where
  pub row : Row
  pub is : read ≡ ok row end
  pub counts : length l.attributes ≡ count
  pub fields : fields_in (Stated end 0) l.attributes s (at + 8) ≡ ok row.fields end
  pub later : at + 8 ≤ end
  pub inside : end ≤ length s

module _ (s : List ℕ) (at : ℕ) (book : Book) where
  pub row_unnumbered : length s < at + 4 → row_at book s at ≡ no 1 at
  unfolding row_at
  row_unnumbered h = rw (number_no s at 4 h) refl

  pub row_unknown : at + 4 ≤ length s → find (be 4 s at) book ≡ none → row_at book s at ≡ no 12 at
  unfolding row_at
  row_unknown h f = rw (number_ok s at 4 h, f) refl

  module _ (l : Layout) (h : at + 4 ≤ length s) (f : find (be 4 s at) book ≡ some l) where
    abbrev by_layout : Read Row
    by_layout = named s at (be 4 s at) (at + 4) (some l)

    row_of : row_at book s at ≡ by_layout
    unfolding row_at
    row_of = rw (number_ok s at 4 h, f) refl

    pub row_unshaped : (n p : ℕ) → shape by_layout ≡ no n p → row_at book s at ≡ no n p
    row_unshaped n p e = row_of ∙ go by_layout e
      where
        go : (r : Read Row) → shape r ≡ no n p → r ≡ no n p
        go (no m q) e = let a : m ≡ n = cc in let b : q ≡ p = cc in cc
        go (ok x end) e = absurd (let z : ◌≡◌ {A = ℕ} 0 1 = cc in omega arith)

    module _ (is_stated : Bool) (count end : ℕ) (e : shape by_layout ≡ ok (record { is_stated = is_stated; count = count }) end) where
      pub row_shaped : Shaped s at (row_at book s at) is_stated count end
      row_shaped = go by_layout row_of e
        where
          go : (r : Read Row) → row_at book s at ≡ r → shape r ≡ ok (record { is_stated = is_stated; count = count }) end → Shaped s at (row_at book s at) is_stated count end
          go (ok x last) is e =
              let same : ◌≡◌ {A = Shape} (record { is_stated = x.is_stated; count = length x.fields }) (record { is_stated = is_stated; count = count }) = cc in
              let place : last ≡ end = cc in
              record {
                row = x;
                is = is ∙ ap (ok x) place;
                number = (named_number s at (be 4 s at) (at + 4) (some l) x last (sym row_of ∙ is)).0;
                stated = ap (λ (y : Shape). y.is_stated) same;
                counts = ap (λ (y : Shape). y.count) same;
              }
          go (no m q) is e = absurd (let z : ◌≡◌ {A = ℕ} 0 1 = cc in omega arith)

      pub row_taken : Each Octet s → Taken s at (row_at book s at) l count end
      row_taken o =
          let r = row_shaped in
          let x = r.row in
          after (number 4 s (at + 4)) _ (sym row_of ∙ r.is) λ size mid e₂ e₃.
          after (values_at l.attributes s (at + 4) size) _ e₃ λ fields last e₄ e₅.
          let same : fields ≡ x.fields = ap (λ (y : Row). y.fields) (ok_value refl e₅) in
          let place : last ≡ end = ok_place refl e₅ in
          let held = values_held s o l.attributes (at + 4) size (number_room s (at + 4) 4 (rw e₂ refl)) (e₄ ∙ (ap (λ (y : List Field). ok y last) same ∙ ap (ok x.fields) place)) in
          let (room, later, inside) = own_room s o l.attributes (at + 4 + 4) x.fields end held in
          let there : at + 4 + 4 ≡ at + 8 = omega arith in
          record {
            row = x;
            is = r.is;
            counts = sym (values_length l.attributes s (at + 4) size e₄) ∙ (ap length same ∙ r.counts);
            fields = subst (λ (p : ℕ). fields_in (Stated end 0) l.attributes s p ≡ ok x.fields end) there room;
            later = omega arith;
            inside = inside;
          }
