-- Fields and rows: reading and image are inverse, fields one behind another, a row over the book that has its layout.
use mathlib.Core.Path.{◌≡◌, refl, sym, subst}
use mathlib.Core.List.{List, [], ◌∷◌, ◌++◌}
use mathlib.Core.Bool.{Bool, true, false}
use mathlib.Core.Option.{Option, some, none}
use Prim.Native.Nat.{ℕ, ◌+◌, ◌^◌, ◌≤◌, ◌<◌}
use native.Mathlib.Omega.{arith}
use native.Mathlib.Nat.{le_refl}
use lib.ListN.{length}
use lib.Dec.{leb, ltb, eqb, lit<}
use borrow.Author.Tests.{leb-true, eqb-true, eqb-false, le-leb, eq-eqb, ne_eqb, lt-ltb, le-ltb}
use Rattle.octets.specs.Limits.{longest}
use Rattle.octets.specs.Reading.{ok, reach, number}
use Rattle.octets.specs.declared.Room.{Room}
use Rattle.octets.specs.declared.Room.TheVariants.{Document, Stated}
use Rattle.octets.specs.Writing.{word, images, Each, Octet}
use Rattle.kinds.specs.Kinds.{form_of}
use Rattle.layouts.specs.Layout.{Attribute, Layout}
use Rattle.layouts.specs.Book.{Book, find}
use Rattle.rows.specs.Row.{Field, Row, fields_in, values_at, named, row_at, field_image, length_image, row_image, FieldsOf}
use Rattle.kinds.specs.Forms.{value_in, GoodValue}
use Rattle.kinds.proofs.Forms.{value_inverse}
use Rattle.octets.proofs.Spans.{Spans, moved, join, middle, length_word, word_octets, none_spans, none_place, each_append}
use Rattle.octets.proofs.Inverse.{Inverse, Answer, Any, after, settle, chosen}
use Rattle.octets.proofs.Fields.{number_whole}

module _ (s : List ℕ) (room : Room) (fits : reach room s ≤ length s) where
  -- A field's value is good by the field's own attribute.
  own : {a : Attribute} (f : Field) → f.attribute ≡ a → GoodValue (form_of a.kind) f.value → GoodValue (form_of f.attribute.kind) f.value
  own f e g = subst (λ (x : Attribute). GoodValue (form_of x.kind) f.value) (sym e) g

  fields_back : (attributes : List Attribute) (fs : List Field) {at next : ℕ} → FieldsOf attributes fs → Spans s (reach room s) at next (images field_image fs)
      → fields_in room attributes s at ≡ ok fs next
  unfolding fields_in images field_image
  fields_back [] [] g p = rw (none_place p)
  fields_back [] (f ∷ fs) g p = absurd g
  fields_back (a ∷ others) [] g p = absurd g
  fields_back (a ∷ others) (f ∷ fs) g p =
      let (p₁, p₂) = middle (field_image f) (images field_image fs) p in
      rw (← g.0, (value_inverse s room fits (form_of f.attribute.kind)).back f.value tt (own f g.0 g.1) p₁, fields_back others fs g.2 p₂)

  fields_forth : (attributes : List Attribute) → Each Octet s → {fs : List Field} {at next : ℕ} → at ≤ reach room s → fields_in room attributes s at ≡ ok fs next
      → Answer s (reach room s) (images field_image) Any (FieldsOf attributes) at fs next
  unfolding fields_in images field_image
  fields_forth [] o {at = at} h e = settle (Answer s (reach room s) (images field_image) Any (FieldsOf []) at) e (tt, tt, none_spans at h)
  fields_forth (a ∷ others) o {at = at} h e =
      after (value_in room (form_of a.kind) s at) _ e λ v next e₁ e₂.
      after (fields_in room others s next) _ e₂ λ rest last e₃ e₄.
      let (u, g, p) = (value_inverse s room fits (form_of a.kind)).forth o h e₁ in
      let (w, gs, q) = fields_forth others o p.inside e₃ in
      settle (Answer s (reach room s) (images field_image) Any (FieldsOf (a ∷ others)) at) e₄ (tt, (refl, g, gs), join p q)

  fields_octets : (attributes : List Attribute) (fs : List Field) → FieldsOf attributes fs → Each Octet (images field_image fs)
  unfolding images field_image
  fields_octets [] [] g = tt
  fields_octets [] (f ∷ fs) g = absurd g
  fields_octets (a ∷ others) [] g = absurd g
  fields_octets (a ∷ others) (f ∷ fs) g =
      each_append (field_image f) (images field_image fs) ((value_inverse s room fits (form_of f.attribute.kind)).octets f.value tt (own f g.0 g.1)) (fields_octets others fs g.2)

  pub fields_inverse : (attributes : List Attribute) → Inverse s (reach room s) (fields_in room attributes s) (images field_image) Any (FieldsOf attributes)
  fields_inverse attributes =
      record { back = λ fs _ g p. fields_back attributes fs g p; forth = fields_forth attributes; octets = λ fs _ g. fields_octets attributes fs g }

-- A row that may stand behind a book.
abbrev pub GoodRow : Book → Row → Type 0
GoodRow book r = (r.number < 2 ^ 32) × ((l : Layout) × (find r.number book ≡ some l) × FieldsOf l.attributes r.fields)

length_octets : (b : Bool) (n : ℕ) → Each Octet (length_image b n)
length_octets true n = word_octets 4 n
length_octets false n = word_octets 4 0xffffffff

module _ (s : List ℕ) (short : length s ≤ longest) where
  named_back : (is_stated : Bool) (l : Layout) (n at : ℕ) {length_at mid next : ℕ} (fields : List Field) → FieldsOf l.attributes fields
      → Spans s (length s) length_at mid (length_image is_stated (length (images field_image fields))) → Spans s (length s) mid next (images field_image fields)
      → named s at n length_at (some l) ≡ ok (record { number = n; is_stated = is_stated; fields = fields }) next
  unfolding values_at
  named_back true l n at {length_at} {mid} {next} fields g p q =
      let size : ℕ = length (images field_image fields) in
      let place : mid ≡ length_at + 4 = omega (arith, p.place, length_word 4 size) in
      let end : next ≡ length_at + 4 + size = omega (arith, q.place) in
      let small : size < 0xffffffff = omega (arith, q.place, q.inside) in
      let inside : length_at + 4 + size ≤ length s = omega (arith, q.inside) in
      rw (
        (number_whole s 4).back size tt (omega arith) p,
        ne_eqb size 0xffffffff (λ z. omega arith),
        le-leb (length_at + 4 + size) (length s) inside,
        (fields_inverse s (Stated (length_at + 4 + size) length_at) inside l.attributes).back fields tt g
            (moved (length_at + 4 + size) (length_at + 4) (length_at + 4 + size) q place end (le_refl (length_at + 4 + size))),
        eq-eqb (length_at + 4 + size) (length_at + 4 + size) refl,
        lt-ltb size 0xffffffff small,
        end,
      )
  named_back false l n at {length_at} {mid} fields g p q =
      let place : mid ≡ length_at + 4 = omega (arith, p.place, length_word 4 0xffffffff) in
      rw ((number_whole s 4).back 0xffffffff tt (lit< tt) p, (fields_inverse s Document (le_refl (length s)) l.attributes).back fields tt g (rw place at q))

  -- The values behind a length, and the length as the row has it.
  abbrev Values : List Attribute → ℕ → ℕ → List Field → ℕ → Type 0
  Values attributes length_at size fields end =
      FieldsOf attributes fields × Spans s (length s) length_at (length_at + 4) (length_image (ltb size 0xffffffff) (length (images field_image fields)))
      × Spans s (length s) (length_at + 4) end (images field_image fields)

  values_forth : (test : Bool) (attributes : List Attribute) (length_at size end : ℕ) (fields : List Field) → Each Octet s → eqb size 0xffffffff ≡ test
      → size < 256 ^ 4 → Spans s (length s) length_at (length_at + 4) (word 4 size) → values_at attributes s length_at size ≡ ok fields end
      → Values attributes length_at size fields end
  unfolding values_at
  values_forth true attributes length_at size end fields o t small p e =
      let (u, g, q) = (fields_inverse s Document (le_refl (length s)) attributes).forth o p.inside (rw t at e) in
      (g, rw (le-ltb size 0xffffffff (omega (arith, eqb-true size 0xffffffff t))) (rw (eqb-true size 0xffffffff t) at p), q)
  values_forth false attributes length_at size end fields o t small p e =
      let (t₁, e₁) = chosen (leb (length_at + 4 + size) (length s)) _ 1 length_at (rw t at e) in
      let inside : length_at + 4 + size ≤ length s = leb-true (length_at + 4 + size) (length s) t₁ in
      after (fields_in (Stated (length_at + 4 + size) length_at) attributes s (length_at + 4)) _ e₁ λ fs last e₂ e₃.
      let (t₂, e₄) = chosen (eqb last (length_at + 4 + size)) (λ _. ok fs last) 13 length_at e₃ in
      let (u, g, q) = (fields_inverse s (Stated (length_at + 4 + size) length_at) inside attributes).forth o (omega arith) e₂ in
      let long : size ≡ length (images field_image fs) = omega (arith, q.place, eqb-true last (length_at + 4 + size) t₂) in
      settle (Values attributes length_at size) e₄
      (g, rw (lt-ltb size 0xffffffff (omega (arith, eqb-false size 0xffffffff t))) (rw long at p), moved (length s) (length_at + 4) last q refl refl (omega (arith, q.inside)))

  named_forth : (book : Book) (found : Option Layout) {n at length_at end : ℕ} {r : Row} → Each Octet s → length_at ≤ length s → find n book ≡ found
      → Spans s (length s) at length_at (word 4 n) → n < 256 ^ 4 → named s at n length_at found ≡ ok r end
      → Answer s (length s) row_image Any (GoodRow book) at r end
  unfolding row_image
  named_forth book none o h f p small e = absurd (let z : ◌≡◌ {A = ℕ} 0 1 = cc in omega arith)
  named_forth book (some l) {at = at} {length_at} o h f p small e =
      after (number 4 s length_at) _ e λ size next e₁ e₂.
      after (values_at l.attributes s length_at size) _ e₂ λ fields last e₃ e₄.
      let (u, g, q) = (number_whole s 4).forth o h e₁ in
      let place : next ≡ length_at + 4 = omega (arith, q.place, length_word 4 size) in
      let (gs, q₁, q₂) = values_forth (eqb size 0xffffffff) l.attributes length_at size last fields o refl g (rw place at q) e₃ in
      settle (Answer s (length s) row_image Any (GoodRow book) at) e₄ (tt, (small, (l, f, gs)), join (join p q₁) q₂)

  pub row_inverse : (book : Book) → Inverse s (length s) (row_at book s) row_image Any (GoodRow book)
  unfolding row_at row_image
  row_inverse book =
      record {
        back = λ r {at} _ g p.
            let size : ℕ = length (images field_image r.fields) in
            let (p₁, p₂) = middle (word 4 r.number ++ length_image r.is_stated size) (images field_image r.fields) p in
            let (p₃, p₄) = middle (word 4 r.number) (length_image r.is_stated size) p₁ in
            rw ((number_whole s 4).back r.number tt g.0 p₃, g.1.1)
            (named_back r.is_stated g.1.0 r.number at r.fields g.1.2 p₄ p₂);
        forth = λ o {a = r} {at} h e.
            after (number 4 s at) _ e λ n next e₁ e₂.
            let (u, g, p) = (number_whole s 4).forth o h e₁ in
            named_forth book (find n book) o p.inside refl p g e₂;
        octets = λ r _ g.
            let size : ℕ = length (images field_image r.fields) in
            each_append (word 4 r.number ++ length_image r.is_stated size) (images field_image r.fields)
            (each_append (word 4 r.number) (length_image r.is_stated size) (word_octets 4 r.number) (length_octets r.is_stated size))
            ((fields_inverse s Document (le_refl (length s)) g.1.0.attributes).octets r.fields tt g.1.2);
      }
