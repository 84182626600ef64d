-- What is read is given back: times by two's complement both ways, a value by its bits at its type, or by its octets.
use Prim.Native.Nat.{ℕ, zero, suc}
use mathlib.Core.Path.{◌≡◌, refl, sym, ap, subst}
use mathlib.Core.List.{List, [], ◌∷◌}
use native.Mathlib.Omega.{arith}
use lib.ListN.{drop}
use Rattle.octets.specs.Reading.{ok}
use Rattle.octets.specs.Writing.{Each, Octet}
use Rattle.octets.proofs.Inverse.{no_ok, after, settle}
use Rattle.kinds.specs.declared.Basic.{Basic}
use Rattle.kinds.specs.declared.Form.{Form}
use Rattle.kinds.specs.declared.Form.TheVariants as form
use Rattle.kinds.specs.Kinds.{form_by, form_of}
use Rattle.kinds.proofs.Unsigned.{unsigned_signed}
use Rattle.kinds.proofs.Values.{Bits, numeral_basic, numeral_bits}
use Rattle.layouts.specs.Layout.{Attribute, Layout}
use Rattle.layouts.specs.Book.{Book}
use Rattle.rows.specs.Row.{Field, Row, FieldsOf}
use Rattle.kinds.specs.Forms.{Value, bits, held, GoodValue}
use Rattle.elements.specs.Element.{Stepped, element_at}
use Rattle.elements.specs.Steps.{lent_book}
use Rattle.elements.proofs.Before.{lent_forth}
use Rattle.elements.proofs.Elements.{Came, a_layout, a_row, an_end, element_forth}
use Rattle.reading.proofs.Times.{Timed, header_timed, step_timed}
use Rattle.octets.specs.Asked.{first_of, nth}
use Rattle.questions.specs.Questions.{kind_asked, book_asked, row_of, row_asked, field_asked}
use Rattle.kinds.specs.Values.{bits_of, octets_of, value_of}
use Rattle.questions.proofs.Questions.{kind_forth}
use Rattle.writer.specs.Writer.{start_time, value, in_form, value_call, finish}
use Rattle.promises_writing.specs.Copies.{Copies}

-- A value that its form has an image for is what its bits and octets say.
in_form_lem : (f : Form) (v : Value) → GoodValue f v → Bits f (bits_of v) × (in_form f (bits_of v) (octets_of v) ≡ v)
in_form_lem (form.Fixed w) (bits n) g = (g, refl)
in_form_lem (form.Fixed w) (held xs) g = absurd g
in_form_lem form.Truth (bits n) g = (g, refl)
in_form_lem form.Truth (held xs) g = absurd g
in_form_lem (form.Led rule) (bits n) g = absurd g
in_form_lem (form.Led rule) (held xs) g = (refl, refl)

pub value_copied : (b : Basic) (v : Value) → GoodValue (form_by b) v → value_call (value_of b v) (octets_of v) ≡ value b v
value_copied b v g =
    let (fits, is) = in_form_lem (form_by b) v g in
    rw (numeral_basic b (bits_of v), numeral_bits b (bits_of v) fits, is) refl

-- A field of a row is good.
one_good : (n : ℕ) (attributes : List Attribute) (fields : List Field) (place mid : ℕ) {f : Field} {next : ℕ} → FieldsOf attributes fields
    → first_of place (drop n fields) mid ≡ ok f next → GoodValue (form_of f.attribute.kind) f.value
one_good zero [] [] place mid h e = absurd (no_ok refl e)
one_good zero (a ∷ rest) (g ∷ fields) place mid h e =
    settle (λ (x : Field) (_ : ℕ). GoodValue (form_of x.attribute.kind) x.value) e
    (subst (λ (x : Attribute). GoodValue (form_of x.kind) g.value) (sym h.0) h.1)
one_good (suc n) [] [] place mid h e = absurd (no_ok refl e)
one_good (suc n) (a ∷ rest) (g ∷ fields) place mid h e = one_good n rest fields place mid h.2 e
one_good n [] (g ∷ fields) place mid h e = absurd h
one_good n (a ∷ rest) [] place mid h e = absurd h

module _ (s : List ℕ) (o : Each Octet s) where
  row_good : (at rows : ℕ) (octets : List ℕ) (used : ℕ) (r : Row) (end : ℕ) → Each Octet octets → row_asked s at rows octets used ≡ ok r end
      → (l : Layout) × FieldsOf l.attributes r.fields
  unfolding row_asked book_asked
  row_good at rows octets used r end b e =
      after (book_asked 2 s at rows octets used) _ e λ book mid e₁ e₂.
      after (element_at s at rows book) _ e₂ λ st next e₃ e₄.
      after (lent_book s rows octets used) _ e₁ λ lent x e₅ e₆.
      after (kind_asked 2 s at) _ e₆ λ kind y e₇ e₈.
      let room = (kind_forth 2 s at e₇).0 in
      go (element_forth s (lent_forth s rows octets used b e₅).0 at rows book o (omega arith) e₃) e₄
    where
      go : {st : Stepped} {book : Book} {next : ℕ} → Came s at rows book st next → row_of at st.element next ≡ ok r end → (l : Layout) × FieldsOf l.attributes r.fields
      go (a_layout g m p) e = absurd (no_ok refl e)
      go (a_row g p) e = settle (λ (x : Row) (_ : ℕ). (l : Layout) × FieldsOf l.attributes x.fields) e (g.1.0, g.1.2)
      go (an_end g whole p) e = absurd (no_ok refl e)

  field_good : (at rows : ℕ) (octets : List ℕ) (used n : ℕ) (f : Field) (next : ℕ) → Each Octet octets → field_asked s at rows octets used n ≡ ok f next
      → GoodValue (form_of f.attribute.kind) f.value
  unfolding field_asked nth
  field_good at rows octets used n f next b e =
      after (row_asked s at rows octets used) _ e λ r mid e₁ e₂.
      let (l, fields) = row_good at rows octets used r mid b e₁ in
      one_good n l.attributes r.fields at mid fields e₂

  pub copies : Copies s
  copies =
      record {
        start = λ h next e. ap start_time (unsigned_signed 8 h.start (header_timed s o h next e));
        field = λ at rows octets used n f next b e. value_copied f.attribute.kind.basic f.value (field_good at rows octets used n f next b e);
        end = λ at rows octets used st next n t b e is. ap finish (unsigned_signed 8 t (subst Timed is (step_timed s o at rows octets used b st next e)));
      }
