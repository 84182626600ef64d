-- Field n of a row stands behind the values before it: it is found by going over the attributes.
use Prim.Native.Nat.{ℕ, zero, suc, ◌+◌, ◌≤◌, ◌<◌}
use mathlib.Core.Path.{◌≡◌, refl, ap, ◌∙◌, subst}
use mathlib.Core.List.{List, [], ◌∷◌}
use native.Mathlib.Omega.{arith}
use lib.ListN.{length, take, drop}
use Rattle.octets.specs.Reading.{Read, ok, no, ends, run}
use Rattle.octets.specs.declared.Room.{Room}
use Rattle.octets.specs.declared.Room.TheVariants.{Stated}
use Rattle.octets.proofs.Inverse.{after, ok_value, ok_place}
use Rattle.octets.proofs.Asked.{nth_none, nth_some}
use Rattle.kinds.specs.Kinds.{form_of}
use Rattle.kinds.specs.declared.Kind.{Kind}
use Rattle.layouts.specs.Layout.{Attribute}
use Rattle.layouts.specs.Book.{Book}
use Rattle.layouts.specs.Answers.{Nth}
use Rattle.rows.specs.Row.{Field, fields_in, row_at}
use Rattle.kinds.specs.Forms.{value_in}
use Rattle.rows.proofs.Values.{fields_none, fields_on}
use Rattle.rows.proofs.Lengths.{fields_length}
use Rattle.row_fields.specs.Places.{Line, NthField, Stood, Spotted, field_over}

-- Field n of fields that are read: where the values before it end, its own stands.
pub record Walked (room : Room) (xs : List Attribute) (s : List ℕ) (at : ℕ) (fields : List Field) (n : ℕ) : Type 0 where
  pub field : Field
  pub rest : List Field
  pub more : List Attribute
  pub place : ℕ
  pub next : ℕ
  pub is : drop n fields ≡ field ∷ rest
  pub names : drop n xs ≡ field.attribute ∷ more
  pub before : ends (fields_in room (take n xs) s at) ≡ ok place place
  pub reads : value_in room (form_of field.attribute.kind) s place ≡ ok field.value next

module _ (room : Room) (s : List ℕ) where
  step_on : (a : Attribute) (others : List Attribute) (at next : ℕ) (f : Field) (rest : List Field) (n : ℕ)
      → ends (value_in room (form_of a.kind) s at) ≡ ok next next → Walked room others s next rest n → Walked room (a ∷ others) s at (f ∷ rest) (suc n)
  step_on a others at next f rest n e w =
      record {
        field = w.field;
        rest = w.rest;
        more = w.more;
        place = w.place;
        next = w.next;
        is = w.is;
        names = w.names;
        before = fields_on room s at a (take n others) next e ∙ w.before;
        reads = w.reads;
      }

  pub walk : (n : ℕ) (xs : List Attribute) (at end : ℕ) (fields : List Field) → fields_in room xs s at ≡ ok fields end → n < length xs → Walked room xs s at fields n
  unfolding fields_in
  walk n [] at end fields e h = absurd (omega arith)
  walk zero (a ∷ others) at end fields e h =
      after (value_in room (form_of a.kind) s at) _ e λ v next e₁ e₂.
      after (fields_in room others s next) _ e₂ λ rest last e₃ e₄.
      let is : record { attribute = a; value = v } ∷ rest ≡ fields = ok_value refl e₄ in
      subst (λ (fs : List Field). Walked room (a ∷ others) s at fs 0) is
      (record {
        field = record { attribute = a; value = v };
        rest = rest;
        more = others;
        place = at;
        next = next;
        is = refl;
        names = refl;
        before = fields_none room s at;
        reads = e₁;
      })
  walk (suc n) (a ∷ others) at end fields e h =
      after (value_in room (form_of a.kind) s at) _ e λ v next e₁ e₂.
      after (fields_in room others s next) _ e₂ λ rest last e₃ e₄.
      let is : record { attribute = a; value = v } ∷ rest ≡ fields = ok_value refl e₄ in
      subst (λ (fs : List Field). Walked room (a ∷ others) s at fs (suc n)) is
      (step_on a others at next (record { attribute = a; value = v }) rest n (ap ends e₁) (walk n others next last rest e₃ (omega arith)))

-- The first n things of a run are a run.
pub run_front : {A : Type 0} (f : ℕ → Read A) (n k at end : ℕ) (xs : List A) → run f k at ≡ ok xs end → n ≤ length xs → (p : ℕ) × (run f n at ≡ ok (take n xs) p)
unfolding run
run_front f zero k at end xs e h = (at, refl)
run_front f (suc n) zero at end xs e h = let none : [] ≡ xs = cc in absurd (omega (arith, ap length none))
run_front {A} f (suc n) (suc k) at end xs e h =
    after (f at) _ e λ a next e₁ e₂.
    after (run f k next) _ e₂ λ rest last e₃ e₄.
    let is : a ∷ rest ≡ xs = ok_value refl e₄ in
    let (p, again) = run_front f n k next last rest e₃ (omega (arith, ap length is)) in
    (p, rw (e₁, again) (ap (λ (ys : List A). ok (take (suc n) ys) p) is))

-- The end of the values before the nth is the place of its value.
pub nth_field : (s : List ℕ) (end first n p : ℕ) (xs : List Attribute) (fields : List Field) → fields_in (Stated end 0) xs s first ≡ ok fields end → n < length xs
    → ends (fields_in (Stated end 0) (take n xs) s first) ≡ ok p p → NthField s end xs fields n p
nth_field s end first n p xs fields e h f =
    let w = walk (Stated end 0) s n xs first end fields e h in
    let same : w.place ≡ p = ok_place w.before f in
    record {
      field = w.field;
      rest = w.rest;
      more = w.more;
      next = w.next;
      is = w.is;
      names = w.names;
      reads = subst (λ (q : ℕ). value_in (Stated end 0) (form_of w.field.attribute.kind) s q ≡ ok w.field.value w.next) same w.reads;
    }

-- The value of a field that was found is one of its type.
unfoldable pub field_stood : {s book : List ℕ} {read : Read Field} {attribute value : ℕ} (p : Spotted s book read attribute value) (k : Kind) → k ≡ p.field.attribute.kind → Stood s k.basic value
field_stood p k e = record { value = p.field.value; end = p.end; next = p.after; inside = p.inside; reads = rw e p.reads }

-- Field n of a row: the row's refusal, none where it has no more than n, or the places of its attribute and value.
module _ (b : Book) (s : List ℕ) (at n : ℕ) where
  pub field_unread : (m p : ℕ) → row_at b s (at + 4) ≡ no m p → field_over b s at n ≡ no m p
  unfolding field_over
  field_unread m p e = rw e refl

  module _ (book : List ℕ) (place count first end : ℕ) (l : Line s book (row_at b s (at + 4)) place count first end) where
    many : length l.row.fields ≡ count
    many = fields_length (Stated end 0) l.layout.attributes s first l.fields ∙ l.counts

    pub field_none : count ≤ n → field_over b s at n ≡ no 18 at
    unfolding field_over
    field_none h = rw l.is (nth_none n at l.row.fields end (omega (arith, many)))

    pub field_spotted : (attribute value : ℕ) → Nth book l.layout.attributes n attribute → NthField s end l.layout.attributes l.row.fields n value
        → Spotted s book (field_over b s at n) attribute value
    unfolding field_over
    field_spotted attribute value a f =
        let same : a.attribute ≡ f.field.attribute = head_same a.is f.names in
        record {
          field = f.field;
          next = end;
          end = end;
          last = a.next;
          after = f.next;
          is = rw l.is (nth_some n at l.row.fields end f.is);
          names = a.reads ∙ ap (λ (x : Attribute). ok x a.next) same;
          reads = f.reads;
          inside = l.inside;
          short = l.short;
          small = l.small;
        }
      where
        head_same : {A : Type 0} {xs : List A} {x y : A} {us vs : List A} → xs ≡ x ∷ us → xs ≡ y ∷ vs → x ≡ y
        head_same p q = cc
