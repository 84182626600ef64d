-- The equations of a row's values behind its length, unstated or stated, and of the row itself: each is its definition at one outcome of its tests.
use Prim.Native.Nat.{ℕ, suc, ◌+◌, ◌≤◌, ◌<◌}
use Rattle.std.specs.Prelude.{Ok, Err}
use mathlib.Core.Path.{◌≡◌, refl, sym, ap, ◌∙◌}
use mathlib.Core.List.{List, [], ◌∷◌}
use mathlib.Core.Bool.{Bool, true, false}
use mathlib.Core.Option.{some}
use lib.ListN.{length}
use lib.Dec.{leb, ltb, eqb}
use native.Mathlib.Omega.{arith}
use borrow.Author.Tests.{le-leb, lt-leb, eq-eqb, ne_eqb, eqb-true, eqb-false}
use Rattle.octets.specs.Reading.{ok, no, choose, ends, be, reach}
use Rattle.octets.specs.Answers.{says, Within}
use Rattle.octets.specs.declared.Room.{Room}
use Rattle.octets.specs.declared.Room.TheVariants.{Document, Stated}
use Rattle.octets.proofs.Inverse.{after, either, chosen}
use Rattle.octets.proofs.Ends.{stop, ended, refused, number_ok, number_no}
use Rattle.layouts.specs.Layout.{Attribute, Layout}
use Rattle.kinds.specs.Kinds.{form_of}
use Rattle.rows.specs.Row.{Field, fields_in, filled, values_at, named}
use Rattle.kinds.specs.Forms.{value_in}
use Rattle.rows.specs.Answers.{length_room, fills, shape}

-- There are as many fields as attributes.
pub fields_length : (room : Room) (xs : List Attribute) (s : List ℕ) (at : ℕ) {fields : List Field} {end : ℕ} → fields_in room xs s at ≡ ok fields end → length fields ≡ length xs
unfolding fields_in
fields_length room [] s at {fields} e = let none : [] ≡ fields = cc in ap length (sym none)
fields_length room (a ∷ xs) s at {fields} e =
    after (value_in room (form_of a.kind) s at) _ e λ v next e₁ e₂.
    after (fields_in room xs s next) _ e₂ λ rest last e₃ e₄.
    let is : record { attribute = a; value = v } ∷ rest ≡ fields = cc in
    ap length (sym is) ∙ ap suc (fields_length room xs s next e₃)

module _ (xs : List Attribute) (s : List ℕ) (at : ℕ) where
  module _ (end : ℕ) where
    pub filled_no : (n p : ℕ) → ends (fields_in (Stated end at) xs s (at + 4)) ≡ no n p → ends (filled xs s at end) ≡ no n p
    filled_no n p e = stop (fields_in (Stated end at) xs s (at + 4)) _ n p e

    pub filled_short : (next : ℕ) → ends (fields_in (Stated end at) xs s (at + 4)) ≡ ok next next → (next ≡ end → ⊥) → ends (filled xs s at end) ≡ no 13 at
    filled_short next e h = let (fields, f) = ended (fields_in (Stated end at) xs s (at + 4)) next e in rw (f, ne_eqb next end h) refl

    pub filled_ok : (next : ℕ) → ends (fields_in (Stated end at) xs s (at + 4)) ≡ ok next next → next ≡ end → ends (filled xs s at end) ≡ ok next next
    filled_ok next e h = let (fields, f) = ended (fields_in (Stated end at) xs s (at + 4)) next e in rw (f, eq-eqb next end h) refl

  module _ (size : ℕ) where
    pub values_open : size ≡ 0xffffffff → values_at xs s at size ≡ fields_in Document xs s (at + 4)
    unfolding values_at
    values_open e = rw (eq-eqb size 0xffffffff e) refl

    pub values_past : (size ≡ 0xffffffff → ⊥) → length s < at + 4 + size → values_at xs s at size ≡ no 1 at
    unfolding values_at
    values_past e h = rw (ne_eqb size 0xffffffff e, lt-leb (at + 4 + size) (length s) h) refl

    pub values_stated : (size ≡ 0xffffffff → ⊥) → at + 4 + size ≤ length s → values_at xs s at size ≡ filled xs s at (at + 4 + size)
    unfolding values_at
    values_stated e h = rw (ne_eqb size 0xffffffff e, le-leb (at + 4 + size) (length s) h) refl

    pub values_length : {fields : List Field} {end : ℕ} → values_at xs s at size ≡ ok fields end → length fields ≡ length xs
    unfolding values_at
    values_length {fields = all} e =
        either (eqb size 0xffffffff) _ _ e (λ t f. fields_length Document xs s (at + 4) f)
        λ t f.
        let (t₁, f₁) = chosen (leb (at + 4 + size) (length s)) (λ _. filled xs s at (at + 4 + size)) 1 at f in
        after (fields_in (Stated (at + 4 + size) at) xs s (at + 4)) _ f₁ λ fields last f₂ f₃.
        let (t₂, f₄) = chosen (eqb last (at + 4 + size)) (λ _. ok fields last) 13 at f₃ in
        let same : all ≡ fields = cc in
        ap length same ∙ fields_length (Stated (at + 4 + size) at) xs s (at + 4) f₂

-- The same by the room that a length gives: its values end as their fields do there, or pass the document's end.
module _ (s : List ℕ) (at size : ℕ) where
  pub values_far : (xs : List Attribute) → length s < reach (length_room at size) s → values_at xs s at size ≡ no 1 at
  values_far xs h = go (eqb size 0xffffffff) refl h
    where
      go : (b : Bool) → eqb size 0xffffffff ≡ b → length s < reach (choose b (λ _. Document) (λ _. Stated (at + 4 + size) at)) s → values_at xs s at size ≡ no 1 at
      go true t h = absurd (omega arith)
      go false t h = values_past xs s at size (eqb-false size 0xffffffff t) h

  pub values_stopped : (xs : List Attribute) (n p : ℕ) → reach (length_room at size) s ≤ length s → ends (fields_in (length_room at size) xs s (at + 4)) ≡ no n p
      → ends (values_at xs s at size) ≡ no n p
  values_stopped xs n p h e = go (eqb size 0xffffffff) refl h e
    where
      go : (b : Bool) → eqb size 0xffffffff ≡ b → reach (choose b (λ _. Document) (λ _. Stated (at + 4 + size) at)) s ≤ length s
          → ends (fields_in (choose b (λ _. Document) (λ _. Stated (at + 4 + size) at)) xs s (at + 4)) ≡ no n p → ends (values_at xs s at size) ≡ no n p
      go true t h e = ap ends (values_open xs s at size (eqb-true size 0xffffffff t)) ∙ e
      go false t h e = ap ends (values_stated xs s at size (eqb-false size 0xffffffff t) h) ∙ filled_no xs s at (at + 4 + size) n p e

  pub values_by : (xs : List Attribute) (p : ℕ) → reach (length_room at size) s ≤ length s → ends (fields_in (length_room at size) xs s (at + 4)) ≡ ok p p
      → ends (values_at xs s at size) ≡ says (fills (length_room at size) p)
  values_by xs p h e = go (eqb size 0xffffffff) refl h e
    where
      ended_at : (b : Bool) → eqb p (at + 4 + size) ≡ b → ends (fields_in (Stated (at + 4 + size) at) xs s (at + 4)) ≡ ok p p
          → ends (filled xs s at (at + 4 + size)) ≡ says (choose b (λ _. Ok p) (λ _. Err (record { number = 13; place = at })))
      ended_at true t e = filled_ok xs s at (at + 4 + size) p e (eqb-true p (at + 4 + size) t)
      ended_at false t e = filled_short xs s at (at + 4 + size) p e (eqb-false p (at + 4 + size) t)

      go : (b : Bool) → eqb size 0xffffffff ≡ b → reach (choose b (λ _. Document) (λ _. Stated (at + 4 + size) at)) s ≤ length s
          → ends (fields_in (choose b (λ _. Document) (λ _. Stated (at + 4 + size) at)) xs s (at + 4)) ≡ ok p p
          → ends (values_at xs s at size) ≡ says (fills (choose b (λ _. Document) (λ _. Stated (at + 4 + size) at)) p)
      go true t h e = ap ends (values_open xs s at size (eqb-true size 0xffffffff t)) ∙ e
      go false t h e = ap ends (values_stated xs s at size (eqb-false size 0xffffffff t) h) ∙ ended_at (eqb p (at + 4 + size)) refl e

-- What is behind a place and in a room stays so.
pub fills_within : (room : Room) (p at mid end n : ℕ) → at ≤ mid → end ≤ n → mid ≤ p → p ≤ end → Within at (fills room p) n
fills_within Document p at mid end n h k l m = (omega arith, omega arith)
fills_within (Stated to q) p at mid end n h k l m = go (eqb p to)
  where
    go : (b : Bool) → Within at (choose b (λ _. Ok p) (λ _. Err (record { number = 13; place = q }))) n
    go true = (omega arith, omega arith)
    go false = tt

-- A row, from its length on.
module _ (s : List ℕ) (at n length_at : ℕ) (l : Layout) where
  pub row_cut : length s < length_at + 4 → named s at n length_at (some l) ≡ no 1 length_at
  row_cut h = rw (number_no s length_at 4 h) refl

  pub row_no : (k p : ℕ) → length_at + 4 ≤ length s → ends (values_at l.attributes s length_at (be 4 s length_at)) ≡ no k p → named s at n length_at (some l) ≡ no k p
  row_no k p h e = rw (number_ok s length_at 4 h, refused (values_at l.attributes s length_at (be 4 s length_at)) k p e) refl

  pub row_ok : (next : ℕ) → length_at + 4 ≤ length s → ends (values_at l.attributes s length_at (be 4 s length_at)) ≡ ok next next
      → shape (named s at n length_at (some l)) ≡ ok (record { is_stated = ltb (be 4 s length_at) 0xffffffff; count = length l.attributes }) next
  row_ok next h e =
      let (fields, f) = ended (values_at l.attributes s length_at (be 4 s length_at)) next e in
      rw (number_ok s length_at 4 h, f, values_length l.attributes s length_at (be 4 s length_at) f) refl
