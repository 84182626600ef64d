-- The equations of fields that functions answering places cite, in any room: they go on behind their first, are refused where it is, and end where none is left.
use Prim.Native.Nat.{ℕ, suc}
use mathlib.Core.Path.{◌≡◌, refl, sym, ap, ◌∙◌}
use mathlib.Core.List.{List, [], ◌∷◌}
use mathlib.Core.Bool.{false}
use Rattle.octets.specs.Reading.{Read, ok, no, ends, is_ok, run}
use Rattle.octets.specs.declared.Room.{Room}
use Rattle.octets.proofs.Inverse.{after}
use Rattle.octets.proofs.Ends.{on, stop, made, first_no}
use Rattle.kinds.specs.Kinds.{form_of}
use Rattle.kinds.specs.Forms.{value_in}
use Rattle.layouts.specs.Layout.{Attribute, attribute_at}
use Rattle.rows.specs.Row.{fields_in}

module _ (room : Room) (s : List ℕ) (at : ℕ) where
  pub fields_none : ends (fields_in room [] s at) ≡ ok at at
  unfolding fields_in
  fields_none = refl

  module _ (a : Attribute) (others : List Attribute) where
    pub fields_on : (next : ℕ) → ends (value_in room (form_of a.kind) s at) ≡ ok next next
        → ends (fields_in room (a ∷ others) s at) ≡ ends (fields_in room others s next)
    unfolding fields_in
    fields_on next e = on (value_in room (form_of a.kind) s at) _ (λ m. ends (fields_in room others s m)) next (λ v m. made (fields_in room others s m) _) e

    pub fields_stop : (n p : ℕ) → ends (value_in room (form_of a.kind) s at) ≡ no n p → ends (fields_in room (a ∷ others) s at) ≡ no n p
    unfolding fields_in
    fields_stop n p e = stop (value_in room (form_of a.kind) s at) _ n p e

    pub fields_no : is_ok (value_in room (form_of a.kind) s at) ≡ false → is_ok (fields_in room (a ∷ others) s at) ≡ false
    unfolding fields_in
    fields_no e = first_no (value_in room (form_of a.kind) s at) _ e

module _ (book doc : List ℕ) (room : Room) (xs : List Attribute) (at last : ℕ) where
  -- What is left to read behind some fields: k attributes from a place of the book, whose values stand from a place of the document.
  pub record Left (k place pos : ℕ) : Type 0 where
    pub others : List Attribute
    pub reads : run (attribute_at book) k place ≡ ok others last
    pub same : ends (fields_in room xs doc at) ≡ ends (fields_in room others doc pos)

  -- The next attribute, and what its value's end or refusal is to the whole.
  pub record Next (k place pos : ℕ) : Type 0 where
    pub attribute : Attribute
    pub next : ℕ
    pub reads : attribute_at book place ≡ ok attribute next
    pub on : (p : ℕ) → ends (value_in room (form_of attribute.kind) doc pos) ≡ ok p p → Left k next p
    pub stops : (n p : ℕ) → ends (value_in room (form_of attribute.kind) doc pos) ≡ no n p → ends (fields_in room xs doc at) ≡ no n p

  pub left_next : (k place pos : ℕ) → Left (suc k) place pos → Next k place pos
  unfolding run
  left_next k place pos l =
      after (attribute_at book place) _ l.reads λ a next e₁ e₂.
      after (run (attribute_at book) k next) _ e₂ λ rest end' e₃ e₄.
      let is : l.others ≡ a ∷ rest = cc in
      let same : end' ≡ last = cc in
      let first : ends (fields_in room xs doc at) ≡ ends (fields_in room (a ∷ rest) doc pos) =
      l.same ∙ ap (λ (ys : List Attribute). ends (fields_in room ys doc pos)) is in
      record {
        attribute = a;
        next = next;
        reads = e₁;
        on = λ p f. record { others = rest; reads = e₃ ∙ ap (ok rest) same; same = first ∙ fields_on room doc pos a rest p f };
        stops = λ n p f. first ∙ fields_stop room doc pos a rest n p f;
      }

  pub left_none : (place pos : ℕ) → Left 0 place pos → ends (fields_in room xs doc at) ≡ ok pos pos
  unfolding run
  left_none place pos l =
      let none : [] ≡ l.others = first l.reads in
      l.same ∙ (ap (λ (ys : List Attribute). ends (fields_in room ys doc pos)) (sym none) ∙ fields_none room doc pos)
    where
      first : ◌≡◌ {A = Read (List Attribute)} (ok [] place) (ok l.others last) → [] ≡ l.others
      first e = cc
