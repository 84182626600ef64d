-- What stands in the octets of an accepted attribute or layout: its fields with their places, and its attributes by index.
-- A reading that succeeds is taken apart field by field; attribute n stands behind the run of the first n.
use Prim.Native.Nat.{ℕ, suc, ◌+◌, ◌≤◌, ◌<◌}
use mathlib.Core.Path.{◌≡◌, sym, ap, ◌∙◌, subst}
use mathlib.Core.List.{List, ◌++◌}
use mathlib.Core.Bool.{true}
use lib.ListN.{length, drop}
use native.Mathlib.Omega.{arith}
use Rattle.octets.specs.Limits.{most_attributes}
use Rattle.octets.specs.Reading.{ok, ends, is_ok, be, number, count, run}
use Rattle.octets.specs.Writing.{Each, Octet}
use Rattle.octets.proofs.Spans.{spans_front}
use Rattle.octets.proofs.Inverse.{after, ok_value, ok_place}
use Rattle.octets.proofs.Ends.{one_end, number_ok, number_room, count_ok, count_room, ends_ok, value_is}
use Rattle.octets.proofs.Runs.{Item, run_item, run_length}
use Rattle.texts.specs.Texts.{text}
use Rattle.kinds.specs.Kinds.{kind_at}
use Rattle.kinds.proofs.Table.{kind_is}
use Rattle.layouts.specs.Layout.{Attribute, Layout, attribute_at, layout_at}
use Rattle.layouts.specs.Answers.{Nth}
use Rattle.layouts.proofs.Layouts.{layout_inverse}

-- An attribute's fields, its type behind its name.
pub record Described (s : List ℕ) (at : ℕ) (a : Attribute) (next mid : ℕ) : Type 0 where
  pub name : text s at ≡ ok a.name mid
  pub kind : kind_at s mid ≡ ok a.kind next
  pub inside : mid + 4 ≤ length s
  pub place : next ≡ mid + 4

-- A layout's fields, its count behind its type name.
pub record Fields (s : List ℕ) (at : ℕ) (l : Layout) (end mid : ℕ) : Type 0 where
  pub head : at + 4 ≤ length s
  pub number : be 4 s at ≡ l.number
  pub type_name : text s (at + 4) ≡ ok l.type_name mid
  pub inside : mid + 4 ≤ length s
  pub few : be 4 s mid ≤ most_attributes
  pub count : be 4 s mid ≡ length l.attributes
  pub attributes : run (attribute_at s) (be 4 s mid) (mid + 4) ≡ ok l.attributes end

module _ (s : List ℕ) (at : ℕ) where
  attribute_split : {a : Attribute} {next : ℕ} → attribute_at s at ≡ ok a next → (mid : ℕ) × Described s at a next mid
  unfolding attribute_at
  attribute_split {a} {next} e =
      after (text s at) _ e λ name mid e₁ e₂.
      after (kind_at s mid) _ e₂ λ kind last e₃ e₄.
      let same : ◌≡◌ {A = Attribute} (record { name = name; kind = kind }) a = cc in
      let place : last ≡ next = cc in
      let (h, f) = kind_is s mid (ap is_ok e₃) in (
        mid,
        record {
          name = e₁ ∙ ap (λ (x : Attribute). ok x.name mid) same;
          kind = e₃ ∙ (ap (λ (x : Attribute). ok x.kind last) same ∙ ap (ok a.kind) place);
          inside = h;
          place = sym place ∙ sym (one_end (kind_at s mid) e₃ f);
        },
      )

  layout_split : {l : Layout} {end : ℕ} → layout_at s at ≡ ok l end → (mid : ℕ) × Fields s at l end mid
  unfolding layout_at
  layout_split {l} {end} e =
      after (number 4 s at) _ e λ n named e₁ e₂.
      after (text s named) _ e₂ λ name mid e₃ e₄.
      after (count most_attributes s mid) _ e₄ λ k first e₅ e₆.
      after (run (attribute_at s) k first) _ e₆ λ attributes last e₇ e₈.
      let same : ◌≡◌ {A = Layout} (record { number = n; type_name = name; attributes = attributes }) l = cc in
      let place : last ≡ end = cc in
      let head = number_room s at 4 (ap is_ok e₁) in
      let f₁ = number_ok s at 4 head in
      let p₁ : named ≡ at + 4 = ok_place e₁ f₁ in
      let (room, few) = count_room s mid most_attributes (ap is_ok e₅) in
      let f₅ = count_ok s mid most_attributes room few in
      let p₅ : first ≡ mid + 4 = ok_place e₅ f₅ in
      let q₅ : k ≡ be 4 s mid = ok_value e₅ f₅ in (
        mid,
        record {
          head = head;
          number = ok_value f₁ e₁ ∙ ap (λ (x : Layout). x.number) same;
          type_name = ap (text s) (sym p₁) ∙ (e₃ ∙ ap (λ (x : Layout). ok x.type_name mid) same);
          inside = room;
          few = few;
          count = sym q₅ ∙ (sym (run_length (attribute_at s) k first last attributes e₇) ∙ ap (λ (x : Layout). length x.attributes) same);
          attributes = rw (← q₅, ← p₅) (e₇ ∙ (ap (λ (x : Layout). ok x.attributes last) same ∙ ap (ok l.attributes) place));
        },
      )

  -- The same by the end of the name, where it is known.
  pub attribute_fields : (mid : ℕ) {a : Attribute} {next : ℕ} → ends (text s at) ≡ ok mid mid → attribute_at s at ≡ ok a next → Described s at a next mid
  attribute_fields mid {a} {next} f e =
      let (m, d) = attribute_split e in
      subst (Described s at a next) (sym (one_end (text s at) d.name f)) d

  pub layout_fields : (mid : ℕ) {l : Layout} {end : ℕ} → ends (text s (at + 4)) ≡ ok mid mid → layout_at s at ≡ ok l end → Fields s at l end mid
  layout_fields mid {l} {end} f e =
      let (m, d) = layout_split e in
      subst (Fields s at l end) (sym (one_end (text s (at + 4)) d.type_name f)) d

  -- A layout ends where the run of its attributes ends.
  pub layout_run : is_ok (layout_at s at) ≡ true → (mid k : ℕ) → ends (text s (at + 4)) ≡ ok mid mid → k ≡ be 4 s mid
      → ends (layout_at s at) ≡ ends (run (attribute_at s) k (mid + 4))
  layout_run t mid k f q =
      let (l, end, e) = value_is (layout_at s at) t in
      ap ends e ∙ sym (rw q (ap ends (layout_fields mid f e).attributes))

  -- The names of what is accepted are accepted.
  pub attribute_typed : (mid : ℕ) → ends (text s at) ≡ ok mid mid → is_ok (attribute_at s at) ≡ true → is_ok (kind_at s mid) ≡ true
  attribute_typed mid f t = let (a, next, e) = value_is (attribute_at s at) t in ap is_ok (attribute_fields mid f e).kind

  pub attribute_named : is_ok (attribute_at s at) ≡ true → is_ok (text s at) ≡ true
  attribute_named t = let (a, next, e) = value_is (attribute_at s at) t in ap is_ok (attribute_split e).1.name

  pub layout_named : is_ok (layout_at s at) ≡ true → is_ok (text s (at + 4)) ≡ true
  layout_named t = let (l, end, e) = value_is (layout_at s at) t in ap is_ok (layout_split e).1.type_name

  -- A layout's number stands first, and its type name behind it.
  pub layout_number : {l : Layout} {end : ℕ} → layout_at s at ≡ ok l end → (at + 4 ≤ length s) × (be 4 s at ≡ l.number)
  layout_number e = let d = (layout_split e).1 in (d.head, d.number)

  pub layout_text_lem : {l : Layout} {end : ℕ} → layout_at s at ≡ ok l end → (mid : ℕ) × (text s (at + 4) ≡ ok l.type_name mid)
  layout_text_lem e = let (mid, d) = layout_split e in (mid, d.type_name)

  pub attribute_text : {a : Attribute} {next : ℕ} → attribute_at s at ≡ ok a next → (mid : ℕ) × (text s at ≡ ok a.name mid)
  attribute_text e = let (mid, d) = attribute_split e in (mid, d.name)

-- A layout read in octets is read there with more behind them.
pub layout_extends : (s t : List ℕ) (at : ℕ) (l : Layout) (next : ℕ) → Each Octet s → layout_at s at ≡ ok l next → layout_at (s ++ t) at ≡ ok l next
layout_extends s t at l next o e =
    let (u, g, p) = (layout_inverse s).forth o (omega (arith, (layout_number s at e).0)) e in
    (layout_inverse (s ++ t)).back l tt g (spans_front t p)

-- The attributes of a layout by index: the first i of them are read, and where they end, attribute i stands.
module _ (s : List ℕ) (at : ℕ) {l : Layout} {end mid : ℕ} (d : Fields s at l end mid) (i : ℕ) (h : i < length l.attributes) where
  item : Item (attribute_at s) (mid + 4) l.attributes i
  item = run_item (attribute_at s) (be 4 s mid) (mid + 4) end i l.attributes d.attributes h

  pub first_read : is_ok (run (attribute_at s) i (mid + 4)) ≡ true
  first_read = sym (ends_ok (run (attribute_at s) i (mid + 4))) ∙ ap is_ok item.before

  pub nth_here : (pos : ℕ) → ends (run (attribute_at s) i (mid + 4)) ≡ ok pos pos → Nth s l.attributes i pos
  nth_here pos e =
      let same : item.place ≡ pos = cc (item.before, e) in
      record {
        attribute = item.item;
        more = drop (suc i) l.attributes;
        next = item.next;
        is = item.is;
        reads = ap (attribute_at s) (sym same) ∙ item.reads;
      }
