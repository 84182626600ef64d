-- What stands before a question about an element, and that a question reads what the step reads: each equation is a definition at one outcome of its tests.
use Prim.Native.Nat.{ℕ, zero, suc, ◌+◌, ◌≤◌, ◌<◌}
use Rattle.std.specs.Prelude.{Result, Ok, Err}
use mathlib.Core.Path.{◌≡◌, refl, sym, ap, ◌∙◌}
use mathlib.Core.List.{List}
use mathlib.Core.Bool.{Bool, true, false, ◌&&◌}
use native.Mathlib.Omega.{arith}
use lib.ListN.{length, take}
use lib.Dec.{leb, eqb}
use borrow.Author.Tests.{le-leb, lt-leb, eq-eqb, ne_eqb, eqb-true}
use Rattle.octets.specs.Limits.{longest, most_rows}
use Rattle.octets.specs.Reading.{Read, ok, no, ◌then◌, choose, ends, is_ok, be, number}
use Rattle.octets.specs.Asked.{refusal_of, nth, Standing}
use Rattle.octets.specs.Writing.{Each, Octet}
use Rattle.octets.specs.declared.Refused.{Refused}
use Rattle.octets.proofs.Inverse.{after, ok_value, ok_place}
use Rattle.octets.proofs.Asked.{unrefused, refused_as, nth_none, nth_some}
use Rattle.octets.proofs.Ends.{refused, number_ok, number_no, number_room}
use Rattle.layouts.specs.Layout.{Layout, attribute_at, layout_at}
use Rattle.layouts.specs.Book.{Book, book_in, IsBook, learn}
use Rattle.layouts.specs.Answers.{Nth, Judges}
use Rattle.layouts.specs.declared.Learning.{Learning}
use Rattle.layouts.specs.declared.Learning.TheVariants as learning
use Rattle.layouts.proofs.Walks.{lent_book_lem, book_image_lem, lent_length}
use Rattle.rows.specs.Row.{Row, row_at}
use Rattle.elements.specs.Element.{item, layout, row, Stepped}
use Rattle.elements.specs.Steps.{lent_book}
use Rattle.elements.specs.Kinds.{number_of_kind, OfNumber}
use Rattle.elements.specs.declared.ElementKind.{ElementKind}
use Rattle.elements.specs.declared.ElementKind.TheVariants as kinds
use Rattle.octets.specs.Faults.{number_of}
use Rattle.octets.specs.declared.Fault.{Fault}
use Rattle.elements.proofs.Before.{lent_is}
use Rattle.elements.proofs.Told.{element_layout, element_row}
use Rattle.row_fields.specs.Places.{Spots, field_over}
use Rattle.row_fields.specs.declared.Spot.{Spot}
use Rattle.questions.specs.Questions.{kind_asked, book_asked, row_of, layout_of, row_asked, field_asked, layout_asked, attribute_asked}
use Rattle.questions.specs.declared.Asked.{Asked}
use Rattle.questions.specs.Places.{Opened, Opens, FieldAt, layout_over}

-- The number of a kind lies among them, and one that none has does not.
kind_between : {n : ℕ} (kind : ElementKind) → number_of_kind kind ≡ n → (1 ≤ n) × (n ≤ 3)
kind_between kinds.Layout e = (omega (arith, e), omega (arith, e))
kind_between kinds.Row e = (omega (arith, e), omega (arith, e))
kind_between kinds.End e = (omega (arith, e), omega (arith, e))

kind_outside : (n : ℕ) → ((kind : ElementKind) → number_of_kind kind ≡ n → ⊥) → (leb 1 n && leb n 3) ≡ false
kind_outside zero none = refl
kind_outside (suc zero) none = absurd (none kinds.Layout refl)
kind_outside (suc (suc zero)) none = absurd (none kinds.Row refl)
kind_outside (suc (suc (suc zero))) none = absurd (none kinds.End refl)
kind_outside (suc (suc (suc (suc n)))) none = rw (le-leb 1 (suc (suc (suc (suc n)))) (omega arith), lt-leb (suc (suc (suc (suc n)))) 3 (omega arith)) refl

-- The kind.
module _ (wanted : ℕ) (s : List ℕ) (at : ℕ) where
  pub kind_cut : length s < at + 4 → kind_asked wanted s at ≡ no 1 at
  unfolding kind_asked
  kind_cut h = rw (number_no s at 4 h) refl

  module _ (h : at + 4 ≤ length s) where
    pub kind_right : be 4 s at ≡ wanted → kind_asked wanted s at ≡ ok (be 4 s at) (at + 4)
    unfolding kind_asked
    kind_right e = rw (number_ok s at 4 h, eq-eqb (be 4 s at) wanted e) refl

    module _ (other : be 4 s at ≡ wanted → ⊥) where
      pub kind_other : (kind : ElementKind) → OfNumber (be 4 s at) (Ok kind) → kind_asked wanted s at ≡ no 19 at
      unfolding kind_asked
      kind_other kind is =
          let (f, g) = kind_between kind is in
          rw (number_ok s at 4 h, ne_eqb (be 4 s at) wanted other, le-leb 1 (be 4 s at) f, le-leb (be 4 s at) 3 g) refl

      pub kind_none : {f : Fault} → OfNumber (be 4 s at) (Err f) → kind_asked wanted s at ≡ no (number_of f) at
      unfolding kind_asked
      kind_none {f} is = rw (number_ok s at 4 h, ne_eqb (be 4 s at) wanted other, kind_outside (be 4 s at) is.1, is.0) refl

  pub kind_forth : {k next : ℕ} → kind_asked wanted s at ≡ ok k next → (at + 4 ≤ length s) × (be 4 s at ≡ wanted) × (next ≡ at + 4)
  unfolding kind_asked
  kind_forth {k} {next} e =
      after (number 4 s at) _ e λ kind mid e₁ e₂.
      let h = number_room s at 4 (ap is_ok e₁) in
      let f = number_ok s at 4 h in
      let (t, e₃) = wrong (eqb kind wanted) (leb 1 kind && leb kind 3) e₂ in
      (h, ok_value f e₁ ∙ eqb-true kind wanted t, ok_place e₃ refl ∙ ok_place e₁ f)
    where
      wrong : {kind mid : ℕ} (a b : Bool) → choose a (λ _. ok kind mid) (λ _. choose b (λ _. no 19 at) (λ _. no 7 at)) ≡ ok k next → (a ≡ true) × (ok kind mid ≡ ok k next)
      wrong true b e = (refl, e)
      wrong false true e = absurd (let z : ◌≡◌ {A = ℕ} 0 1 = cc in omega arith)
      wrong false false e = absurd (let z : ◌≡◌ {A = ℕ} 0 1 = cc in omega arith)

-- What stands before every question about an element.
module _ (wanted : ℕ) (s : List ℕ) (at rows : ℕ) (octets : List ℕ) (used : ℕ) where
  pub unlent : (n p : ℕ) → lent_book s rows octets used ≡ no n p → book_asked wanted s at rows octets used ≡ no n p
  unfolding book_asked
  unlent n p e = rw e refl

  -- What is lent is good; the kind decides.
  pub opens : Each Octet octets → (length s ≤ longest) × (rows ≤ most_rows) × IsBook octets used → (r : Result (Unit {0}) Refused) → r ≡ refusal_of (kind_asked wanted s at) → Opens wanted s at rows octets used r
  unfolding book_asked
  opens o (short, few, is) (Err r) e = rw (lent_is s rows octets used short is few, refused_as (kind_asked wanted s at) r.number r.place (sym e)) refl
  opens o (short, few, is) (Ok u) e =
      let (k, next, f) = unrefused (kind_asked wanted s at) (sym e) in
      let (room, kind, place) = kind_forth wanted s at f in
      let held = lent_book_lem octets used o is in
      let image = book_image_lem octets used (book_in octets used) held in
      let whole = lent_length octets used held in
      record {
        is = rw (lent_is s rows octets used short is few, kind_right wanted s at room kind) refl;
        kind = kind;
        image = image;
        whole = whole;
        lent = record { room = room; short = short; small = omega (arith, whole, held.most); holds = record { book = book_in octets used; image = image } };
      }

-- A field is asked as the step reads its row, and so is a layout.
module _ (s : List ℕ) (at rows : ℕ) (octets : List ℕ) (used : ℕ) where
  module _ (n : ℕ) where
    pub field_unasked : (m p : ℕ) → row_asked s at rows octets used ≡ no m p → field_asked s at rows octets used n ≡ no m p
    unfolding field_asked
    field_unasked m p e = rw e refl

    pub field_asked_lem : (r : Row) (next : ℕ) → row_asked s at rows octets used ≡ ok r next → field_asked s at rows octets used n ≡ nth n at r.fields next
    unfolding field_asked
    field_asked_lem r next e = rw e refl

    pub field_unopened : (m p : ℕ) → book_asked 2 s at rows octets used ≡ no m p → field_asked s at rows octets used n ≡ no m p
    unfolding field_asked row_asked
    field_unopened m p e = rw e refl

    field_opened : Opened 2 s at rows octets used → field_asked s at rows octets used n ≡ field_over (book_in octets used) s at n
    unfolding field_asked row_asked field_over
    field_opened o = rw (o.is, element_row s at rows (book_in octets used) o.lent.room o.kind) (go (row_at (book_in octets used) s (at + 4)))
      where
        go : (r : Read Row)
            → (((r then λ x end. ok (record { element = item (row x); rows = rows + 1; book = book_in octets used }) end) then λ (st : Stepped) next. row_of at st.element next) then λ x next. nth n at x.fields next)
            ≡ (r then λ x next. nth n at x.fields next)
        go (ok x end) = refl
        go (no m p) = refl

  pub layout_unopened : (n p : ℕ) → book_asked 1 s at rows octets used ≡ no n p → layout_asked s at rows octets used ≡ no n p
  unfolding layout_asked
  layout_unopened n p e = rw e refl

  pub layout_opened : Opened 1 s at rows octets used → layout_asked s at rows octets used ≡ layout_over (book_in octets used) s at
  unfolding layout_asked layout_over
  layout_opened o = rw (o.is, element_layout s at rows (book_in octets used) o.lent.room o.kind) (go (layout_at s (at + 4)))
    where
      learnt : (l : Layout) (end : ℕ) (r : Read Book)
          → ((r then λ b _. ok (record { element = item (layout l); rows = rows; book = b }) end) then λ (st : Stepped) next. layout_of at st.element next) ≡ (r then λ _ _. ok l end)
      learnt l end (ok b x) = refl
      learnt l end (no n p) = refl

      go : (r : Read Layout)
          → ((r then λ l end. learn (book_in octets used) l (at + 4) then λ b _. ok (record { element = item (layout l); rows = rows; book = b }) end) then λ (st : Stepped) next. layout_of at st.element next)
          ≡ (r then λ l end. learn (book_in octets used) l (at + 4) then λ _ _. ok l end)
      go (ok l end) = learnt l end (learn (book_in octets used) l (at + 4))
      go (no n p) = refl

  -- Attribute n of it: as the layout is refused, none, or it stands at its place.
  module _ (n : ℕ) where
    pub attribute_unasked : (m p : ℕ) → layout_asked s at rows octets used ≡ no m p → attribute_asked s at rows octets used n ≡ no m p
    unfolding attribute_asked
    attribute_unasked m p e = rw e refl

    pub attribute_asked_lem : (l : Layout) (next : ℕ) → layout_asked s at rows octets used ≡ ok l next → attribute_asked s at rows octets used n ≡ nth n at l.attributes next
    unfolding attribute_asked
    attribute_asked_lem l next e = rw e refl

    module _ {q : ℕ} (l : Standing s (layout_at s) (layout_asked s at rows octets used) q) where
      pub attribute_none : length l.item.attributes ≤ n → attribute_asked s at rows octets used n ≡ no 18 at
      attribute_none h = attribute_asked_lem l.item l.next l.is ∙ nth_none n at l.item.attributes l.next h

      pub attribute_stands : (p : ℕ) → Nth s l.item.attributes n p → Standing s (attribute_at s) (attribute_asked s at rows octets used n) p
      attribute_stands p a =
          record {
            item = a.attribute;
            next = l.next;
            last = a.next;
            is = attribute_asked_lem l.item l.next l.is ∙ nth_some n at l.item.attributes l.next a.is;
            reads = a.reads;
            short = l.short;
          }

-- A field where it stands, or its refusal.
pub field_placed : (q : Asked) (n : ℕ) → Opened 2 q.doc.now q.at q.rows q.book.now q.used → (r : Result Spot Refused)
    → Spots q.doc.now (take q.used q.book.now) (field_over (book_in q.book.now q.used) q.doc.now q.at n) r → FieldAt q n r
field_placed q n o (Ok spot) e = (rw (field_opened q.doc.now q.at q.rows q.book.now q.used n o) e, o.whole)
field_placed q n o (Err r) e = field_opened q.doc.now q.at q.rows q.book.now q.used n o ∙ e

-- A layout over a book, by what learning it answers.
module _ (book : Book) (s : List ℕ) (at : ℕ) where
  pub over_refused : (n p : ℕ) → ends (layout_at s (at + 4)) ≡ no n p → layout_over book s at ≡ no n p
  unfolding layout_over
  over_refused n p e = rw (refused (layout_at s (at + 4)) n p e) refl

  module _ (l : Layout) (end : ℕ) (e : layout_at s (at + 4) ≡ ok l end) where
    pub over_unlearnt : (n p : ℕ) → learn book l (at + 4) ≡ no n p → layout_over book s at ≡ no n p
    unfolding layout_over
    over_unlearnt n p f = rw (e, f) refl

    pub over_learnt : length s ≤ longest → (more : Book) (x : ℕ) → learn book l (at + 4) ≡ ok more x → Standing s (layout_at s) (layout_over book s at) (at + 4)
    unfolding layout_over
    over_learnt short more x f = record { item = l; next = end; last = end; is = rw (e, f) refl; reads = e; short = short }

    -- Known or new, as it was judged.
    pub over_judged : length s ≤ longest → (used : ℕ) (x : Learning) → Judges used book l (at + 4) (Ok x) → Standing s (layout_at s) (layout_over book s at) (at + 4)
    over_judged short used learning.Known j = over_learnt short _ _ j
    over_judged short used (learning.New more) j = over_learnt short _ _ j.0
