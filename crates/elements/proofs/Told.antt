-- The equations of one element that functions over a book cite: which branch is taken and what it answers, and what an answer tells of; and that lent octets hold their book as they are.
use Prim.Native.Nat.{ℕ, ◌+◌, ◌≤◌, ◌<◌}
use mathlib.Core.Path.{◌≡◌, refl, ap, subst}
use mathlib.Core.List.{List}
use mathlib.Core.Bool.{Bool}
use native.Mathlib.Omega.{arith}
use lib.ListN.{length, take-append-drop}
use borrow.Author.Tests.{eq-eqb, ne_eqb}
use Rattle.octets.specs.Reading.{Read, ok, no, ends, be}
use Rattle.octets.specs.Writing.{Each, Octet}
use Rattle.octets.proofs.Ends.{number_ok, number_no, refused}
use Rattle.layouts.specs.Layout.{Layout, layout_at}
use Rattle.layouts.specs.Book.{Book, book_image, book_in, IsBook, learn}
use Rattle.layouts.specs.Answers.{Looks}
use Rattle.layouts.specs.declared.Looked.{Looked}
use Rattle.layouts.proofs.Books.{Lent}
use Rattle.layouts.proofs.Walks.{lent_book_lem}
use Rattle.rows.specs.Row.{row_at}
use Rattle.rows.proofs.RowLaws.{Shaped}
use Rattle.elements.specs.Element.{item, layout, finish, Stepped, finish_at, layout_element, row_element, end_element, element_at}
use Rattle.elements.specs.Steps.{holding}
use Rattle.elements.specs.Answers.{step_of, tells, Over}
use Rattle.elements.specs.declared.Met.TheVariants as met
use Rattle.elements.specs.declared.Step.{Step}
use Rattle.octets.specs.Refusals.{Refusal}
use Rattle.std.specs.Prelude.{Ok, Err}

-- The end, from its count on.
module _ (s : List ℕ) (at rows : ℕ) (book : Book) where
  pub end_cut : length s < at + 4 → end_element s at rows book ≡ no 1 at
  unfolding finish_at
  end_cut h = rw (number_no s at 4 h) refl

  module _ (h : at + 4 ≤ length s) where
    pub end_other : (be 4 s at ≡ rows → ⊥) → end_element s at rows book ≡ no 15 at
    unfolding finish_at
    end_other e = rw (number_ok s at 4 h, ne_eqb (be 4 s at) rows e) refl

    module _ (e : be 4 s at ≡ rows) where
      pub end_untimed : length s < at + 4 + 8 → end_element s at rows book ≡ no 1 (at + 4)
      unfolding finish_at
      end_untimed g = rw (number_ok s at 4 h, eq-eqb (be 4 s at) rows e, number_no s (at + 4) 8 g) refl

      pub end_more : at + 4 + 8 ≤ length s → (at + 4 + 8 ≡ length s → ⊥) → end_element s at rows book ≡ no 16 (at + 4 + 8)
      unfolding finish_at
      end_more g f = rw (number_ok s at 4 h, eq-eqb (be 4 s at) rows e, number_ok s (at + 4) 8 g, ne_eqb (at + 4 + 8) (length s) f) refl

      pub end_whole : at + 4 + 8 ≡ length s
          → end_element s at rows book ≡ ok (record { element = finish (be 4 s at) (be 8 s (at + 4)); rows = rows; book = book }) (at + 4 + 8)
      unfolding finish_at
      end_whole f = rw (number_ok s at 4 h, eq-eqb (be 4 s at) rows e, number_ok s (at + 4) 8 (omega arith), eq-eqb (at + 4 + 8) (length s) f) refl

-- What was looked up of the number that stands at a place.
pub looked_at : (s : List ℕ) (at : ℕ) (in_s : List ℕ) (looked : Looked) (used : ℕ) (book : Book) → Over s at in_s looked used book → at + 4 ≤ length s
    → (x : Looked) → looked ≡ x → Looks in_s (be 4 s at) book x
looked_at s at in_s looked used book o h x e = subst (Looks in_s (be 4 s at) book) e (subst (λ (n : ℕ). Looks in_s n book looked) (o.is h) o.looks)

-- A row, from its layout's number on.
module _ (s : List ℕ) (at rows : ℕ) (book : Book) where
  pub row_refused : (n p : ℕ) → row_at book s at ≡ no n p → row_element s at rows book ≡ no n p
  row_refused n p e = rw e refl

  pub row_told : (stated : Bool) (count next : ℕ) → Shaped s at (row_at book s at) stated count next
      → tells (row_element s at rows book) ≡ Ok (record { met = met.Row (be 4 s at) stated count; next = next; rows = rows + 1; used = length (book_image book) })
  row_told stated count next r = rw (r.is, r.number, r.stated, r.counts) refl

-- A layout, from its number on.
module _ (s : List ℕ) (at rows : ℕ) (book : Book) where
  module _ (l : Layout) (next : ℕ) (e : layout_at s at ≡ ok l next) where
    pub layout_unlearnt : (n p : ℕ) → learn book l at ≡ no n p → layout_element s at rows book ≡ no n p
    layout_unlearnt n p f = rw (e, f) refl

    pub layout_learnt : (more : Book) (x : ℕ) → learn book l at ≡ ok more x
        → layout_element s at rows book ≡ ok (record { element = item (layout l); rows = rows; book = more }) next
    layout_learnt more x f = rw (e, f) refl

-- One element, by its kind.
module _ (s : List ℕ) (at rows : ℕ) (book : Book) where
  pub element_cut : length s < at + 4 → element_at s at rows book ≡ no 1 at
  unfolding element_at
  element_cut h = rw (number_no s at 4 h) refl

  module _ (h : at + 4 ≤ length s) where
    pub element_layout : be 4 s at ≡ 1 → element_at s at rows book ≡ layout_element s (at + 4) rows book
    unfolding element_at
    element_layout e = rw (number_ok s at 4 h, e) refl

    pub element_row : be 4 s at ≡ 2 → element_at s at rows book ≡ row_element s (at + 4) rows book
    unfolding element_at
    element_row e = rw (number_ok s at 4 h, e) refl

    pub element_end : be 4 s at ≡ 3 → element_at s at rows book ≡ end_element s (at + 4) rows book
    unfolding element_at
    element_end e = rw (number_ok s at 4 h, e) refl

    pub element_other : (be 4 s at ≡ 1 → ⊥) → (be 4 s at ≡ 2 → ⊥) → (be 4 s at ≡ 3 → ⊥) → element_at s at rows book ≡ no 7 at
    unfolding element_at
    element_other a b c = rw (number_ok s at 4 h, ne_eqb (be 4 s at) 1 a, ne_eqb (be 4 s at) 2 b, ne_eqb (be 4 s at) 3 c) refl

-- Lent octets that hold a book hold it as they are, so that what keeps the book keeps them.
pub holding_lent : (octets : List ℕ) (used : ℕ) (book : Book) → Lent octets used book → holding book octets ≡ octets
holding_lent octets used book l = rw (l.size, l.image) (take-append-drop used octets)

pub holding_same : (octets : List ℕ) (used : ℕ) → Each Octet octets → IsBook octets used → holding (book_in octets used) octets ≡ octets
holding_same octets used o is = holding_lent octets used (book_in octets used) (lent_book_lem octets used o is)

-- The reading that a step tells of.
pub record Told (r : Read Stepped) (step : Step) : Type 0 where
  pub stepped : Stepped
  pub next : ℕ
  pub reads : r ≡ ok stepped next
  pub is : step_of stepped next ≡ step

pub told : (r : Read Stepped) (step : Step) → tells r ≡ Ok step → Told r step
told (ok st next) step e = record { stepped = st; next = next; reads = refl; is = (let same : step_of st next ≡ step = cc in same) }
told (no n p) step e = absurd (let z : ◌≡◌ {A = ℕ} 0 1 = cc in omega arith)

-- How much of the book is used behind it.
pub told_used : {r : Read Stepped} {step : Step} (t : Told r step) → length (book_image t.stepped.book) ≡ step.used
told_used t = ap (λ (x : Step). x.used) t.is

pub refusing : (r : Read Stepped) (e : Refusal) → tells r ≡ Err e → r ≡ no e.number e.place
refusing (ok st next) e h = absurd (let z : ◌≡◌ {A = ℕ} 0 1 = cc in omega arith)
refusing (no n p) e h =
    let same : ◌≡◌ {A = Refusal} (record { number = n; place = p }) e = cc in
    rw (← same) refl
