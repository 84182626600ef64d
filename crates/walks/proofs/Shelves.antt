-- What numbers, places and steps that are kept tell of a book: the position of a number, the layout that stands at a place, and the plan of a number's layout.
use Prim.Native.Nat.{ℕ, suc, ◌+◌, ◌%◌, ◌^◌, ◌≤◌, ◌<◌}
use mathlib.Core.Path.{◌≡◌, refl, sym, ap, ◌∙◌, subst}
use mathlib.Core.List.{List, [], ◌∷◌}
use mathlib.Core.Bool.{Bool, true, false}
use mathlib.Core.Option.{Option, some, none}
use native.Mathlib.Omega.{arith}
use lib.ListN.{length, get_or, take}
use lib.Seq.{get_or-take}
use lib.Dec.{ltb, eqb}
use borrow.Author.Tests.{ltb-true, ltb-false}
use Rattle.octets.specs.Reading.{Read, ok, no, choose}
use Rattle.layouts.specs.Layout.{Layout, layout_at}
use Rattle.layouts.specs.Book.{Book, find, numbers_of, position}
use Rattle.layouts.specs.Answers.{StandsFor}
use Rattle.layouts.proofs.Positions.{position_found, position_none, lacks_none, at_index}
use Rattle.walks.specs.declared.Known.{Known}
use Rattle.walks.specs.Kept.{nothing, marks, as_option, standing, all, Numbered, Shelved, Planned, Lacks}
use Rattle.walks.proofs.Marks.{marks_low, Marked, marked_at}

-- What holds of no index below another, nor of that one, holds of none up to it.
pub none_more : (P : ℕ → Type 0) (k : ℕ) → ((i : ℕ) → i < k → P i → ⊥) → (P k → ⊥) → (i : ℕ) → i < k + 1 → P i → ⊥
none_more P k before here i h p = go (ltb i k) refl
  where
    go : (b : Bool) → ltb i k ≡ b → ⊥
    go true t = before i (ltb-true i k t) p
    go false t = let m = ltb-false i k t in let last : i ≡ k = omega arith in here (subst P last p)

-- The numbers known, without what was added, are those of the book: so an index that has a number is its position.
module _ (k : Known) (book : Book) (kept : Numbered k book) where
  marked : (i : ℕ) → i < k.count → get_or k.numbers i 0 ≡ get_or (marks nothing book) i 0
  marked i h = sym (get_or-take k.count k.numbers i 0 h) ∙ ap (λ (xs : List ℕ). get_or xs i 0) kept.marked

  number_at : (i : ℕ) → i < k.count → get_or k.numbers i 0 % 4294967296 ≡ get_or (numbers_of book) i 0
  number_at i h = ap (λ (m : ℕ). m % 4294967296) (marked i h) ∙ marks_low nothing book i kept.good.good (omega (arith, kept.count))

  pub at_position : (i n : ℕ) → i < k.count → get_or k.numbers i 0 % 4294967296 ≡ n → i ≡ position n book
  at_position i n h e =
      let (_, _, p) = at_index book i (omega (arith, kept.count)) kept.good.distinct in
      sym p ∙ ap (λ (m : ℕ). position m book) (sym (number_at i h) ∙ e)

  pub no_position : (n : ℕ) → ((i : ℕ) → i < k.count → get_or k.numbers i 0 % 4294967296 ≡ n → ⊥) → k.count ≡ position n book
  no_position n lacks =
      sym (position_none n book (lacks_none n book (λ i h e. let l : i < k.count = omega (arith, kept.count) in lacks i l (number_at i l ∙ e))) ∙ kept.count)

  -- A number that is not known as it is at its position is so nowhere.
  pub position_lacks : (i n : ℕ) → n < 2 ^ 32 → i ≡ position n book → (i < k.count → get_or k.numbers i 0 ≡ n → ⊥) → Lacks k n
  position_lacks i n small is other j h e =
      let same : i ≡ j = is ∙ sym (at_position j n h (omega (arith, e))) in
      other (omega arith) (ap (λ (m : ℕ). get_or k.numbers m 0) same ∙ e)

-- A number that is known as it is has a layout with a plan.
pub plan_at : (k : Known) (book : Book) → Planned k book → (i n : ℕ) → i < k.count → n < 2 ^ 32 → get_or k.numbers i 0 ≡ n → Marked k.steps 0 book n i
plan_at k book p i n h small e =
    let kept = p.numbered in
    marked_at k.steps nothing book i n kept.good.distinct kept.good.good p.plans (omega (arith, kept.count)) small (sym (marked k book kept i h) ∙ e)

-- Where the layout of a number stands, by its position; where its position is behind all, there is none.
as_some : (r : Read Layout) (l : Layout) → as_option r ≡ some l → (next : ℕ) × (r ≡ ok l next)
as_some (ok a next) l e = let same : a ≡ l = cc in (next, ap (λ (x : Layout). ok x next) same)
as_some (no n p) l e = absurd (let z : ◌≡◌ {A = ℕ} 0 1 = cc in omega arith)

stand_at : (shelf ps : List ℕ) (b : Book) (n : ℕ) → standing shelf ps ≡ all b → position n b < length b → StandsFor shelf n b (get_or ps (position n b) 0)
unfolding find position
stand_at shelf ps [] n e h = absurd (omega arith)
stand_at shelf [] (l ∷ b) n e h = absurd (let z : ◌≡◌ {A = ℕ} 0 1 = cc in omega arith)
stand_at shelf (p ∷ ps) (l ∷ b) n e h = go (eqb n l.number) refl h (λ k. stand_at shelf ps b n (cc) k)
  where
    go : (t : Bool) → eqb n l.number ≡ t → choose t (λ _. 0) (λ _. suc (position n b)) < suc (length b) → (position n b < length b → StandsFor shelf n b (get_or ps (position n b) 0))
        → StandsFor shelf n (l ∷ b) (get_or (p ∷ ps) (choose t (λ _. 0) (λ _. suc (position n b))) 0)
    go true q h again =
        let first : as_option (layout_at shelf p) ≡ some l = cc in
        let (next, reads) = as_some (layout_at shelf p) l first in
        record { layout = l; next = next; found = rw q refl; reads = reads }
    go false q h again =
        let s = again (omega arith) in
        record { layout = s.layout; next = s.next; found = rw q s.found; reads = s.reads }

pub shelf_at : (shelf : List ℕ) (k : Known) (book : Book) → Shelved shelf k book → length book ≡ k.count
    → (n i : ℕ) → i ≡ position n book → i < k.count → StandsFor shelf n book (get_or k.places i 0)
shelf_at shelf k book kept count n i is h =
    subst (StandsFor shelf n book) (ap (λ (j : ℕ). get_or (take k.count k.places) j 0) (sym is) ∙ get_or-take k.count k.places i 0 h)
    (stand_at shelf (take k.count k.places) book n kept.stands (omega arith))

pub shelf_none : (n : ℕ) (book : Book) → length book ≤ position n book → find n book ≡ none
shelf_none n book h = go (find n book) refl
  where
    go : (o : Option Layout) → find n book ≡ o → find n book ≡ none
    go none e = e
    go (some l) e = absurd (omega (arith, (position_found n book l e).0))
