-- Tallies, marks and plans of a book's layouts: how each grows by one layout, and what a mark that is a row's number tells.
use Prim.Native.Nat.{ℕ, zero, suc, ◌+◌, ◌*◌, ◌%◌, ◌^◌, ◌≤◌, ◌<◌}
use mathlib.Core.Path.{◌≡◌, refl, sym, ap, ◌∙◌, subst}
use mathlib.Core.List.{List, [], ◌∷◌, ◌++◌}
use mathlib.Core.Bool.{Bool, true, false}
use mathlib.Core.Option.{some}
use native.Mathlib.Omega.{arith}
use lib.ListN.{length, get_or}
use borrow.Author.Tests.{leb-true, le-leb, eq-eqb, ne_eqb}
use native.Mathlib.Nat.{add-zero}
use Rattle.octets.specs.Reading.{choose}
use Rattle.octets.specs.Writing.{Each}
use Rattle.layouts.specs.Layout.{Layout, GoodLayout}
use Rattle.layouts.specs.Book.{Book, find, numbers_of, position, Distinct}
use Rattle.layouts.proofs.Finding.{none_some}
use Rattle.plans.specs.Plan.{plan_for, Begins}
use Rattle.walks.specs.Kept.{Tally, nothing, holds, grown, tallied, mark_of, marks, PlansFrom}

-- One layout more behind a book.
pub tallied_more : (t : Tally) (b : Book) (l : Layout) → tallied t (b ++ l ∷ []) ≡ grown (tallied t b) l
tallied_more t [] l = refl
tallied_more t (k ∷ b) l = tallied_more (grown t k) b l

pub marks_more : (t : Tally) (b : Book) (l : Layout) → marks t (b ++ l ∷ []) ≡ marks t b ++ mark_of (tallied t b) l ∷ []
marks_more t [] l = refl
marks_more t (k ∷ b) l = ap (λ (ms : List ℕ). mark_of t k ∷ ms) (marks_more (grown t k) b l)

pub marks_length : (t : Tally) (b : Book) → length (marks t b) ≡ length b
marks_length t [] = refl
marks_length t (l ∷ b) = ap (λ (n : ℕ). suc n) (marks_length (grown t l) b)

-- Every layout is counted, and plans leave eight steps to each that may follow.
pub tallied_known : (t : Tally) (b : Book) → (tallied t b).known ≡ t.known + length b
tallied_known t [] = omega arith
tallied_known t (l ∷ b) = omega (arith, tallied_known (grown t l) b)

pub grown_filled : (t : Tally) (l : Layout) → (t.filled ≤ (grown t l).filled) × (t.filled ≤ 704 + t.known * 8 → (grown t l).filled ≤ 704 + (grown t l).known * 8)
grown_filled t l = go (holds t l) refl
  where
    go : (b : Bool) → holds t l ≡ b → (t.filled ≤ (grown t l).filled) × (t.filled ≤ 704 + t.known * 8 → (grown t l).filled ≤ 704 + (grown t l).known * 8)
    go true e = let h = leb-true (t.filled + length (plan_for l)) (712 + t.known * 8) e in rw e (omega arith, λ _. omega arith)
    go false e = rw e (omega arith, λ h. omega arith)

pub tallied_filled : (t : Tally) (b : Book) → (t.filled ≤ (tallied t b).filled) × (t.filled ≤ 704 + t.known * 8 → (tallied t b).filled ≤ 704 + (tallied t b).known * 8)
tallied_filled t [] = (omega arith, λ h. h)
tallied_filled t (l ∷ b) =
    let (low, high) = grown_filled t l in
    let (more, all) = tallied_filled (grown t l) b in
    (omega arith, λ h. all (high h))

pub tally_bounds : (t : Tally) (b : Book) → t ≡ tallied nothing b → (t.known ≡ length b) × (64 ≤ t.filled) × (t.filled ≤ 704 + t.known * 8)
tally_bounds t b e =
    let (low, high) = tallied_filled nothing b in
    let top : (tallied nothing b).filled ≤ 704 + (tallied nothing b).known * 8 = high (omega arith) in
    rw e (omega (arith, tallied_known nothing b), low, top)

-- Of eight steps every layout is sure, whatever came before it.
pub eight_held : (t : Tally) (b : Book) (l : Layout) → t ≡ tallied nothing b → length (plan_for l) ≤ 8 → holds t l ≡ true
eight_held t b l e h = le-leb (t.filled + length (plan_for l)) (712 + t.known * 8) (omega (arith, tally_bounds t b e))

-- A mark is a number, or over 2 ^ 32 where there is no plan: so without what was added it is the layout's number.
low : (t : Tally) (l : Layout) → l.number < 2 ^ 32 → mark_of t l % 4294967296 ≡ l.number
low t l h = go (holds t l)
  where
    go : (b : Bool) → choose b (λ _. l.number) (λ _. l.number + 4294967296) % 4294967296 ≡ l.number
    go true = omega arith
    go false = omega arith

pub marks_low : (t : Tally) (b : Book) (i : ℕ) → Each GoodLayout b → i < length b → get_or (marks t b) i 0 % 4294967296 ≡ get_or (numbers_of b) i 0
marks_low t [] i g h = absurd (omega arith)
marks_low t (l ∷ b) zero g h = low t l g.0.number
marks_low t (l ∷ b) (suc i) g h = marks_low (grown t l) b i g.1 (omega arith)

-- A mark that is a number of 32 bits is the number of a layout that has a plan.
pub record Marked (steps : List ℕ) (base : ℕ) (b : Book) (n i : ℕ) : Type 0 where
  pub layout : Layout
  pub found : find n b ≡ some layout
  pub index : position n b ≡ i
  pub stands : Begins steps (get_or steps (base + i) 0) (plan_for layout)

pub marked_at : (steps : List ℕ) (t : Tally) (b : Book) (i n : ℕ) → Distinct b → Each GoodLayout b → PlansFrom steps t b → i < length b → n < 2 ^ 32 → get_or (marks t b) i 0 ≡ n
    → Marked steps t.known b n i
unfolding find position
marked_at steps t [] i n d g p h small e = absurd (omega arith)
marked_at steps t (l ∷ b) zero n d g p h small e = go (holds t l) refl e
  where
    go : (x : Bool) → holds t l ≡ x → choose x (λ _. l.number) (λ _. l.number + 4294967296) ≡ n → Marked steps t.known (l ∷ b) n 0
    go false q e = absurd (omega arith)
    go true q e =
        let (here, stands) = p.0 q in
        record {
          layout = l;
          found = rw (eq-eqb n l.number (sym e)) refl;
          index = rw (eq-eqb n l.number (sym e)) refl;
          stands = rw (add-zero t.known, here) stands;
        }
marked_at steps t (l ∷ b) (suc i) n d g p h small e =
    let m = marked_at steps (grown t l) b i n d.1 g.1 p.1 (omega arith) small e in
    let other : n ≡ l.number → ⊥ = λ q. none_some d.0 (ap (λ (k : ℕ). find k b) (sym q) ∙ m.found) in
    record {
      layout = m.layout;
      found = rw (ne_eqb n l.number other) m.found;
      index = rw (ne_eqb n l.number other) (ap (λ (j : ℕ). suc j) m.index);
      stands = subst (λ (k : ℕ). Begins steps (get_or steps k 0) (plan_for m.layout)) (omega arith) m.stands;
    }

-- Plans stay where the steps that say where they stand do, and those from 64 to the end of the last plan.
pub plans_stay : (steps steps₁ : List ℕ) (t : Tally) (b : Book) → 64 ≤ t.filled
    → ((i : ℕ) → i < (tallied t b).known → get_or steps₁ i 0 ≡ get_or steps i 0)
    → ((at : ℕ) (xs : List ℕ) → 64 ≤ at → at + length xs ≤ (tallied t b).filled → Begins steps at xs → Begins steps₁ at xs)
    → PlansFrom steps t b → PlansFrom steps₁ t b
plans_stay steps steps₁ t [] low says stays p = tt
plans_stay steps steps₁ t (l ∷ b) low says stays p =
    (first, plans_stay steps steps₁ (grown t l) b (omega (arith, grown_filled t l)) says stays p.1)
  where
    first : holds t l ≡ true → (get_or steps₁ t.known 0 ≡ t.filled) × Begins steps₁ t.filled (plan_for l)
    first q =
        let (here, stands) = p.0 q in
        let end : (grown t l).filled ≡ t.filled + length (plan_for l) = rw q refl in
        (says t.known (omega (arith, tallied_known (grown t l) b)) ∙ here, stays t.filled (plan_for l) low (omega (arith, tallied_filled (grown t l) b)) stands)

-- One plan more, or a layout without one.
pub plans_more : (steps : List ℕ) (t : Tally) (b : Book) (l : Layout) → PlansFrom steps t b
    → (holds (tallied t b) l ≡ true → (get_or steps (tallied t b).known 0 ≡ (tallied t b).filled) × Begins steps (tallied t b).filled (plan_for l))
    → PlansFrom steps t (b ++ l ∷ [])
plans_more steps t [] l p h = (h, tt)
plans_more steps t (k ∷ b) l p h = (p.0, plans_more steps (grown t k) b l p.1 h)
