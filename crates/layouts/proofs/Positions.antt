-- The position of a number in a book: that of the layout found under it, which stays where it is while the book grows.
use Prim.Native.Nat.{ℕ, zero, suc, ◌<◌}
use mathlib.Core.Path.{◌≡◌, refl, sym, ap, ◌∙◌}
use mathlib.Core.List.{[], ◌∷◌, ◌++◌}
use mathlib.Core.Bool.{Bool, true, false}
use mathlib.Core.Option.{some, none}
use native.Mathlib.Omega.{arith}
use lib.ListN.{length, get_or}
use lib.Dec.{eqb}
use borrow.Author.Tests.{eqb-true, eq-eqb, ne_eqb}
use Rattle.octets.specs.Reading.{choose}
use Rattle.layouts.specs.Layout.{Layout}
use Rattle.layouts.specs.Book.{Book, find, numbers_of, position, Distinct}
use Rattle.layouts.proofs.Finding.{none_some}

-- The layout that is found stands at the number's position, and nothing does where there is none.
pub position_found : (n : ℕ) (b : Book) (l : Layout) → find n b ≡ some l → (position n b < length b) × (get_or (numbers_of b) (position n b) 0 ≡ n)
unfolding find position
position_found n [] l e = absurd (none_some refl e)
position_found n (m ∷ r) l e = go (eqb n m.number) refl e (λ h. position_found n r l h)
  where
    go : (t : Bool) → eqb n m.number ≡ t → choose t (λ _. some m) (λ _. find n r) ≡ some l
        → (find n r ≡ some l → (position n r < length r) × (get_or (numbers_of r) (position n r) 0 ≡ n))
        → (choose t (λ _. 0) (λ _. suc (position n r)) < suc (length r)) × (get_or (numbers_of (m ∷ r)) (choose t (λ _. 0) (λ _. suc (position n r))) 0 ≡ n)
    go true q e again = (omega arith, sym (eqb-true n m.number q))
    go false q e again = let (h, k) = again e in (omega arith, k)

pub position_none : (n : ℕ) (b : Book) → find n b ≡ none → position n b ≡ length b
unfolding find position
position_none n [] e = refl
position_none n (m ∷ r) e = go (eqb n m.number) e (λ h. position_none n r h)
  where
    go : (t : Bool) → choose t (λ _. some m) (λ _. find n r) ≡ none → (find n r ≡ none → position n r ≡ length r)
        → choose t (λ _. 0) (λ _. suc (position n r)) ≡ suc (length r)
    go true e again = absurd (none_some e refl)
    go false e again = ap (λ (j : ℕ). suc j) (again e)

-- A book that grows keeps it.
pub position_front : (n : ℕ) (b c : Book) (l : Layout) → find n b ≡ some l → position n (b ++ c) ≡ position n b
unfolding find position
position_front n [] c l e = absurd (none_some refl e)
position_front n (m ∷ r) c l e = go (eqb n m.number) e (λ h. position_front n r c l h)
  where
    go : (t : Bool) → choose t (λ _. some m) (λ _. find n r) ≡ some l → (find n r ≡ some l → position n (r ++ c) ≡ position n r)
        → choose t (λ _. 0) (λ _. suc (position n (r ++ c))) ≡ choose t (λ _. 0) (λ _. suc (position n r))
    go true e again = refl
    go false e again = ap (λ (j : ℕ). suc j) (again e)

-- A layout learnt stands behind all others.
pub position_new : (n : ℕ) (b : Book) (l : Layout) → find n b ≡ none → n ≡ l.number → position n (b ++ l ∷ []) ≡ length b
unfolding find position
position_new n [] l e q = rw (eq-eqb n l.number q) refl
position_new n (m ∷ r) l e q = go (eqb n m.number) e (λ h. position_new n r l h q)
  where
    go : (t : Bool) → choose t (λ _. some m) (λ _. find n r) ≡ none → (find n r ≡ none → position n (r ++ l ∷ []) ≡ length r)
        → choose t (λ _. 0) (λ _. suc (position n (r ++ l ∷ []))) ≡ suc (length r)
    go true e again = absurd (none_some e refl)
    go false e again = ap (λ (j : ℕ). suc j) (again e)

-- The numbers settle what is found: none where none of them is this one; and where they differ, an index that has it is its position.
pub lacks_none : (n : ℕ) (b : Book) → ((i : ℕ) → i < length b → get_or (numbers_of b) i 0 ≡ n → ⊥) → find n b ≡ none
unfolding find
lacks_none n [] h = refl
lacks_none n (m ∷ r) h = rw (ne_eqb n m.number (λ e. h 0 (omega arith) (sym e))) (lacks_none n r (λ i l e. h (suc i) (omega arith) e))

-- The layout at an index.
pub at_index : (b : Book) (i : ℕ) → i < length b → Distinct b → (l : Layout) × (find (get_or (numbers_of b) i 0) b ≡ some l) × (position (get_or (numbers_of b) i 0) b ≡ i)
unfolding find position
at_index [] i h d = absurd (omega arith)
at_index (m ∷ r) zero h d = (m, rw (eq-eqb m.number m.number refl) refl, rw (eq-eqb m.number m.number refl) refl)
at_index (m ∷ r) (suc i) h d =
    let (l, f, p) = at_index r i (omega arith) d.1 in
    let n : ℕ = get_or (numbers_of r) i 0 in
    let other : n ≡ m.number → ⊥ = λ e. none_some d.0 (ap (λ (k : ℕ). find k r) (sym e) ∙ f) in
    (l, rw (ne_eqb n m.number other) f, rw (ne_eqb n m.number other) (ap (λ (j : ℕ). suc j) p))
