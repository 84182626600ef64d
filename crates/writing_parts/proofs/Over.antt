-- Octets laid over a list: nothing, one run behind another, what keeps its length and what stands behind; and what is left of a room. Assumes nothing.
use mathlib.Core.Path.{◌≡◌, refl, sym, ap, ◌∙◌}
use mathlib.Core.List.{List, [], ◌++◌, append_assoc}
use mathlib.Core.Bool.{Bool, true, false}
use Prim.Native.Nat.{ℕ, ◌+◌, ◌-◌, ◌≤◌, ◌<◌}
use native.Mathlib.Omega.{arith}
use native.Mathlib.Nat.{add-zero, add_assoc}
use lib.ListN.{length, take, drop, length-append, length-take, length-drop, take-append-drop}
use lib.Seq.{length-take-le, drop-append-add, drop-drop, take_at, drop_at}
use lib.Dec.{leb}
use borrow.Author.Tests.{leb-true, leb-false, le-leb, lt-leb}
use Rattle.octets.specs.Writing.{over}

pub over_nil : (s : List ℕ) (at : ℕ) → over s at [] ≡ s
unfolding over
over_nil s at = rw (add-zero at) (take-append-drop at s)

pub over_length : (s : List ℕ) (at : ℕ) (xs : List ℕ) → at + length xs ≤ length s → length (over s at xs) ≡ length s
unfolding over
over_length s at xs h = simp (length-append, length-take, length-drop) (omega arith)

-- What stands behind is as it was.
pub over_behind : (s : List ℕ) (at : ℕ) (xs : List ℕ) (k : ℕ) → at + length xs ≤ length s → at + length xs ≤ k → drop k (over s at xs) ≡ drop k s
unfolding over
over_behind s at xs k h m =
    let front : length (take at s ++ xs) ≡ at + length xs = simp (length-append, length-take) (omega arith) in
    let far : k ≡ length (take at s ++ xs) + (k - (at + length xs)) = omega arith in
    let near : at + length xs + (k - (at + length xs)) ≡ k = omega arith in
    ap (drop k) (sym (append_assoc (take at s) xs (drop (at + length xs) s)))
    ∙ (ap (λ (n : ℕ). drop n ((take at s ++ xs) ++ drop (at + length xs) s)) far
    ∙ (drop-append-add (take at s ++ xs) (drop (at + length xs) s) (k - (at + length xs))
    ∙ (drop-drop (k - (at + length xs)) (at + length xs) s ∙ ap (λ (n : ℕ). drop n s) near)))

-- One run behind another.
pub over_over : (s a b : List ℕ) (at : ℕ) → at + length a ≤ length s → over (over s at a) (at + length a) b ≡ over s at (a ++ b)
unfolding over
over_over s a b at h =
    let k = at + length a in
    let d = drop k s in
    let ys : List ℕ = take at s ++ (a ++ d) in
    let re : ys ≡ (take at s ++ a) ++ d = sym (append_assoc (take at s) a d) in
    let len : length (take at s ++ a) ≡ k = simp (length-append, length-take-le at s (omega arith)) in
    let t : take k ys ≡ take at s ++ a = ap (take k) re ∙ take_at (take at s ++ a) d k len in
    let u : drop k ys ≡ d = ap (drop k) re ∙ drop_at (take at s ++ a) d k len in
    let w : drop (k + length b) ys ≡ drop (k + length b) s = sym (drop-drop (length b) k ys) ∙ (ap (drop (length b)) u ∙ drop-drop (length b) k s) in
    simp (t, w) (simp (length-append, append_assoc, add_assoc))

pub length_three : (a b c : List ℕ) → length (a ++ (b ++ c)) ≡ length a + (length b + length c)
length_three a b c = simp length-append

pub over_three : (s a b c : List ℕ) (at : ℕ) → at + (length a + (length b + length c)) ≤ length s
    → over (over (over s at a) (at + length a) b) (at + length a + length b) c ≡ over s at (a ++ (b ++ c))
over_three s a b c at h =
    let l : length (over s at a) ≡ length s = over_length s at a (omega arith) in
    over_over (over s at a) b c (at + length a) (omega arith) ∙ over_over s a (b ++ c) at (omega arith)

-- A test against what is left is a test of the sum.
pub sub_leb : (a h p : ℕ) → h ≤ p → leb a (p - h) ≡ leb (a + h) p
sub_leb a h p l = go (leb a (p - h)) refl
  where
    go : (t : Bool) → leb a (p - h) ≡ t → leb a (p - h) ≡ leb (a + h) p
    go true e = let f : a ≤ p - h = leb-true a (p - h) e in rw e (sym (le-leb (a + h) p (omega arith)))
    go false e = let f : p - h < a = leb-false a (p - h) e in rw e (sym (lt-leb (a + h) p (omega arith)))
