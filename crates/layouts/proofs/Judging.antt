-- What a book makes of a layout's octets: by what was found under its number, and back; and a layout of a book compared with two runs of octets, one behind the other.
use Rattle.std.specs.Prelude.{Result, Ok, Err}
use mathlib.Core.Path.{◌≡◌, refl, sym, ap, ◌∙◌}
use mathlib.Core.List.{List, [], ◌∷◌, ◌++◌}
use mathlib.Core.Bool.{Bool, true, false, ◌&&◌}
use mathlib.Core.Option.{Option, some, none}
use mathlib.Core.Logic.{◌⊎◌, inl, inr}
use Prim.Native.Nat.{ℕ, zero, suc, ◌+◌, ◌-◌, ◌≤◌, ◌<◌}
use native.Mathlib.Omega.{arith}
use lib.ListN.{length, take, drop, length-append, length-drop, get_or-append}
use lib.Seq.{take-add, drop-drop, length-take-le}
use lib.Dec.{leb, ltb, eqb}
use borrow.Author.Tests.{leb-true, ltb-true, lt-ltb, le-ltb, le-leb, lt-leb}
use Rattle.octets.specs.Limits.{book_room, most_layouts}
use Rattle.octets.specs.Reading.{ok, choose, be, same}
use Rattle.octets.specs.Writing.{Each, Octet}
use Rattle.octets.proofs.Copies.{same_lengths, same_true}
use Rattle.layouts.specs.Layout.{Layout, layout_at, layout_image}
use Rattle.layouts.specs.Book.{Book, find, book_image, learning_by, learning, learn_by, learn}
use Rattle.layouts.specs.Answers.{Judges}
use Rattle.layouts.specs.declared.Learning.{Learning}
use Rattle.layouts.specs.declared.Learning.TheVariants.{Known, New}
use Rattle.octets.specs.declared.Fault.{Fault}
use Rattle.octets.specs.declared.Fault.TheVariants.{Differs, BookFull}
use Rattle.layouts.proofs.Parts.{layout_number}
use Rattle.layouts.proofs.Lends.{layout_part}

module _ (book : Book) (used n : ℕ) (xs : List ℕ) where
  pub learning_same : (m : Layout) → find n book ≡ some m → same (layout_image m) xs ≡ true → learning book used n xs ≡ Ok Known
  learning_same m e h = rw (e, h) refl

  pub learning_other : (m : Layout) → find n book ≡ some m → same (layout_image m) xs ≡ false → learning book used n xs ≡ Err Differs
  learning_other m e h = rw (e, h) refl

  module _ (e : find n book ≡ none) where
    pub learning_many : most_layouts ≤ length book → learning book used n xs ≡ Err BookFull
    learning_many h = rw (e, le-ltb (length book) most_layouts h) refl

    pub learning_long : length book < most_layouts → book_room < used + length xs → learning book used n xs ≡ Err BookFull
    learning_long f h = rw (e, lt-ltb (length book) most_layouts f, lt-leb (used + length xs) book_room h) refl

    pub learning_new : length book < most_layouts → used + length xs ≤ book_room → learning book used n xs ≡ Ok (New (used + length xs))
    learning_new f h = rw (e, lt-ltb (length book) most_layouts f, le-leb (used + length xs) book_room h) refl

  -- What each answer says.
  abbrev pub Learned : Result Learning Fault → Type 0
  Learned (Ok Known) = (m : Layout) × (find n book ≡ some m) × (layout_image m ≡ xs)
  Learned (Ok (New v)) = (find n book ≡ none) × (length book < most_layouts) × (used + length xs ≤ book_room) × (v ≡ used + length xs)
  Learned (Err f) = (f ≡ Differs) ⊎ (f ≡ BookFull)

  pub learned : Learned (learning book used n xs)
  learned = go (find n book) refl
    where
      known : (m : Layout) → find n book ≡ some m → (t : Bool) → same (layout_image m) xs ≡ t → Learned (choose t (λ _. Ok Known) (λ _. Err Differs))
      known m e true h = (m, e, same_true _ _ h)
      known m e false h = inl refl

      new : find n book ≡ none → (t u : Bool) → ltb (length book) most_layouts ≡ t → leb (used + length xs) book_room ≡ u
          → Learned (choose (t && u) (λ _. Ok (New (used + length xs))) (λ _. Err BookFull))
      new e true true h k = (e, ltb-true _ _ h, leb-true _ _ k, refl)
      new e true false h k = inr refl
      new e false true h k = inr refl
      new e false false h k = inr refl

      go : (o : Option Layout) → find n book ≡ o → Learned (learning_by book used xs o)
      go (some m) e = known m e (same (layout_image m) xs) refl
      go none e = new e (ltb (length book) most_layouts) (leb (used + length xs) book_room) refl refl

-- What it makes of a layout is what learning the layout does.
pub judges : (book : Book) (l : Layout) (at : ℕ) → Judges (length (book_image book)) book l at (learning book (length (book_image book)) l.number (layout_image l))
unfolding learn
judges book l at = go (learning book (length (book_image book)) l.number (layout_image l)) refl (learned book (length (book_image book)) l.number (layout_image l))
  where
    go : (x : Result Learning Fault) → learning book (length (book_image book)) l.number (layout_image l) ≡ x → Learned book (length (book_image book)) l.number (layout_image l) x
        → Judges (length (book_image book)) book l at x
    go (Ok Known) e w = ap (learn_by book l at) e
    go (Ok (New v)) e w = (ap (learn_by book l at) e, w.3, rw w.3 w.2)
    go (Err f) e w = ap (learn_by book l at) e

-- Runs joined are the same where each is.
same_join : (a b c d : List ℕ) → length a ≡ length c → same (a ++ b) (c ++ d) ≡ same a c && same b d
same_join [] b [] d e = refl
same_join [] b (x ∷ c) d e = absurd (omega arith)
same_join (x ∷ a) b [] d e = absurd (omega arith)
same_join (x ∷ a) b (y ∷ c) d e = go (eqb x y) (same_join a b c d (omega arith))
  where
    go : (t : Bool) → same (a ++ b) (c ++ d) ≡ same a c && same b d → t && same (a ++ b) (c ++ d) ≡ (t && same a c) && same b d
    go true h = h
    go false h = refl

-- The layout at a place, which ends at another.
module _ (s : List ℕ) (at end : ℕ) (m : Layout) (o : Each Octet s) (e : layout_at s at ≡ ok m end) (front last : List ℕ) where
  pub stands_inside : (at ≤ end) × (end ≤ length s)
  stands_inside = let w = layout_part s at end m o (omega (arith, layout_number s at e)) e in (w.1, w.2)

  is_part : layout_image m ≡ take (end - at) (drop at s)
  is_part = sym (layout_part s at end m o (omega (arith, layout_number s at e)) e).3

  part_long : length (take (end - at) (drop at s)) ≡ end - at
  part_long = let w = stands_inside in length-take-le (end - at) (drop at s) (rw (length-drop at s) (omega arith))

  pub too_short : end - at < length front → same (layout_image m) (front ++ last) ≡ false
  too_short h =
      rw is_part (same_lengths (take (end - at) (drop at s)) (front ++ last)
      (λ q. let n : end - at ≡ length front + length last = sym part_long ∙ (q ∙ length-append front last) in omega arith))

  pub two_runs : length front ≤ end - at → (mid : ℕ) → mid ≡ at + length front
      → same (layout_image m) (front ++ last) ≡ same (take (mid - at) (drop at s)) front && same (take (end - mid) (drop mid s)) last
  two_runs h mid q =
      let w = stands_inside in
      let first : mid - at ≡ length front = omega arith in
      let whole : end - at ≡ (mid - at) + (end - mid) = omega arith in
      let there : at + (mid - at) ≡ mid = omega arith in
      let long : length (take (mid - at) (drop at s)) ≡ length front = length-take-le (mid - at) (drop at s) (rw (length-drop at s) (omega arith)) ∙ first in
      ap (λ (x : List ℕ). same x (front ++ last))
      (is_part ∙ (ap (λ (n : ℕ). take n (drop at s)) whole ∙ (take-add (mid - at) (end - mid) (drop at s)
      ∙ ap (λ (x : List ℕ). take (mid - at) (drop at s) ++ take (end - mid) x) (drop-drop (mid - at) at s ∙ ap (λ (n : ℕ). drop n s) there))))
      ∙ same_join (take (mid - at) (drop at s)) (take (end - mid) (drop mid s)) front last long

-- A number that stands in the first run.
pub be_front : (w : ℕ) (front last : List ℕ) (at : ℕ) → at + w ≤ length front → be w (front ++ last) at ≡ be w front at
unfolding be
be_front zero front last at h = refl
be_front (suc w) front last at h =
    let inside : at + w < length front = omega arith in
    rw (be_front w front last at (omega arith), get_or-append front last 0 (at + w) inside) refl
