-- Laws of looking a number up in a book.
use Prim.Native.Nat.{ℕ, ◌+◌, ◌≤◌}
use mathlib.Core.Path.{◌≡◌, refl, sym, ◌∙◌, ap, subst}
use mathlib.Core.List.Memᴰ
use mathlib.Core.List.{[], ◌∷◌, ◌++◌, Memᴰ}
use mathlib.Core.Bool.{Bool, true, false}
use mathlib.Core.Option.{Option, some, none}
use mathlib.Core.Logic.{◌⊎◌, inl, inr}
use native.Mathlib.Omega.{arith}
use lib.ListN.{length, length-append}
use lib.Dec.{eqb}
use borrow.Author.Tests.{eqb-true, eqb-false}
use Rattle.octets.specs.Writing.{images, Each}
use Rattle.layouts.specs.Layout.{Layout, layout_image}
use Rattle.layouts.specs.Book.{Book, find, is_none, book_image, Distinct}

pub none_some : {A : Type 0} {a : A} {o : Option A} → o ≡ none → o ≡ some a → ⊥
none_some p q = let z : ◌≡◌ {A = ℕ} 0 1 = cc in omega arith

pub absent : {A : Type 0} (o : Option A) → is_none o ≡ true → o ≡ none
absent none e = refl
absent (some a) e = absurd (let z : ◌≡◌ {A = ℕ} 0 1 = cc in omega arith)

pub some_same : {A : Type 0} {a b : A} {o : Option A} → o ≡ some a → o ≡ some b → a ≡ b
some_same p q = cc

-- A look at the first layout.
abbrev pub First : ℕ → Layout → Book → Type 0
First n l r = ((n ≡ l.number) × (find n (l ∷ r) ≡ some l)) ⊎ ((n ≡ l.number → ⊥) × (find n (l ∷ r) ≡ find n r))

pub first : (n : ℕ) (l : Layout) (r : Book) → First n l r
unfolding find
first n l r = go (eqb n l.number) refl
  where
    go : (b : Bool) → eqb n l.number ≡ b → First n l r
    go true e = inl (eqb-true _ _ e, rw e)
    go false e = inr (eqb-false _ _ e, rw e)

pub find_here : (n : ℕ) (l : Layout) (r : Book) → n ≡ l.number → find n (l ∷ r) ≡ some l
find_here n l r e = go (first n l r)
  where
    go : First n l r → find n (l ∷ r) ≡ some l
    go (inl h) = h.1
    go (inr h) = absurd (h.0 e)

pub find_skip : (n : ℕ) (l : Layout) (r : Book) → (n ≡ l.number → ⊥) → find n (l ∷ r) ≡ find n r
find_skip n l r e = go (first n l r)
  where
    go : First n l r → find n (l ∷ r) ≡ find n r
    go (inl h) = absurd (e h.0)
    go (inr h) = h.1

pub find_nil : (n : ℕ) → find n [] ≡ none
unfolding find
find_nil n = refl

-- What is found has the number.
pub find_number : (n : ℕ) (book : Book) (m : Layout) → find n book ≡ some m → m.number ≡ n
find_number n [] m e = absurd (none_some (find_nil n) e)
find_number n (l ∷ r) m e = go (find_number n r m) (first n l r)
  where
    go : (find n r ≡ some m → m.number ≡ n) → First n l r → m.number ≡ n
    go again (inl h) = let q : l ≡ m = some_same h.1 e in cc
    go again (inr h) = again (sym h.1 ∙ e)

-- A number found in the front part.
pub find_front : (n : ℕ) (b c : Book) (m : Layout) → find n b ≡ some m → find n (b ++ c) ≡ some m
find_front n [] c m e = absurd (none_some (find_nil n) e)
find_front n (l ∷ r) c m e = go (find_front n r c m) (first n l r)
  where
    go : (find n r ≡ some m → find n (r ++ c) ≡ some m) → First n l r → find n (l ∷ (r ++ c)) ≡ some m
    go again (inl h) = find_here n l (r ++ c) h.0 ∙ (sym h.1 ∙ e)
    go again (inr h) = find_skip n l (r ++ c) h.0 ∙ again (sym h.1 ∙ e)

-- A number that is not in the front part.
pub find_behind : (n : ℕ) (b c : Book) → find n b ≡ none → find n (b ++ c) ≡ find n c
find_behind n [] c e = refl
find_behind n (l ∷ r) c e = go (find_behind n r c) (first n l r)
  where
    go : (find n r ≡ none → find n (r ++ c) ≡ find n c) → First n l r → find n (l ∷ (r ++ c)) ≡ find n c
    go again (inl h) = absurd (none_some e h.1)
    go again (inr h) = find_skip n l (r ++ c) h.0 ∙ again (sym h.1 ∙ e)

-- All that is found in one book is found in another.
abbrev pub Within : Book → Book → Type 0
Within b c = (n : ℕ) (l : Layout) → find n b ≡ some l → find n c ≡ some l

pub within_front : (b c : Book) → Within b (b ++ c)
within_front b c n l e = find_front n b c l e

-- A layout behind a book.
pub within_snoc : (b c : Book) (l : Layout) → Within b c → find l.number c ≡ some l → Within (b ++ l ∷ []) c
within_snoc b c l w has n m e = go (find n b) refl
  where
    last : find n b ≡ none → First n l [] → find n c ≡ some m
    last o (inl h) = let q : l ≡ m = some_same (find_behind n b (l ∷ []) o ∙ h.1) e in ap (λ (k : ℕ). find k c) h.0 ∙ (has ∙ ap some q)
    last o (inr h) = absurd (none_some (find_behind n b (l ∷ []) o ∙ (h.1 ∙ find_nil n)) e)

    go : (o : Option Layout) → find n b ≡ o → find n c ≡ some m
    go none o = last o (first n l [])
    go (some k) o = let q : k ≡ m = some_same (find_front n b (l ∷ []) k o) e in w n m (o ∙ ap some q)

pub distinct_snoc : (b : Book) (l : Layout) → Distinct b → find l.number b ≡ none → Distinct (b ++ l ∷ [])
distinct_snoc [] l d e = (find_nil l.number, tt)
distinct_snoc (m ∷ r) l d e = go (distinct_snoc r l d.1) (first l.number m r)
  where
    go : (find l.number r ≡ none → Distinct (r ++ l ∷ [])) → First l.number m r → Distinct (m ∷ (r ++ l ∷ []))
    go again (inl h) = absurd (none_some e h.1)
    go again (inr h) = (find_behind m.number r (l ∷ []) d.0 ∙ (find_skip m.number l [] (λ q. h.0 (sym q)) ∙ find_nil m.number), again (sym h.1 ∙ e))

-- In a book of different numbers a layout's is not before it.
pub distinct_mid : (b : Book) (l : Layout) (c : Book) → Distinct (b ++ l ∷ c) → find l.number b ≡ none
distinct_mid [] l c d = find_nil l.number
distinct_mid (m ∷ b) l c d = go (distinct_mid b l c d.1) (first l.number m b)
  where
    go : find l.number b ≡ none → First l.number m b → find l.number (m ∷ b) ≡ none
    go again (inl h) = absurd (none_some (ap (λ (n : ℕ). find n (b ++ l ∷ c)) h.0 ∙ d.0) (find_behind l.number b (l ∷ c) again ∙ find_here l.number l c refl))
    go again (inr h) = h.1 ∙ again

-- What holds of each layout holds of the one found.
pub each_find : (P : Layout → Type 0) (n : ℕ) (b : Book) (l : Layout) → Each P b → find n b ≡ some l → P l
each_find P n [] l e f = absurd (none_some (find_nil n) f)
each_find P n (m ∷ b) l e f = go (each_find P n b l e.1) (first n m b)
  where
    go : (find n b ≡ some l → P l) → First n m b → P l
    go again (inl h) = subst P (some_same h.1 f) e.0
    go again (inr h) = again (sym h.1 ∙ f)

-- In a book of different numbers each layout is found by its number.
pub find_member : (b : Book) (l : Layout) → Distinct b → Memᴰ l b → find l.number b ≡ some l
find_member [] l d m = absurd (Memᴰ.not-nil m)
find_member (k ∷ r) l d m = go (find_member r l d.1) (Memᴰ.cases_cons m) (first l.number k r)
  where
    go : (Memᴰ l r → find l.number r ≡ some l) → (l ≡ k) ⊎ Memᴰ l r → First l.number k r → find l.number (k ∷ r) ≡ some l
    go again (inl q) f = find_here l.number k r (ap (λ (x : Layout). x.number) q) ∙ ap some (sym q)
    go again (inr i) (inl h) = absurd (none_some (ap (λ (x : ℕ). find x r) h.0 ∙ d.0) (again i))
    go again (inr i) (inr h) = h.1 ∙ again i

-- What is found is a member.
pub member_find : (n : ℕ) (b : Book) (l : Layout) → find n b ≡ some l → Memᴰ l b
member_find n [] l e = absurd (none_some (find_nil n) e)
member_find n (k ∷ r) l e = go (member_find n r l) (first n k r)
  where
    go : (find n r ≡ some l → Memᴰ l r) → First n k r → Memᴰ l (k ∷ r)
    go again (inl h) = Memᴰ.head (some_same e h.1)
    go again (inr h) = Memᴰ.tail (again (sym h.1 ∙ e))

-- Counting: a weight summed over a book.
abbrev pub total : (Layout → ℕ) → Book → ℕ
total w [] = 0
total w (l ∷ r) = w l + total w r

abbrev pub Rest : (Layout → ℕ) → ℕ → Layout → Book → Type 0
Rest w n l c = (d : Book) × (total w c ≡ w l + total w d) × ((k : ℕ) → (k ≡ n → ⊥) → find k c ≡ find k d)

-- A book without a layout that is found in it.
pub remove : (w : Layout → ℕ) (n : ℕ) (l : Layout) (c : Book) → find n c ≡ some l → Rest w n l c
remove w n l [] e = absurd (none_some (find_nil n) e)
remove w n l (m ∷ r) e = go (remove w n l r) (first n m r)
  where
    keep : (n ≡ m.number → ⊥) → (d : Book) → ((k : ℕ) → (k ≡ n → ⊥) → find k r ≡ find k d) → (k : ℕ) → (k ≡ n → ⊥) → First k m r → find k (m ∷ r) ≡ find k (m ∷ d)
    keep o d f k x (inl h) = h.1 ∙ sym (find_here k m d h.0)
    keep o d f k x (inr h) = h.1 ∙ (f k x ∙ sym (find_skip k m d h.0))

    go : (find n r ≡ some l → Rest w n l r) → First n m r → Rest w n l (m ∷ r)
    go again (inl h) = (r, ap (λ (x : Layout). w x + total w r) (some_same h.1 e), (λ k x. find_skip k m r (λ q. x (q ∙ sym h.0))))
    go again (inr h) =
        let t : Rest w n l r = again (sym h.1 ∙ e) in
        let q : total w r ≡ w l + total w t.0 = t.1 in
        (m ∷ t.0, omega arith, (λ k x. keep h.0 t.0 t.2 k x (first k m r)))

-- A book of different numbers within another weighs no more.
pub total_within : (w : Layout → ℕ) (b c : Book) → Distinct b → Within b c → total w b ≤ total w c
total_within w [] c d i = omega arith
total_within w (l ∷ r) c d i =
    go (λ c. total_within w r c d.1) (remove w l.number l c (i l.number l (find_here l.number l r refl)))
  where
    other : (k : ℕ) (m : Layout) → find k r ≡ some m → k ≡ l.number → ⊥
    other k m e q = none_some (ap (λ (x : ℕ). find x r) q ∙ d.0) e

    inside : (t : Rest w l.number l c) (k : ℕ) (m : Layout) → find k r ≡ some m → find k t.0 ≡ some m
    inside t k m e = sym (t.2 k (other k m e)) ∙ i k m (find_skip k l r (other k m e) ∙ e)

    go : ((c : Book) → Within r c → total w r ≤ total w c) → Rest w l.number l c → w l + total w r ≤ total w c
    go again t =
        let h : total w r ≤ total w t.0 = again t.0 (inside t) in
        let q : total w c ≡ w l + total w t.0 = t.1 in
        omega arith

pub total_length : (b : Book) → length b ≡ total (λ l. 1) b
total_length [] = refl
total_length (l ∷ r) = let h : length r ≡ total (λ x. 1) r = total_length r in omega arith

pub total_image : (b : Book) → length (book_image b) ≡ total (λ l. length (layout_image l)) b
unfolding book_image images
total_image [] = refl
total_image (l ∷ r) = rw length-append (ap (λ (x : ℕ). length (layout_image l) + x) (total_image r))
