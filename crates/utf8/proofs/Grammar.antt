-- The test says what the grammar says: `grammar`. Assumes nothing.
use Prim.Native.Nat.{ℕ}
use mathlib.Core.Path.{◌≡◌, refl, sym, ap, ◌∙◌, subst}
use mathlib.Core.List.{List, [], ◌∷◌, ◌++◌}
use mathlib.Core.Bool.{Bool, true, false}
use mathlib.Core.Option.{Option, some, none}
use mathlib.Core.Logic.{inl, inr}
use native.Mathlib.Omega.{arith}
use lib.Dec.{leb}
use borrow.Author.Tests.{leb-true}
use Rattle.octets.specs.Reading.{choose}
use Rattle.octets.specs.Writing.{images, Each}
use Rattle.octets.proofs.Copies.{both_true}
use Rattle.utf8.specs.Utf8.{Range, ◌‥◌, within, tail, forms, opens, spells, utf8}
use Rattle.utf8.specs.Grammar as rfc
use Rattle.utf8.proofs.Characters.{sides, alike, spells_none, wants}

never : {A : Type 0} → false ≡ true → A
never e = absurd (let z : ◌≡◌ {A = ℕ} 0 1 = cc in omega arith)

-- An octet that opens something opens a listed form.
record Opens (x : ℕ) (lines : List (List Range)) (rest : List Range) : Type 0 where
  pub range : Range
  pub listed : rfc.Among (range ∷ rest) lines
  pub first : within range x ≡ true

form_of : (x : ℕ) (lines : List (List Range)) (rest : List Range) → opens x lines ≡ some rest → Opens x lines rest
unfolding opens
form_of x [] rest e = absurd (let z : ◌≡◌ {A = ℕ} 0 1 = cc in omega arith)
form_of x ([] ∷ lines) rest e = let o = form_of x lines rest e in record { range = o.range; listed = inr o.listed; first = o.first }
form_of x ((r ∷ more) ∷ lines) rest e = go (within r x) refl e (form_of x lines rest)
  where
    go : (t : Bool) → within r x ≡ t → choose t (λ _. some more) (λ _. opens x lines) ≡ some rest → (opens x lines ≡ some rest → Opens x lines rest) → Opens x ((r ∷ more) ∷ lines) rest
    go true q e later = let same : more ≡ rest = cc in record { range = r; listed = inl (ap (λ (l : List Range). r ∷ l) same); first = q }
    go false q e later = let o = later e in record { range = o.range; listed = inr o.listed; first = o.first }

-- What is wanted, and the characters behind it.
record Split (rest : List Range) (xs : List ℕ) : Type 0 where
  pub front : List ℕ
  pub behind : List (List ℕ)
  pub fits : rfc.Fits rest front
  pub each : Each rfc.Character behind
  pub is : front ++ images (λ c. c) behind ≡ xs

split_end : (rest : List Range) → spells (some rest) [] ≡ true → Split rest []
unfolding spells images
split_end [] e = record { front = []; behind = []; fits = tt; each = tt; is = refl }
split_end (r ∷ rest) e = never e

split_octet : (x : ℕ) (xs : List ℕ) (rest : List Range) → ((more : List Range) → spells (some more) xs ≡ true → Split more xs)
    → spells (some rest) (x ∷ xs) ≡ true → Split rest (x ∷ xs)
unfolding spells images
split_octet x xs [] again e = go (opens x forms) refl e
  where
    go : (o : Option (List Range)) → opens x forms ≡ o → spells o xs ≡ true → Split [] (x ∷ xs)
    go none f e = never (sym (spells_none xs) ∙ e)
    go (some more) f e =
        let o = form_of x forms more f in
        let s = again more e in
        record {
          front = [];
          behind = (x ∷ s.front) ∷ s.behind;
          fits = tt;
          each = (record { form = o.range ∷ more; listed = o.listed; fits = (o.first, s.fits) }, s.each);
          is = ap (λ (l : List ℕ). x ∷ l) s.is;
        }
split_octet x xs (r ∷ rest) again e = go (within r x) refl e
  where
    go : (t : Bool) → within r x ≡ t → spells (choose t (λ _. some rest) (λ _. none)) xs ≡ true → Split (r ∷ rest) (x ∷ xs)
    go true f e =
        let s = again rest e in
        record { front = x ∷ s.front; behind = s.behind; fits = (f, s.fits); each = s.each; is = ap (λ (l : List ℕ). x ∷ l) s.is }
    go false f e = never (sym (spells_none xs) ∙ e)

split : (xs : List ℕ) (rest : List Range) → spells (some rest) xs ≡ true → Split rest xs
split [] rest e = split_end rest e
split (x ∷ xs) rest e = split_octet x xs rest (split xs) e

-- An octet of a form's first range opens that form: no two of them have an octet in common.
opens_form : (r : Range) (rest : List Range) → rfc.Among (r ∷ rest) forms → (x : ℕ) → within r x ≡ true → opens x forms ≡ some rest
unfolding opens
opens_form r rest among x e = go among
  where
    line : (a b : ℕ) (more : List Range) → a ‥ b ∷ more ≡ r ∷ rest → sides a forms ≡ sides b forms → opens a forms ≡ some more → opens x forms ≡ some rest
    line a b more q same o =
        let range : a ‥ b ≡ r = cc in
        let others : more ≡ rest = cc in
        let (low, high) = both_true (leb a x) (leb x b) (subst (λ (z : Range). within z x ≡ true) (sym range) e) in
        alike a b x same (leb-true a x low) (leb-true x b high) ∙ o ∙ ap some others

    go : rfc.Among (r ∷ rest) forms → opens x forms ≡ some rest
    go (inl q) = line 0x00 0x7f [] q refl refl
    go (inr (inl q)) = line 0xc2 0xdf (tail ∷ []) q refl refl
    go (inr (inr (inl q))) = line 0xe0 0xe0 (0xa0 ‥ 0xbf ∷ tail ∷ []) q refl refl
    go (inr (inr (inr (inl q)))) = line 0xe1 0xec (tail ∷ tail ∷ []) q refl refl
    go (inr (inr (inr (inr (inl q))))) = line 0xed 0xed (0x80 ‥ 0x9f ∷ tail ∷ []) q refl refl
    go (inr (inr (inr (inr (inr (inl q)))))) = line 0xee 0xef (tail ∷ tail ∷ []) q refl refl
    go (inr (inr (inr (inr (inr (inr (inl q))))))) = line 0xf0 0xf0 (0x90 ‥ 0xbf ∷ tail ∷ tail ∷ []) q refl refl
    go (inr (inr (inr (inr (inr (inr (inr (inl q)))))))) = line 0xf1 0xf3 (tail ∷ tail ∷ tail ∷ []) q refl refl
    go (inr (inr (inr (inr (inr (inr (inr (inr (inl q))))))))) = line 0xf4 0xf4 (0x80 ‥ 0x8f ∷ tail ∷ tail ∷ []) q refl refl
    go (inr (inr (inr (inr (inr (inr (inr (inr (inr q))))))))) = absurd q

-- A character in front is passed.
rest_passed : (rest : List Range) (front xs : List ℕ) → rfc.Fits rest front → spells (some rest) (front ++ xs) ≡ spells (some []) xs
rest_passed [] [] xs f = refl
rest_passed [] (x ∷ front) xs f = absurd f
rest_passed (r ∷ rest) [] xs f = absurd f
rest_passed (r ∷ rest) (x ∷ front) xs f = wants r rest x (front ++ xs) true f.0 ∙ rest_passed rest front xs f.1

passed : (form : List Range) (c xs : List ℕ) → rfc.Among form forms → rfc.Fits form c → spells (some []) (c ++ xs) ≡ spells (some []) xs
unfolding spells
passed [] [] xs a f = refl
passed [] (x ∷ c) xs a f = absurd f
passed (r ∷ rest) [] xs a f = absurd f
passed (r ∷ rest) (x ∷ c) xs a f = ap (λ (o : Option (List Range)). spells o (c ++ xs)) (opens_form r rest a x f.0) ∙ rest_passed rest c xs f.1

text : (cs : List (List ℕ)) → Each rfc.Character cs → spells (some []) (images (λ c. c) cs) ≡ true
unfolding spells images
text [] e = refl
text (c ∷ cs) (one, others) = passed one.form c (images (λ c. c) cs) one.listed one.fits ∙ text cs others

pub grammar : (xs : List ℕ) → rfc.Grammar xs
unfolding utf8
grammar xs = record { forth = λ e. whole (split xs [] e); back = λ t. ap (spells (some [])) (sym t.is) ∙ text t.characters t.each }
  where
    whole : Split [] xs → rfc.Text xs
    whole s = record { characters = s.behind; each = s.each; is = go s.front s.fits s.is }
      where
        go : (front : List ℕ) → rfc.Fits [] front → front ++ images (λ c. c) s.behind ≡ xs → images (λ c. c) s.behind ≡ xs
        go [] f e = e
        go (x ∷ front) f e = absurd f
