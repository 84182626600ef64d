-- Texts put one behind another: what is printed by two calls is the one text and then the other.
use mathlib.Core.Path.{◌≡◌, refl, sym, ap, ◌∙◌, subst}
use mathlib.Core.List.{List, [], ◌∷◌, ◌++◌, append_assoc, append-nil}
use Prim.Native.Nat.{ℕ, ◌+◌, ◌≤◌, ◌<◌}
use native.Mathlib.Omega.{arith}
use native.Mathlib.Numerals.{add-one}
use lib.ListN.{length, take, set, get_or}
use lib.Seq.{take-suc}
use borrow.Author.Tests.{lt-ltb, le-ltb, eq-eqb, ne_eqb}
use Rattle.octets.specs.Writing.{images}
use Rattle.printing.specs.Text.{Held, held, put, puts, Prints, showing}
use Rattle.printing.specs.declared.Show.TheVariants.{Plain}

-- A text and then another are put as the two in one.
puts_append : (h : Held) (a b : List ℕ) → puts h (a ++ b) ≡ puts (puts h a) b
unfolding puts
puts_append h [] b = refl
puts_append h (x ∷ a) b = puts_append (put h x) a b

module _ {before mid after : List ℕ} {n m r : ℕ} {a b : List ℕ} where
  pub then : Prints before n a mid m → Prints mid m b after r → Prints before n (a ++ b) after r
  then p q = record { is = q.is ∙ ap (λ (h : Held). puts h b) p.is ∙ sym (puts_append (held before n) a b) }

-- A text said in other words.
pub says : {before after : List ℕ} {n r : ℕ} {a b : List ℕ} → a ≡ b → Prints before n a after r → Prints before n b after r
says {before} {after} {n} {r} e p = subst (λ (text : List ℕ). Prints before n text after r) e p

module _ (out : List ℕ) (n : ℕ) where
  pub nothing : Prints out n [] out n
  unfolding puts
  nothing = record { is = refl }

  -- An octet where there is room, behind a buffer that was written out, and written out itself.
  pub inside : (x : ℕ) → n < length out → Prints out n (x ∷ []) (set out n x) (n + 1)
  unfolding puts put
  inside x h = record { is = rw (lt-ltb n (length out) h) refl }

  pub anew : (x : ℕ) → length out ≤ n → 0 < length out → Prints out n (x ∷ []) (set out 0 x) 1
  unfolding puts put
  anew x past h = record { is = rw (le-ltb n (length out) past, ne_eqb (length out) 0 (λ none. omega arith)) refl }

  pub away : (x : ℕ) → length out ≡ 0 → Prints out n (x ∷ []) out 0
  unfolding puts put
  away x none = record { is = rw (le-ltb n (length out) (omega arith), eq-eqb (length out) 0 none) refl }

-- One item more of a list of which each is shown.
module _ {A : Type 0} (f : A → List ℕ) where
  pub images_append : (xs ys : List A) → images f (xs ++ ys) ≡ images f xs ++ images f ys
  unfolding images
  images_append [] ys = refl
  images_append (x ∷ xs) ys = ap (λ (l : List ℕ). f x ++ l) (images_append xs ys) ∙ sym (append_assoc (f x) (images f xs) (images f ys))

  pub images_one : (x : A) → images f (x ∷ []) ≡ f x
  unfolding images
  images_one x = append-nil (f x)

  pub images_none : images f [] ≡ []
  unfolding images
  images_none = refl

  pub images_more : (xs : List A) (i : ℕ) (d : A) → i < length xs → images f (take (i + 1) xs) ≡ images f (take i xs) ++ f (get_or xs i d)
  images_more xs i d h =
      ap (λ (k : ℕ). images f (take k xs)) (add-one i) ∙ ap (images f) (take-suc xs i d h) ∙ images_append (take i xs) (get_or xs i d ∷ [])
      ∙ ap (λ (l : List ℕ). images f (take i xs) ++ l) (images_one (get_or xs i d))

-- Octets as they are.
pub plain : (xs : List ℕ) → showing Plain xs ≡ xs
unfolding images
plain [] = refl
plain (x ∷ xs) = ap (λ (l : List ℕ). x ∷ l) (plain xs)
