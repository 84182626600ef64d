-- What the proofs about contracts share: arguments and contents are equal that are so one by one, a lent buffer is as it was where its content is, and what is stated by the cases of a reading is as it was behind a refusal. Assumes nothing.
use Prim.Native.Nat.{ℕ}
use mathlib.Core.Path.{◌≡◌, subst}
use denote.Ref.{MutBor, at_last}
use Rattle.octets.specs.Reading.{Read, ok, no}

infixr 5 ◌also◌
pub ◌also◌ : {A B : Type 0} {u v : A × B} → u.0 ≡ v.0 → u.1 ≡ v.1 → u ≡ v
p also q = λ i. (p i, q i)

pub put_back : {X : Type 0} {r : MutBor X} {w : X} → w ≡ r.now → at_last r w ≡ r
put_back {r = r} e = λ i. at_last r (e i)

-- What an answer tells of a reading, which answers are refusals, and what is left behind the reading.
pub as_it_was : {A B C : Type 0} (tells : Read A → B) (Refuses : B → Type 0) → ((a : A) (next : ℕ) → Refuses (tells (ok a next)) → ⊥) → (left : Read A → C) (lent : C)
    → ((n p : ℕ) → left (no n p) ≡ lent) → (r : Read A) (x : B) → x ≡ tells r → Refuses x → left r ≡ lent
as_it_was tells Refuses never left lent same (ok a next) x e h = absurd (never a next (subst Refuses e h))
as_it_was tells Refuses never left lent same (no n p) x e h = same n p
