-- What printing settles: no octet is lost, no more waits than the buffer holds, and the inputs allow one answer.
use mathlib.Core.Path.{◌≡◌, refl, sym, ap, ◌∙◌}
use mathlib.Core.List.{List, [], ◌∷◌, ◌++◌, append_assoc, append-nil}
use mathlib.Core.Bool.{Bool, true, false}
use Prim.Native.Nat.{ℕ, ◌≤◌, ◌<◌}
use native.Mathlib.Omega.{arith}
use native.Mathlib.Numerals.{add-one}
use lib.Dec.{ltb, eqb}
use lib.ListN.{length, take, set, length-set}
use lib.Seq.{take_all, take-suc-set, take-nil}
use borrow.Author.Tests.{ltb-true, ltb-false, eqb-true, eqb-false}
use Rattle.printing.specs.Text.{Held, held, waiting, put, goes, puts, gone, Prints}

abbrev size : Held → ℕ
size (held buffer n) = length buffer

abbrev count : Held → ℕ
count (held buffer n) = n

no_buffer : (buffer : List ℕ) (n : ℕ) → length buffer ≡ 0 → take n buffer ≡ []
no_buffer [] n none = take-nil n
no_buffer (x ∷ buffer) n none = absurd (omega arith)

-- One octet: what waited and it are what goes out and what waits then.
record One (h : Held) (x : ℕ) : Type 0 where
  none_lost : waiting h ++ x ∷ [] ≡ goes h x ++ waiting (put h x)
  long : size (put h x) ≡ size h
  few : count h ≤ size h → count (put h x) ≤ size h

one : (h : Held) (x : ℕ) → One h x
unfolding put goes
one (held buffer n) x = go (ltb n (length buffer)) (eqb (length buffer) 0) refl refl
  where
    go : (t u : Bool) → ltb n (length buffer) ≡ t → eqb (length buffer) 0 ≡ u → One (held buffer n) x
    go true u p q =
        let room : n < length buffer = ltb-true n (length buffer) p in
        record {
          none_lost = rw p (sym (take-suc-set buffer n x room) ∙ ap (λ (k : ℕ). take k (set buffer n x)) (sym (add-one n)));
          long = rw p (length-set buffer n x);
          few = rw p (λ few. omega arith);
        }
    go false true p q =
        let none : length buffer ≡ 0 = eqb-true (length buffer) 0 q in
        record { none_lost = rw (p, q) (ap (λ (l : List ℕ). l ++ x ∷ []) (no_buffer buffer n none)); long = rw (p, q) refl; few = rw (p, q) (λ few. omega arith) }
    go false false p q =
        let some : 0 < length buffer = omega (arith, eqb-false (length buffer) 0 q) in
        let past : length buffer ≤ n = ltb-false n (length buffer) p in
        record {
          none_lost = rw (p, q) (ap (λ (l : List ℕ). l ++ x ∷ []) (take_all n buffer past) ∙ ap (λ (l : List ℕ). buffer ++ l) (sym (take-suc-set buffer 0 x some)));
          long = rw (p, q) (length-set buffer 0 x);
          few = rw (p, q) (λ few. omega arith);
        }

-- A text: what waited and the text are what goes out and what waits then.
pub none_lost : (h : Held) (text : List ℕ) → waiting h ++ text ≡ gone h text ++ waiting (puts h text)
unfolding puts gone
none_lost h [] = append-nil (waiting h)
none_lost h (x ∷ xs) =
    sym (append_assoc (waiting h) (x ∷ []) xs) ∙ ap (λ (l : List ℕ). l ++ xs) (one h x).none_lost ∙ append_assoc (goes h x) (waiting (put h x)) xs
    ∙ ap (λ (l : List ℕ). goes h x ++ l) (none_lost (put h x) xs) ∙ sym (append_assoc (goes h x) (gone (put h x) xs) (waiting (puts (put h x) xs)))

puts_few : (h : Held) (text : List ℕ) → count h ≤ size h → count (puts h text) ≤ size h
unfolding puts
puts_few h [] few = few
puts_few h (x ∷ xs) few =
    let same = (one h x).long in
    let then : count (puts (put h x) xs) ≤ size (put h x) = puts_few (put h x) xs (omega (arith, (one h x).few few)) in
    omega arith

module _ {before text : List ℕ} {n : ℕ} {after : List ℕ} {r : ℕ} (p : Prints before n text after r) where
  pub waits_fit : n ≤ length before → r ≤ length before
  waits_fit few = omega (arith, ap count p.is, puts_few (held before n) text few)

  pub one_print : {other : List ℕ} {m : ℕ} → Prints before n text other m → (after ≡ other) × (r ≡ m)
  one_print {other} {m} q =
      let same : held after r ≡ held other m = p.is ∙ sym q.is in
      (cc, cc)
