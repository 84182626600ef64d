-- What stands in a list from a place to another; octets; words.
use mathlib.Core.Path.{◌≡◌, refl, sym, ap, ◌∙◌, subst}
use mathlib.Core.List.{List, [], ◌∷◌, ◌++◌, append_assoc, append-nil}
use Prim.Native.Nat.{ℕ, zero, suc, ◌+◌, ◌*◌, ◌/◌, ◌%◌, ◌^◌, ◌≤◌, ◌<◌}
use native.Mathlib.Numerals.{add-one}
use native.Mathlib.Omega.{arith}
use native.Mathlib.Nat.{add-zero, add-suc, add_assoc, mul_assoc, zero-add, le_refl, pow-zero, pow-suc, div-lt_iff_lt-mul}
use lib.ListN.{length, take, drop, get_or, replicate, length-append, length-drop, take-append-drop}
use lib.Seq.{drop-cons, drop-append-le, drop-append_seam, drop-drop, drop-length, get_or-drop, length-take-le, take-append_seam}
use lib.Dec.{lit<}
use lib.Arith.{digits_lt, digits_div, digits_mod}
use mir.Val.{Fits}
use mir.Syntax.{w8}
use Rattle.octets.specs.Reading.{be, part}
use Rattle.octets.specs.Writing.{word, Each, Octet}

-- The octets xs are those of s from a place to the next, which is at most lim.
pub record Spans (s : List ℕ) (lim at next : ℕ) (xs : List ℕ) : Type 0 where
  pub place : next ≡ at + length xs
  pub inside : next ≤ lim
  pub same : drop at s ≡ xs ++ drop next s

module _ {s : List ℕ} {lim : ℕ} where
  pub none_spans : (at : ℕ) → at ≤ lim → Spans s lim at at []
  none_spans at h = record { place = omega arith; inside = h; same = refl }

  pub none_place : {at next : ℕ} → Spans s lim at next [] → next ≡ at
  none_place p = omega (arith, p.place)

  -- Two runs, one behind the other.
  pub join : {at mid next : ℕ} {x y : List ℕ} → Spans s lim at mid x → Spans s lim mid next y → Spans s lim at next (x ++ y)
  join {next = next} {x} {y} p q =
      record {
        place = omega (arith, p.place, q.place, length-append x y);
        inside = q.inside;
        same = cc (p.same, q.same, append_assoc x y (drop next s));
      }

  pub middle : {at next : ℕ} (x y : List ℕ) → Spans s lim at next (x ++ y) → Spans s lim at (at + length x) x × Spans s lim (at + length x) next y
  middle {at} {next} x y p =
      let whole : drop at s ≡ x ++ (y ++ drop next s) = p.same ∙ append_assoc x y (drop next s) in
      let rest : drop (at + length x) s ≡ y ++ drop next s =
      sym (drop-drop (length x) at s) ∙ ap (drop (length x)) whole ∙ drop-append_seam x (y ++ drop next s) in (
        record { place = refl; inside = omega (arith, p.place, p.inside, length-append x y); same = whole ∙ ap (λ (t : List ℕ). x ++ t) (sym rest) },
        record { place = omega (arith, p.place, length-append x y); inside = p.inside; same = rest },
      )

  -- The same octets by other names for the places, and to another limit.
  pub moved : {at next : ℕ} {xs : List ℕ} (other at₁ next₁ : ℕ) → Spans s lim at next xs → at ≡ at₁ → next ≡ next₁ → next₁ ≤ other
      → Spans s other at₁ next₁ xs
  moved other at₁ next₁ p e f h = record { place = omega (arith, p.place); inside = h; same = cc p.same }

  -- One octet.
  pub one_spans : (at : ℕ) → at + 1 ≤ lim → lim ≤ length s → Spans s lim at (at + 1) (get_or s at 0 ∷ [])
  one_spans at h k = record { place = refl; inside = h; same = rw (add-one, drop-cons s at 0 (omega arith)) }

  pub one_is : {at next x : ℕ} → Spans s lim at next (x ∷ []) → get_or s at 0 ≡ x
  one_is {at} p = ap (λ (i : ℕ). get_or s i 0) (omega arith) ∙ sym (get_or-drop at s 0 0) ∙ ap (λ (t : List ℕ). get_or t 0 0) p.same

  -- The part of a list is what it spans there.
  pub part_spans : (at n : ℕ) → at + n ≤ lim → lim ≤ length s → (length (part s at n) ≡ n) × Spans s lim at (at + n) (part s at n)
  unfolding part
  part_spans at n h k =
      let long : length (take n (drop at s)) ≡ n = length-take-le n (drop at s) (simp length-drop (omega arith)) in (
        long,
        record {
          place = omega (arith, long);
          inside = h;
          same = sym (take-append-drop n (drop at s)) ∙ ap (λ (t : List ℕ). take n (drop at s) ++ t) (drop-drop n at s);
        },
      )

  pub part_is : {at next : ℕ} {xs : List ℕ} → Spans s lim at next xs → part s at (length xs) ≡ xs
  unfolding part
  part_is {next = next} {xs} p = ap (take (length xs)) p.same ∙ take-append_seam xs (drop next s)

-- A list spans itself, and a run in a list spans it there.
pub all_spans : (s : List ℕ) → Spans s (length s) 0 (length s) s
all_spans s = record { place = sym (zero-add (length s)); inside = le_refl (length s); same = rw (drop-length, append-nil) }

pub spans_all : {s : List ℕ} {lim end : ℕ} {xs : List ℕ} → Spans s lim 0 end xs → end ≡ length s → xs ≡ s
spans_all {s} {xs = xs} p whole = sym (p.same ∙ ap (λ (n : ℕ). xs ++ drop n s) whole ∙ rw (drop-length, append-nil))

pub stands : (pre xs post : List ℕ) → Spans (pre ++ (xs ++ post)) (length (pre ++ (xs ++ post))) (length pre) (length pre + length xs) xs
stands pre xs post =
    let p = (middle pre (xs ++ post) (all_spans (pre ++ (xs ++ post)))).1 in
    moved (length (pre ++ (xs ++ post))) (length pre) (length pre + length xs) (middle xs post p).0 (omega arith) (omega arith)
    (omega (arith, length-append pre (xs ++ post), length-append xs post))

-- What stands in a list stands there with more behind it.
pub spans_front : {s : List ℕ} {at next : ℕ} {xs : List ℕ} (t : List ℕ) → Spans s (length s) at next xs → Spans (s ++ t) (length (s ++ t)) at next xs
spans_front {s} {at} {next} {xs} t p =
    record {
      place = p.place;
      inside = omega (arith, p.inside, length-append s t);
      same =
          drop-append-le at s t (omega (arith, p.place, p.inside))
          ∙ ap (λ (x : List ℕ). x ++ t) p.same
          ∙ append_assoc xs (drop next s) t
          ∙ ap (λ (x : List ℕ). xs ++ x) (sym (drop-append-le next s t p.inside));
    }

-- What holds of every item of a list, of its parts and of two lists joined.
module _ {A : Type 0} (P : A → Type 0) where
  pub each_join : (x y : List A) → Each P x → Each P y → Each P (x ++ y)
  each_join [] y e f = f
  each_join (a ∷ x) y e f = (e.0, each_join x y e.1 f)

  pub each_front : (x y : List A) → Each P (x ++ y) → Each P x
  each_front [] y e = tt
  each_front (a ∷ x) y e = (e.0, each_front x y e.1)

  pub each_take : (n : ℕ) (s : List A) → Each P s → Each P (take n s)
  each_take zero s e = tt
  each_take (suc n) [] e = tt
  each_take (suc n) (a ∷ s) e = (e.0, each_take n s e.1)

  pub each_drop : (n : ℕ) (s : List A) → Each P s → Each P (drop n s)
  each_drop zero s e = e
  each_drop (suc n) [] e = tt
  each_drop (suc n) (a ∷ s) e = each_drop n s e.1

-- Every octet of a list.
pub each_append : (x y : List ℕ) → Each Octet x → Each Octet y → Each Octet (x ++ y)
each_append = each_join Octet

-- What is known of a slice of octets, as it is known.
pub each_octet : (s : List ℕ) → ((i : ℕ) → Fits w8 (get_or s i 0)) → Each Octet s
each_octet [] h = tt
each_octet (x ∷ s) h = ((h 0).fits, each_octet s (λ i. h (suc i)))

pub each_get_d : (s : List ℕ) (i : ℕ) → Each Octet s → get_or s i 0 < 256
each_get_d [] i e = lit< tt
each_get_d (a ∷ s) zero e = e.0
each_get_d (a ∷ s) (suc i) e = each_get_d s i e.1

pub spans_octets : {s : List ℕ} {lim at next : ℕ} {xs : List ℕ} → Each Octet s → Spans s lim at next xs → Each Octet xs
spans_octets {s} {lim} {at} {next} {xs} e p = each_front Octet xs (drop next s) (subst (Each Octet) p.same (each_drop Octet at s e))

-- Words.
pub length_word : (w n : ℕ) → length (word w n) ≡ w
unfolding word
length_word zero n = refl
length_word (suc w) n = length-append (word w (n / 256)) (n % 256 ∷ []) ∙ ap (λ (k : ℕ). k + 1) (length_word w (n / 256)) ∙ add-one w

pub word_octets : (w n : ℕ) → Each Octet (word w n)
unfolding word
word_octets zero n = tt
word_octets (suc w) n = each_append (word w (n / 256)) (n % 256 ∷ []) (word_octets w (n / 256)) (omega arith, tt)

pub word_is : {s : List ℕ} {lim at next : ℕ} (w n : ℕ) → n < 256 ^ w → Spans s lim at next (word w n) → be w s at ≡ n
unfolding word be
word_is zero n h p = omega arith
word_is {s = s} {lim = lim} {at = at} {next = next} (suc w) n h p =
    let (p₁, p₂) = middle (word w (n / 256)) (n % 256 ∷ []) p in
    let high : be w s at ≡ n / 256 = word_is {next = at + length (word w (n / 256))} w (n / 256) ((div-lt_iff_lt-mul (lit< tt)).1 (rw pow-suc at h)) p₁ in
    let low : get_or s (at + w) 0 ≡ n % 256 = ap (λ (i : ℕ). get_or s (at + i) 0) (sym (length_word w (n / 256))) ∙ one_is p₂ in
    omega arith

pub word_spans : (s : List ℕ) (lim w at : ℕ) → Each Octet s → at + w ≤ lim → lim ≤ length s
    → (be w s at < 256 ^ w) × Spans s lim at (at + w) (word w (be w s at))
unfolding word be
word_spans s lim zero at e h k = (lit< tt, record { place = refl; inside = h; same = rw add-zero })
word_spans s lim (suc w) at e h k =
    let low : get_or s (at + w) 0 < 256 = each_get_d s (at + w) e in
    let (small, p) = word_spans s lim w at e (omega arith) k in
    let q : Spans s lim (at + w) (at + suc w) (get_or s (at + w) 0 ∷ []) =
    moved lim (at + w) (at + suc w) (one_spans {lim = lim} (at + w) (omega arith) k) refl (omega arith) h in
    (rw pow-suc (digits_lt small low), rw (digits_div (be w s at) low, digits_mod (be w s at) low) (join p q))

-- Two numbers, one behind the other, spell one.
pub be_join : (v w : ℕ) (s : List ℕ) (at : ℕ) → be (v + w) s at ≡ be v s at * 256 ^ w + be w s (at + v)
unfolding be
be_join v zero s at = rw (add-zero v, pow-zero 256) (omega arith)
be_join v (suc w) s at =
    let again = be_join v w s at in
    rw (add-suc v w, pow-suc 256 w, ← mul_assoc (be v s at) (256 ^ w) 256, add_assoc at v w) (omega arith)

-- The two laws of a word by themselves.
pub be_word : (w n : ℕ) (pre post : List ℕ) → n < 256 ^ w → be w (pre ++ (word w n ++ post)) (length pre) ≡ n
be_word w n pre post h = word_is w n h (stands pre (word w n) post)

pub word_be : (w : ℕ) (s : List ℕ) (at : ℕ) → Each Octet s → at + w ≤ length s → (be w s at < 256 ^ w) × (word w (be w s at) ≡ part s at w)
word_be w s at e h =
    let (small, p) = word_spans s (length s) w at e h (le_refl (length s)) in
    (small, sym (ap (part s at) (sym (length_word w (be w s at))) ∙ part_is p))

pub each_replicate : (n x : ℕ) → x < 256 → Each Octet (replicate n x)
each_replicate zero x h = tt
each_replicate (suc n) x h = (h, each_replicate n x h)
