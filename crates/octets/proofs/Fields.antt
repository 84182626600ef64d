-- The fields that every construct is made of: number, count and fixed number each have a reading and an image that are inverse.
use mathlib.Core.Path.{◌≡◌, sym, ap, ◌∙◌}
use mathlib.Core.List.{List, ◌++◌}
use mathlib.Core.Bool.{Bool, true}
use Prim.Native.Nat.{ℕ, ◌+◌, ◌-◌, ◌^◌, ◌≤◌, ◌<◌}
use native.Mathlib.Omega.{arith}
use native.Mathlib.Nat.{le_refl}
use lib.ListN.{length}
use lib.Dec.{leb, eqb}
use borrow.Author.Tests.{leb-true, eqb-true, le-leb, eq-eqb}
use Rattle.octets.specs.Reading.{Read, ok, no, ◌then◌, choose, be, part, reach, overrun, number_in, number, count, exactly}
use Rattle.octets.specs.declared.Room.{Room}
use Rattle.octets.specs.declared.Room.TheVariants.{Document, Stated}
use Rattle.octets.specs.Writing.{word, Each, Octet}
use Rattle.octets.proofs.Spans.{length_word, word_is, word_spans, word_octets}
use Rattle.octets.proofs.Inverse.{Inverse, Answer, Any, after, settle, chosen, reads_back, reads_forth}

-- No reading succeeds where the room ends.
pub roomy : {A : Type 0} (room : Room) (at : ℕ) (t : Bool) (x : Unit {0} → Read A) {a : A} {n : ℕ} → choose t x (λ _. overrun room at) ≡ ok a n
    → (t ≡ true) × (x tt ≡ ok a n)
roomy Document at t x e = chosen t x 1 at e
roomy (Stated end p) at t x e = chosen t x 13 p e

module _ (s : List ℕ) (room : Room) (fits : reach room s ≤ length s) where
  pub number_inverse : (w : ℕ) → Inverse s (reach room s) (number_in room w s) (word w) Any (λ n. n < 256 ^ w)
  unfolding number_in
  number_inverse w =
      record {
        back = λ n {at} {next} _ g p.
            let place : next ≡ at + w = p.place ∙ ap (λ (k : ℕ). at + k) (length_word w n) in
            rw (le-leb (at + w) (reach room s) (omega (arith, p.inside)), word_is w n g p, place);
        forth = λ o {a = n} {at} h e.
            let (t, e₁) = roomy room at (leb (at + w) (reach room s)) (λ _. ok (be w s at) (at + w)) e in
            let (g, p) = word_spans s (reach room s) w at o (leb-true (at + w) (reach room s) t) fits in
            settle (Answer s (reach room s) (word w) Any (λ m. m < 256 ^ w) at) e₁ (tt, g, p);
        octets = λ n _ g. word_octets w n;
      }

module _ (s : List ℕ) where
  pub number_whole : (w : ℕ) → Inverse s (length s) (number w s) (word w) Any (λ n. n < 256 ^ w)
  number_whole w = number_inverse s Document (le_refl (length s)) w

  -- A number of which more is asked, by a test.
  tested : (test : ℕ → Bool) (refusal : ℕ) {Good : ℕ → Type 0} → ((n : ℕ) → test n ≡ true → Good n) → ((n : ℕ) → Good n → (n < 256 ^ 4) × (test n ≡ true))
      → Inverse s (length s) (λ at. number 4 s at then λ n next. choose (test n) (λ _. ok n next) (λ _. no refusal at)) (word 4) Any Good
  tested test refusal {Good} to from =
      record {
        back = λ n _ g p. rw ((number_whole 4).back n tt (from n g).0 p, (from n g).1);
        forth = λ o {a = n} {at} h e.
            after (number 4 s at) _ e λ m next e₁ e₂.
            let (u, g, p) = (number_whole 4).forth o h e₁ in
            let (t, e₃) = chosen (test m) (λ _. ok m next) refusal at e₂ in
            settle (Answer s (length s) (word 4) Any Good at) e₃ (tt, to m t, p);
        octets = λ n _ g. word_octets 4 n;
      }

  pub count_inverse : (most : ℕ) → most < 256 ^ 4 → Inverse s (length s) (count most s) (word 4) Any (λ n. n ≤ most)
  unfolding count
  count_inverse most h = tested (λ n. leb n most) 4 (λ n t. leb-true n most t) (λ n g. (omega arith, le-leb n most g))

  pub exactly_inverse : (n refusal : ℕ) → n < 256 ^ 4 → Inverse s (length s) (exactly n refusal s) (word 4) Any (λ m. n ≡ m)
  unfolding exactly
  exactly_inverse n refusal h = tested (λ m. eqb m n) refusal (λ m t. sym (eqb-true m n t)) (λ m g. (omega arith, eq-eqb m n (sym g)))

-- The two laws of the fields in the words of lists: what is read from an image is the value, and the octets of what was read are its image.
module _ (pre post : List ℕ) where
  pub number_back : (w n : ℕ) → n < 256 ^ w → number w (pre ++ (word w n ++ post)) (length pre) ≡ ok n (length pre + length (word w n))
  number_back w n g = reads_back (λ s. number_whole s w) n pre post g

  pub count_back : (most n : ℕ) → most < 256 ^ 4 → n ≤ most → count most (pre ++ (word 4 n ++ post)) (length pre) ≡ ok n (length pre + length (word 4 n))
  count_back most n h g = reads_back (λ s. count_inverse s most h) n pre post g

module _ (s : List ℕ) (o : Each Octet s) (at next : ℕ) (inside : at ≤ length s) where
  pub number_forth : (w n : ℕ) → number w s at ≡ ok n next → (n < 256 ^ w) × (at ≤ next) × (next ≤ length s) × (part s at (next - at) ≡ word w n)
  number_forth w n e = reads_forth (λ t. number_whole t w) s n at next o inside e

  pub count_forth : (most n : ℕ) → most < 256 ^ 4 → count most s at ≡ ok n next → (n ≤ most) × (at ≤ next) × (next ≤ length s) × (part s at (next - at) ≡ word 4 n)
  count_forth most n h e = reads_forth (λ t. count_inverse t most h) s n at next o inside e
