-- Octets behind a length: their reading and their image are inverse, once over rule and room; a string's are the two laws in the words of lists.
use Prim.Native.Nat.{ℕ, ◌+◌, ◌-◌, ◌^◌, ◌≤◌, ◌<◌}
use mathlib.Core.Path.{◌≡◌, refl}
use mathlib.Core.List.{List, [], ◌++◌}
use native.Mathlib.Omega.{arith}
use native.Mathlib.Nat.{le_refl}
use lib.ListN.{length}
use lib.Dec.{leb, lit<}
use borrow.Author.Tests.{leb-true, le-leb}
use Rattle.octets.specs.Reading.{ok, part, reach, number_in}
use Rattle.octets.specs.declared.Room.{Room}
use Rattle.octets.specs.declared.Room.TheVariants.{Document}
use Rattle.octets.specs.Writing.{word, Each, Octet}
use Rattle.octets.proofs.Spans.{join, middle, word_octets, part_spans, part_is, spans_octets, each_append}
use Rattle.octets.proofs.Inverse.{Inverse, Answer, Any, after, settle, reads_back, reads_forth}
use Rattle.octets.proofs.Fields.{roomy, number_inverse}
use Rattle.utf8.specs.Utf8.{spells, utf8}
use Rattle.texts.specs.Texts.{octets_in, led_in, text, led_image, GoodLed, GoodText}
use Rattle.texts.specs.declared.Rule.{Rule}
use Rattle.texts.specs.declared.Rule.TheVariants.{Characters}
use Rattle.texts.proofs.Ends.{led_forth, led_back}

octets_inverse : (s : List ℕ) (room : Room) → reach room s ≤ length s → Inverse s (reach room s) (octets_in room s) led_image Any (λ xs. Each Octet xs × (length xs < 2 ^ 32))
unfolding octets_in led_image
octets_inverse s room fits =
    record {
      back = λ xs {at} _ g p.
          let (p₁, p₂) = middle (word 4 (length xs)) xs p in
          rw (
            (number_inverse s room fits 4).back (length xs) tt g.1 p₁,
            le-leb (at + length (word 4 (length xs)) + length xs) (reach room s) (omega (arith, p₂.place, p₂.inside)),
            part_is p₂,
            p₂.place,
          );
      forth = λ o {a = xs} {at} h e.
          after (number_in room 4 s at) _ e λ n next e₁ e₂.
          let (u, g, p) = (number_inverse s room fits 4).forth o h e₁ in
          let (t, e₃) = roomy room at (leb (next + n) (reach room s)) (λ _. ok (part s next n) (next + n)) e₂ in
          let (long, q) = part_spans next n (leb-true (next + n) (reach room s) t) fits in
          settle (Answer s (reach room s) led_image Any (λ ys. Each Octet ys × (length ys < 2 ^ 32)) at) e₃ (tt, (spans_octets o q, rw long g), join (rw (← long) at p) q);
      octets = λ xs _ g. each_append (word 4 (length xs)) xs (word_octets 4 (length xs)) g.0;
    }

pub led_inverse : (rule : Rule) (s : List ℕ) (room : Room) → reach room s ≤ length s → Inverse s (reach room s) (led_in rule room s) led_image Any (GoodLed rule)
led_inverse rule s room fits =
    record {
      back = λ xs {at} _ g p. led_back room s at rule ((octets_inverse s room fits).back xs tt (g.0, g.1) p) g.2;
      forth = λ o {a = xs} {at} h e. let (is, t) = led_forth room s at rule e in let (u, g, p) = (octets_inverse s room fits).forth o h is in (tt, (g.0, g.1, t), p);
      octets = λ xs _ g. (octets_inverse s room fits).octets xs tt (g.0, g.1);
    }

pub text_whole : (s : List ℕ) → Inverse s (length s) (text s) led_image Any GoodText
text_whole s = led_inverse Characters s Document (le_refl (length s))

pub text_back : (pre post xs : List ℕ) → GoodText xs → text (pre ++ (led_image xs ++ post)) (length pre) ≡ ok xs (length pre + length (led_image xs))
text_back pre post xs g = reads_back text_whole xs pre post g

pub text_forth : (s : List ℕ) → Each Octet s → (at next : ℕ) → at ≤ length s → (xs : List ℕ) → text s at ≡ ok xs next
    → GoodText xs × (at ≤ next) × (next ≤ length s) × (part s at (next - at) ≡ led_image xs)
text_forth s o at next inside xs e = reads_forth text_whole s xs at next o inside e

-- No octets are a string.
pub text_none : GoodText []
unfolding utf8 spells
text_none = (tt, lit< tt, refl)
