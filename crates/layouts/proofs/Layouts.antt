-- Attributes and layouts: reading and image are inverse, so that one image is one layout, and each has octets.
use mathlib.Core.Path.{◌≡◌, subst}
use mathlib.Core.List.{List, [], ◌++◌, append_assoc, append-nil}
use Prim.Native.Nat.{ℕ, ◌+◌, ◌-◌, ◌≤◌, ◌<◌}
use native.Mathlib.Omega.{arith}
use lib.ListN.{length, length-append}
use lib.Dec.{lit<}
use Rattle.octets.specs.Limits.{most_attributes}
use Rattle.octets.specs.Reading.{ok, part}
use Rattle.octets.specs.Writing.{Each, Octet}
use Rattle.kinds.proofs.Table.{kind_inverse}
use Rattle.layouts.specs.Layout.{Attribute, Layout, attribute_at, layout_at, attribute_image, layout_image, GoodAttribute, GoodLayout}
use Rattle.octets.proofs.Spans.{Spans, all_spans, length_word}
use Rattle.octets.proofs.Inverse.{Inverse, Any, done, seq, seq_on, several, finally, ok_value, reads_back, reads_forth}
use Rattle.octets.proofs.Fields.{number_whole, count_inverse}
use Rattle.texts.proofs.Fields.{text_whole}

module _ (s : List ℕ) where
  pub attribute_inverse : Inverse s (length s) (attribute_at s) attribute_image Any GoodAttribute
  unfolding attribute_at attribute_image
  attribute_inverse =
      finally
      (seq (λ a. a.name) (text_whole s) λ name _.
      seq (λ a. a.kind) (kind_inverse s) λ kind _.
      done (record { name = name; kind = kind }) (search) (λ a f. λ i. record { name = f.0.1 i; kind = f.1 i }))
      (λ a. simp append-nil) (λ a g. search) (λ a g. search)

  pub layout_inverse : Inverse s (length s) (layout_at s) layout_image Any GoodLayout
  unfolding layout_at layout_image
  layout_inverse =
      finally
      (seq (λ l. l.number) (number_whole s 4) λ number _.
      seq (λ l. l.type_name) (text_whole s) λ name _.
      seq (λ l. length l.attributes) (count_inverse s most_attributes (lit< tt)) λ k _.
      seq_on (λ l. l.attributes) (several attribute_inverse k) (λ l f. f.1) λ attributes n _.
      done (record { number = number; type_name = name; attributes = attributes }) (search)
      (λ l f. λ i. record { number = f.0.0.0.1 i; type_name = f.0.0.1 i; attributes = f.1 i }))
      (λ l. simp (append_assoc, append-nil)) (λ l g. search) (λ l g. search)

-- BACK: an image is read as what it is the image of, whatever stands before and behind it.
pub attribute_back : (a : Attribute) (pre post : List ℕ) → GoodAttribute a
    → attribute_at (pre ++ (attribute_image a ++ post)) (length pre) ≡ ok a (length pre + length (attribute_image a))
attribute_back = reads_back attribute_inverse

pub layout_back : (l : Layout) (pre post : List ℕ) → GoodLayout l
    → layout_at (pre ++ (layout_image l ++ post)) (length pre) ≡ ok l (length pre + length (layout_image l))
layout_back = reads_back layout_inverse

-- FORTH: what is read is inside the limits, and the octets that it was read from are its image.
pub attribute_forth : (s : List ℕ) (a : Attribute) (at next : ℕ) → Each Octet s → at ≤ length s → attribute_at s at ≡ ok a next
    → GoodAttribute a × (at ≤ next) × (next ≤ length s) × (part s at (next - at) ≡ attribute_image a)
attribute_forth = reads_forth attribute_inverse

pub layout_forth : (s : List ℕ) (l : Layout) (at next : ℕ) → Each Octet s → at ≤ length s → layout_at s at ≡ ok l next
    → GoodLayout l × (at ≤ next) × (next ≤ length s) × (part s at (next - at) ≡ layout_image l)
layout_forth = reads_forth layout_inverse

-- Equal octets are equal layouts.
pub layout_once : (l m : Layout) → GoodLayout l → GoodLayout m → layout_image l ≡ layout_image m → l ≡ m
layout_once l m g h e =
    let s : List ℕ = layout_image l in
    ok_value ((layout_inverse s).back l tt g (all_spans s)) ((layout_inverse s).back m tt h (subst (Spans s (length s) 0 (length s)) e (all_spans s)))

-- A layout has octets.
pub layout_long : (l : Layout) → 0 < length (layout_image l)
unfolding layout_image
layout_long l = simp length-append (omega (arith, length_word 4 l.number))

pub layout_octets : (l : Layout) → GoodLayout l → Each Octet (layout_image l)
layout_octets l g = (layout_inverse []).octets l tt g
