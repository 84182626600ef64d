-- The equations of reading an attribute and a layout that a function answering ends cites: each goes by the field that settles the answer.
use Prim.Native.Nat.{ℕ, ◌+◌, ◌≤◌, ◌<◌}
use mathlib.Core.Path.{◌≡◌, refl, ◌∙◌}
use mathlib.Core.List.{List}
use lib.ListN.{length}
use Rattle.octets.specs.Limits.{most_attributes}
use Rattle.octets.specs.Reading.{Read, ok, no, ◌then◌, ends, be, count, run}
use Rattle.octets.proofs.Ends.{on, stop, made, number_ok, number_no}
use Rattle.texts.specs.Texts.{text}
use Rattle.kinds.specs.Kinds.{kind_at}
use Rattle.layouts.specs.Layout.{Layout, attribute_at, layout_at}

module _ (s : List ℕ) (at : ℕ) where
  pub attribute_on : (next : ℕ) → ends (text s at) ≡ ok next next → ends (attribute_at s at) ≡ ends (kind_at s next)
  unfolding attribute_at
  attribute_on next e = on (text s at) _ (λ m. ends (kind_at s m)) next (λ name m. made (kind_at s m) _) e

  pub attribute_stop : (k p : ℕ) → ends (text s at) ≡ no k p → ends (attribute_at s at) ≡ no k p
  unfolding attribute_at
  attribute_stop k p e = stop (text s at) _ k p e

  pub layout_no : length s < at + 4 → ends (layout_at s at) ≡ no 1 at
  unfolding layout_at
  layout_no h = rw (number_no s at 4 h) refl

  pub layout_unnamed : (k p : ℕ) → at + 4 ≤ length s → ends (text s (at + 4)) ≡ no k p → ends (layout_at s at) ≡ no k p
  unfolding layout_at
  layout_unnamed k p h e = rw (number_ok s at 4 h) (stop (text s (at + 4)) _ k p e)

  -- Behind the name a layout ends where the run that its count tells ends.
  counted : (mid : ℕ) → at + 4 ≤ length s → ends (text s (at + 4)) ≡ ok mid mid
      → ends (layout_at s at) ≡ ends (count most_attributes s mid then λ k first. run (attribute_at s) k first)
  unfolding layout_at
  counted mid h e =
      rw (number_ok s at 4 h)
      (on (text s (at + 4)) _ (λ m. ends (count most_attributes s m then λ k first. run (attribute_at s) k first)) mid
      (λ name m. go (count most_attributes s m) name) e)
    where
      go : (r : Read ℕ) (name : List ℕ) → ends {A = Layout} (r then λ k first. run (attribute_at s) k first then λ attributes end.
          ok (record { number = be 4 s at; type_name = name; attributes = attributes }) end) ≡ ends (r then λ k first. run (attribute_at s) k first)
      go (ok k first) name = made (run (attribute_at s) k first) _
      go (no n p) name = refl

  pub layout_uncounted : (mid k p : ℕ) → at + 4 ≤ length s → ends (text s (at + 4)) ≡ ok mid mid → count most_attributes s mid ≡ no k p → ends (layout_at s at) ≡ no k p
  layout_uncounted mid k p h e f = counted mid h e ∙ rw f refl

  pub layout_on : (mid k first : ℕ) → at + 4 ≤ length s → ends (text s (at + 4)) ≡ ok mid mid → count most_attributes s mid ≡ ok k first
      → ends (layout_at s at) ≡ ends (run (attribute_at s) k first)
  layout_on mid k first h e f = counted mid h e ∙ rw f refl
