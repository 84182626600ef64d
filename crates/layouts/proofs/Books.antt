-- A lent book: its octets are the image of a good book, which is read back from them.
-- Layouts are read one behind another, so both ways go by the layouts that are left.
use mathlib.Core.Path.{◌≡◌, refl, sym, ap, ◌∙◌}
use mathlib.Core.List.{List, [], ◌∷◌, ◌++◌, append_assoc, append-nil}
use mathlib.Core.Bool.{true, ◌&&◌}
use mathlib.Core.Option.{none}
use Prim.Native.Nat.{ℕ, zero, suc, ◌+◌, ◌≤◌, ◌<◌}
use native.Mathlib.Omega.{arith}
use lib.ListN.{length, take}
use lib.Seq.{append_snoc, length-take-le, take-append_seam}
use lib.Dec.{leb, eqb}
use borrow.Author.Tests.{leb-true, eqb-true, le-leb, eq-eqb, ne_eqb}
use Rattle.octets.specs.Limits.{book_room, most_layouts}
use Rattle.octets.specs.Reading.{Read, ok, no}
use Rattle.octets.specs.Writing.{images, Each, Octet}
use Rattle.octets.proofs.Spans.{Spans, join, middle, all_spans, spans_all, none_spans, none_place, each_take}
use Rattle.octets.proofs.Inverse.{after, either, settle, chosen}
use Rattle.octets.proofs.Copies.{both_true}
use Rattle.layouts.specs.Layout.{Layout, layout_at, layout_image, GoodLayout}
use Rattle.layouts.specs.Book.{Book, find, is_none, Distinct, book_image, GoodBook, layouts_at, as17, book_of, book_in, IsBook}
use Rattle.layouts.proofs.Layouts.{layout_inverse, layout_long}
use Rattle.layouts.proofs.Finding.{distinct_snoc, distinct_mid, absent}

-- The image of two books joined, and of a layout behind a book.
pub image_nil : book_image [] ≡ []
unfolding book_image images
image_nil = refl

pub image_cons : (l : Layout) (b : Book) → book_image (l ∷ b) ≡ layout_image l ++ book_image b
unfolding book_image images
image_cons l b = refl

pub image_append : (b c : Book) → book_image (b ++ c) ≡ book_image b ++ book_image c
image_append [] c = rw image_nil refl
image_append (l ∷ b) c =
    image_cons l (b ++ c) ∙ (ap (λ (x : List ℕ). layout_image l ++ x) (image_append b c)
    ∙ (sym (append_assoc (layout_image l) (book_image b) (book_image c)) ∙ ap (λ (x : List ℕ). x ++ book_image c) (sym (image_cons l b))))

pub image_snoc : (b : Book) (l : Layout) → book_image (b ++ l ∷ []) ≡ book_image b ++ layout_image l
image_snoc b l = image_append b (l ∷ []) ∙ ap (λ (x : List ℕ). book_image b ++ x) (rw (image_cons l [], image_nil) (append-nil (layout_image l)))

-- The layouts read behind those met.
pub record Layouts (s : List ℕ) (k : ℕ) (met : Book) (at : ℕ) (book : Book) (end : ℕ) : Type 0 where
  pub more : Book
  pub few : length more ≤ k
  pub good : Each GoodLayout more
  pub distinct : Distinct book
  pub is : book ≡ met ++ more
  pub spans : Spans s (length s) at end (book_image more)
  pub whole : end ≡ length s

module _ (s : List ℕ) where
  pub layouts_end : (k : ℕ) (met : Book) (at : ℕ) → at ≡ length s → layouts_at k met s at ≡ ok met at
  unfolding layouts_at
  layouts_end zero met at e = rw (eq-eqb at (length s) e)
  layouts_end (suc k) met at e = rw (eq-eqb at (length s) e)

  pub layouts_more : (k : ℕ) (met : Book) (at : ℕ) (l : Layout) (next : ℕ) → at < length s → layout_at s at ≡ ok l next → find l.number met ≡ none
      → layouts_at (suc k) met s at ≡ layouts_at k (met ++ l ∷ []) s next
  unfolding layouts_at
  layouts_more k met at l next e f g = rw (ne_eqb at (length s) (λ q. omega arith), f, g)

  pub layouts_back : (k : ℕ) (more met : Book) {at end : ℕ} → length more ≤ k → Each GoodLayout more → Distinct (met ++ more) → end ≡ length s
      → Spans s (length s) at end (book_image more) → layouts_at k met s at ≡ ok (met ++ more) end
  layouts_back k [] met {at} {end} h g d whole p =
      let place : end ≡ at = none_place (rw image_nil at p) in
      rw (append-nil met, place) (layouts_end k met at (sym place ∙ whole))
  layouts_back zero (l ∷ rest) met h g d whole p = absurd (omega arith)
  layouts_back (suc k) (l ∷ rest) met {at} {end} h g d whole p =
      let (p₁, p₂) = middle (layout_image l) (book_image rest) (rw (image_cons l rest) at p) in
      layouts_more k met at l (at + length (layout_image l)) (omega (arith, layout_long l, p₁.inside)) ((layout_inverse s).back l tt g.0 p₁) (distinct_mid met l rest d)
      ∙ (layouts_back k rest (met ++ l ∷ []) (omega arith) g.1 (rw (append_snoc met l rest) d) whole p₂ ∙ ap (λ (b : Book). ok b end) (append_snoc met l rest))

  none_more : (k : ℕ) (met : Book) (at : ℕ) → Distinct met → at ≤ length s → eqb at (length s) ≡ true → Layouts s k met at met at
  none_more k met at d h t =
      record {
        more = [];
        few = omega arith;
        good = tt;
        distinct = d;
        is = sym (append-nil met);
        spans = rw image_nil (none_spans at h);
        whole = eqb-true at (length s) t;
      }

  pub layouts_forth : (k : ℕ) (met : Book) {at end : ℕ} {book : Book} → Each Octet s → Distinct met → at ≤ length s → layouts_at k met s at ≡ ok book end
      → Layouts s k met at book end
  unfolding layouts_at
  layouts_forth zero met {at} o d h e =
      let (t, e₁) = chosen (eqb at (length s)) (λ _. ok met at) 17 0 e in
      settle (Layouts s 0 met at) e₁ (none_more 0 met at d h t)
  layouts_forth (suc k) met {at} o d h e =
      either (eqb at (length s)) _ _ e (λ t e₁. settle (Layouts s (suc k) met at) e₁ (none_more (suc k) met at d h t))
      λ t e₁.
      after (layout_at s at) _ e₁ λ l next e₂ e₃.
      let (u, g, p) = (layout_inverse s).forth o h e₂ in
      let (t₁, e₄) = chosen (is_none (find l.number met)) (λ _. layouts_at k (met ++ l ∷ []) s next) 17 0 e₃ in
      let m = layouts_forth k (met ++ l ∷ []) o (distinct_snoc met l d (absent (find l.number met) t₁)) p.inside e₄ in
      record {
        more = l ∷ m.more;
        few = omega (arith, m.few);
        good = (g, m.good);
        distinct = m.distinct;
        is = m.is ∙ append_snoc met l m.more;
        spans = rw (image_cons l m.more) (join p m.spans);
        whole = m.whole;
      }

-- A good book is read back from its image, whatever stands behind it.
pub book_back : (book : Book) (octets : List ℕ) → GoodBook book → book_room ≤ length octets → take (length (book_image book)) octets ≡ book_image book
    → book_of octets (length (book_image book)) ≡ ok book (length (book_image book))
unfolding book_of
book_back book octets g long e =
    rw (
      le-leb book_room (length octets) long,
      le-leb (length (book_image book)) book_room g.small,
      e,
      layouts_back (book_image book) most_layouts book [] g.few g.good g.distinct refl (all_spans (book_image book)),
    )

as17_ok : {A : Type 0} (r : Read A) {a : A} {n : ℕ} → as17 r ≡ ok a n → r ≡ ok a n
as17_ok (ok b m) e = e
as17_ok (no m p) e = absurd (let z : ◌≡◌ {A = ℕ} 0 1 = cc in omega arith)

-- What lent octets that hold a book are.
pub record Lent (octets : List ℕ) (used : ℕ) (book : Book) : Type 0 where
  pub room : book_room ≤ length octets
  pub most : used ≤ book_room
  pub good : GoodBook book
  pub image : book_image book ≡ take used octets
  pub size : length (book_image book) ≡ used

pub book_forth : (octets : List ℕ) (used : ℕ) {book : Book} {end : ℕ} → Each Octet octets → book_of octets used ≡ ok book end → Lent octets used book × (end ≡ used)
unfolding book_of
book_forth octets used {book} o e =
    let (t, e₁) = chosen (leb book_room (length octets) && leb used book_room) (λ _. as17 (layouts_at most_layouts [] (take used octets) 0)) 17 0 e in
    let (t₁, t₂) = both_true (leb book_room (length octets)) (leb used book_room) t in
    let room = leb-true book_room (length octets) t₁ in
    let most = leb-true used book_room t₂ in
    let m = layouts_forth (take used octets) most_layouts [] (each_take Octet used octets o) tt (omega arith) (as17_ok (layouts_at most_layouts [] (take used octets) 0) e₁) in
    let image : book_image book ≡ take used octets = ap book_image m.is ∙ spans_all m.spans m.whole in
    let long = length-take-le used octets (omega arith) in (
      record {
        room = room;
        most = most;
        good = record { few = rw m.is m.few; small = omega (arith, ap length image); good = rw m.is m.good; distinct = m.distinct };
        image = image;
        size = ap length image ∙ long;
      },
      m.whole ∙ long,
    )

-- The used octets of a lent book are the images of its layouts, one after another; and so many layouts inside the limits make a lent book of their images, whatever stands behind them.
pub book_octets : (octets : List ℕ) (used : ℕ) → Each Octet octets → IsBook octets used
    → GoodBook (book_in octets used) × (images layout_image (book_in octets used) ≡ take used octets)
unfolding book_image
book_octets octets used o e = let h = (book_forth octets used o e).0 in (h.good, h.image)

pub octets_book : (book : Book) (rest : List ℕ) → GoodBook book → book_room ≤ length (book_image book ++ rest)
    → book_of (book_image book ++ rest) (length (book_image book)) ≡ ok book (length (book_image book))
octets_book book rest g long = book_back book (book_image book ++ rest) g long (take-append_seam (book_image book) rest)
