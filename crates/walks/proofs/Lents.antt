-- A walk over lent octets keeps the book's layouts by their places there: a book that grew has its new layout right behind the used octets, where it is kept.
use Prim.Native.Nat.{ℕ, ◌+◌, ◌≤◌, ◌<◌}
use mathlib.Core.Path.{◌≡◌, ap, ◌∙◌, subst}
use mathlib.Core.List.{List, [], ◌∷◌, ◌++◌, append-nil}
use native.Mathlib.Omega.{arith}
use lib.ListN.{length, take, drop}
use lib.Seq.{length-take-le, take-append_seam}
use Rattle.octets.specs.Limits.{longest, most_layouts}
use Rattle.octets.specs.Reading.{ok}
use Rattle.octets.specs.Writing.{Each, Octet}
use Rattle.octets.proofs.Spans.{each_take}
use Rattle.layouts.specs.Layout.{Layout, layout_at, layout_image, GoodLayout}
use Rattle.layouts.specs.Book.{Book, book_image, GoodBook, book_in, IsBook}
use Rattle.layouts.proofs.Books.{Lent, image_snoc}
use Rattle.layouts.proofs.Layouts.{layout_back}
use Rattle.layouts.proofs.Walks.{lent_book_lem}
use Rattle.elements.specs.Steps.{holding}
use Rattle.elements.specs.Answers.{Grows}
use Rattle.elements.specs.Walk.{Seen, goes, Spot, spot_at, turn_at}
use Rattle.elements.proofs.Behind.{holding_octets, holding_book}
use Rattle.elements.proofs.Told.{holding_same}
use Rattle.walks.specs.Kept.{Kept, Keeps, Image}
use Rattle.walks.specs.declared.Known.{Known}
use Rattle.walks.specs.Answers.{Bears}
use Rattle.walks.proofs.Keeping.{kept_more, kept_extends}
use Rattle.walks.proofs.Moves.{Newly, item_old, item_grows, item_newly}

-- The used octets are the image of the book.
pub lent_image : (octets : List ℕ) (used : ℕ) (book : Book) → Lent octets used book → Image (take used octets) book
lent_image octets used book l = record { good = l.good; is = l.image }

module _ (octets : List ℕ) (used : ℕ) (book : Book) (o : Each Octet octets) (lent : Lent octets used book) where
  abbrev shelf : List ℕ
  shelf = take used octets

  shelf_long : length shelf ≡ used
  shelf_long = length-take-le used octets (omega (arith, lent.room, lent.most))

  -- The used octets behind a new layout, and where it is read.
  module _ (l : Layout) where
    grown_shelf : take (length (book_image (book ++ l ∷ []))) (holding (book ++ l ∷ []) octets) ≡ shelf ++ layout_image l
    grown_shelf =
        take-append_seam (book_image (book ++ l ∷ [])) (drop (length (book_image (book ++ l ∷ []))) octets)
        ∙ (image_snoc book l ∙ ap (λ (xs : List ℕ). xs ++ layout_image l) lent.image)

    reads : GoodLayout l → layout_at (shelf ++ layout_image l) used ≡ ok l (used + length (layout_image l))
    reads good =
        subst (λ (k : ℕ). layout_at (shelf ++ layout_image l) k ≡ ok l (k + length (layout_image l))) shelf_long
        (subst (λ (xs : List ℕ). layout_at (shelf ++ xs) (length shelf) ≡ ok l (length shelf + length (layout_image l))) (append-nil (layout_image l)) (layout_back l shelf [] good))

    pub kept_grown : {k : Known} → Kept shelf k book → k.count < most_layouts → GoodLayout l → GoodBook (book ++ l ∷ []) → {k₁ : Known} → Keeps l used k k₁
        → Kept (take (length (book_image (book ++ l ∷ []))) (holding (book ++ l ∷ []) octets)) k₁ (book ++ l ∷ [])
    kept_grown {k} kept room good_l good {k₁} h =
        rw grown_shelf
        (kept_more (shelf ++ layout_image l) k book (kept_extends shelf (layout_image l) k book (each_take Octet used octets o) kept) room l good used
        (used + length (layout_image l)) (reads good_l) k₁ h)

-- What is carried with lent octets: they hold a book, whose layouts are kept by their places there.
pub record Carried (octets : List ℕ) (used : ℕ) (k : Known) : Type 0 where
  pub octets_are : Each Octet octets
  pub is : IsBook octets used
  pub kept : Kept (take used octets) k (book_in octets used)

module _ (octets : List ℕ) (used : ℕ) (k : Known) (c : Carried octets used k) where
  abbrev held : Book
  held = book_in octets used

  pub carried_lent : Lent octets used held
  carried_lent = lent_book_lem octets used c.octets_are c.is

  pub carried_bears : Bears (take used octets) used k held
  carried_bears = record { planned = c.kept.planned; shelved = c.kept.shelved; size = carried_lent.size }

  -- Behind an item: what was carried, or the octets with the new layout put behind the used ones.
  module _ (s : List ℕ) (o : Each Octet s) (short : length s ≤ longest) (at rows : ℕ) (p : Seen) (y : Spot) (e : turn_at s (spot_at at rows held) ≡ goes p y) where
    pub carried_old : length (book_image y.book) ≤ used → (y.book ≡ held) × (holding y.book octets ≡ octets) × (length (book_image y.book) ≡ used)
    carried_old old =
        let lent = carried_lent in
        let same = item_old s o short at rows held p y e (omega (arith, lent.size)) in
        (same, ap (λ (b : Book). holding b octets) same ∙ holding_same octets used c.octets_are c.is, ap (λ (b : Book). length (book_image b)) same ∙ lent.size)

    module _ (more : used < length (book_image y.book)) where
      pub carried_grows : Grows s at p.next held
      carried_grows = item_grows s o short at rows held p y e (omega (arith, carried_lent.size))

      pub carried_newly : Newly s at p.next held y.book
      carried_newly = item_newly s o short at rows held p y e (omega (arith, carried_lent.size)) carried_lent.good

      pub carried_new : (exit : List ℕ) → exit ≡ holding y.book octets → {k₁ : Known} → Keeps carried_newly.layout used k k₁
          → Carried exit (length (book_image y.book)) k₁ × (book_in exit (length (book_image y.book)) ≡ y.book)
      carried_new exit left {k₁} h =
          let n = carried_newly in
          let lent = carried_lent in
          let (is, same) = holding_book y.book octets n.good lent.room in
          rw left (
            record {
              octets_are = holding_octets y.book octets n.good lent.room c.octets_are;
              is = is;
              kept =
                  rw (same, n.is)
                  (kept_grown octets used held c.octets_are lent n.layout c.kept (omega (arith, n.few, c.kept.planned.numbered.count)) n.good_layout
                  (subst GoodBook n.is n.good) h);
            },
            same,
          )
