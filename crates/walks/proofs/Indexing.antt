-- Going through the octets of a book, each layout kept by its place: what was met is kept, and what is left stands from the place on.
use Prim.Native.Nat.{ℕ, ◌+◌, ◌*◌, ◌≤◌, ◌<◌}
use mathlib.Core.Path.{◌≡◌, refl, sym, ap, ◌∙◌, subst}
use mathlib.Core.List.{List, [], ◌∷◌, ◌++◌, append_assoc, append-nil}
use mathlib.Core.Bool.{true}
use native.Mathlib.Omega.{arith}
use lib.ListN.{length, length-append}
use Rattle.octets.specs.Limits.{book_room, most_layouts}
use Rattle.octets.specs.Reading.{ok, ends, is_ok}
use Rattle.octets.specs.Writing.{Each}
use Rattle.octets.proofs.Spans.{Spans, middle, all_spans}
use Rattle.layouts.specs.Layout.{Layout, layout_at, layout_image, GoodLayout}
use Rattle.layouts.specs.Book.{Book, book_image, GoodBook, Distinct}
use Rattle.layouts.proofs.Layouts.{layout_inverse, layout_long}
use Rattle.layouts.proofs.Books.{image_nil, image_cons, image_append}
use Rattle.layouts.proofs.Finding.{distinct_mid}
use Rattle.layouts.proofs.Growing.{good_snoc}
use Rattle.octets.proofs.Ends.{one_end}
use Rattle.walks.specs.Kept.{tally_of, Kept, Keeps, Image}
use Rattle.walks.specs.declared.Known.{Known}
use Rattle.walks.proofs.Marks.{tally_bounds}
use Rattle.walks.proofs.Keeping.{kept_none, kept_more}

pub record Met (s : List ℕ) (k : Known) (pos : ℕ) (book : Book) : Type 0 where
  pub met : Book
  pub more : Book
  pub is : book ≡ met ++ more
  pub good : Each GoodLayout more
  pub spans : Spans s (length s) pos (length s) (book_image more)
  pub kept : Kept s k met

-- The layout at a place, and what is met behind it.
pub record Here (s : List ℕ) (k : Known) (pos : ℕ) (book : Book) : Type 0 where
  pub accepted : is_ok (layout_at s pos) ≡ true
  pub room : k.count < most_layouts
  pub bounds : (length k.steps ≡ 1216) × (64 ≤ k.filled) × (k.filled ≤ 704 + k.count * 8)
  pub on : (k₁ : Known) (next : ℕ) → ((l : Layout) (end : ℕ) → layout_at s pos ≡ ok l end → Keeps l pos k k₁) → ends (layout_at s pos) ≡ ok next next
      → (pos < next) × Met s k₁ next book

pub met_none : (s : List ℕ) (book : Book) → Image s book → (numbers places steps : List ℕ) → length numbers ≡ 64 → length places ≡ 64 → length steps ≡ 1216
    → Met s (record { numbers = numbers; places = places; steps = steps; count = 0; filled = 64 }) 0 book
met_none s book image numbers places steps n p h =
    record {
      met = [];
      more = book;
      is = refl;
      good = image.good.good;
      spans = subst (λ (xs : List ℕ). Spans s (length s) 0 (length s) xs) (sym image.is) (all_spans s);
      kept = kept_none s numbers places steps n p h;
    }

module _ (s : List ℕ) (k : Known) (pos : ℕ) (book : Book) (w : Met s k pos book) where
  pub met_here : GoodBook book → pos < length s → Here s k pos book
  met_here whole h = go w.met w.more w.is w.good w.spans w.kept
    where
      go : (met more : Book) → book ≡ met ++ more → Each GoodLayout more → Spans s (length s) pos (length s) (book_image more) → Kept s k met → Here s k pos book
      go met [] q g p kept = absurd (omega (arith, rw image_nil at p.place))
      go met (l ∷ rest) q g p kept =
          let (p₁, p₂) = middle (layout_image l) (book_image rest) (rw (image_cons l rest) at p) in
          let reads = (layout_inverse s).back l tt g.0 p₁ in
          let new = distinct_mid met l rest (subst Distinct q whole.distinct) in
          let (known, start, end) = tally_bounds (tally_of k) met kept.tally in
          let few : length met < 64 = omega (arith, whole.few, ap length q, length-append met (l ∷ rest)) in
          let size = ap (λ (b : Book). length (book_image b)) q in
          let small : length (book_image met) + length (layout_image l) ≤ book_room =
          omega (
            arith,
            whole.small,
            size,
            ap length (image_append met (l ∷ rest)),
            length-append (book_image met) (book_image (l ∷ rest)),
            ap length (image_cons l rest),
            length-append (layout_image l) (book_image rest),
          ) in
          let good = good_snoc met l kept.planned.numbered.good g.0 new few small in
          record {
            accepted = ap is_ok reads;
            room = omega arith;
            bounds = (kept.planned.long, start, end);
            on = λ k₁ next keeps e.
                let place : next ≡ pos + length (layout_image l) = one_end (layout_at s pos) reads e in (
                  omega (arith, layout_long l),
                  record {
                    met = met ++ l ∷ [];
                    more = rest;
                    is = q ∙ sym (append_assoc met (l ∷ []) rest);
                    good = g.1;
                    spans = rw place p₂;
                    kept =
                        kept_more s k met kept (omega arith) l good pos (pos + length (layout_image l)) reads k₁ (keeps l (pos + length (layout_image l)) reads);
                  },
                );
          }

  -- At the end all were met.
  pub met_all : length s ≤ pos → Kept s k book
  met_all h = go w.more w.is w.spans
    where
      go : (more : Book) → book ≡ w.met ++ more → Spans s (length s) pos (length s) (book_image more) → Kept s k book
      go [] q p = subst (Kept s k) (sym (q ∙ append-nil w.met)) w.kept
      go (l ∷ rest) q p =
          let (p₁, p₂) = middle (layout_image l) (book_image rest) (rw (image_cons l rest) at p) in
          absurd (omega (arith, layout_long l, p₁.inside))
