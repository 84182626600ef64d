-- A lent book and a layout by their octets: where a layout stands, and what a book's octets are with one more.
-- The used octets are the book's image, so a layout's octets behind them make the image of the book with it.
use Prim.Native.Nat.{ℕ, ◌+◌, ◌-◌, ◌≤◌}
use mathlib.Core.Path.{◌≡◌, refl, ap}
use mathlib.Core.List.{List, [], ◌∷◌, ◌++◌, append_assoc}
use lib.ListN.{length, take, drop, length-append}
use borrow.Author.Tests.{le-leb}
use Rattle.octets.specs.Limits.{book_room}
use Rattle.octets.specs.Reading.{ok, part}
use Rattle.octets.specs.Writing.{Each, Octet, over}
use Rattle.layouts.specs.Layout.{Layout, layout_at, layout_image, GoodLayout}
use Rattle.layouts.specs.Book.{Book, book_image, book_of, layouts_at, book_in, IsBook}
use Rattle.layouts.specs.Answers.{Looks, Stood}
use Rattle.layouts.specs.declared.Looked.{Looked}
use Rattle.layouts.specs.declared.Looked.TheVariants.{There, Missing}
use Rattle.layouts.proofs.Layouts.{layout_forth}
use Rattle.layouts.proofs.Books.{Lent, image_snoc}

-- A layout's octets where it stands.
pub layout_part : (s : List ℕ) (at next : ℕ) (l : Layout) → Each Octet s → at ≤ length s → layout_at s at ≡ ok l next
    → GoodLayout l × (at ≤ next) × (next ≤ length s) × (take (next - at) (drop at s) ≡ layout_image l)
unfolding part
layout_part s at next l o h e = layout_forth s l at next o h e

-- What was looked up stands where it was found.
pub stood : (s : List ℕ) (n : ℕ) (book : Book) (x : Looked) → Looks s n book x → Stood s x
stood s n book (There p) w = record { layout = w.layout; next = w.next; reads = w.reads }
stood s n book (Missing k) w = tt

-- A new layout's octets right behind the used ones are the book's with it.
pub put_learnt : (octets : List ℕ) (used : ℕ) (book : Book) (l : Layout) → Lent octets used book
    → over octets used (layout_image l) ≡ book_image (book ++ l ∷ []) ++ drop (length (book_image (book ++ l ∷ []))) octets
unfolding over
put_learnt octets used book l h =
    let long : length (book_image (book ++ l ∷ [])) ≡ used + length (layout_image l) =
    rw (image_snoc book l, length-append (book_image book) (layout_image l)) (ap (λ (n : ℕ). n + length (layout_image l)) h.size) in
    rw (long, image_snoc book l, h.image, append_assoc) refl

-- A book of which none is used is empty.
pub empty_book_lem : (octets : List ℕ) → book_room ≤ length octets → IsBook octets 0 × (book_in octets 0 ≡ [])
unfolding book_in book_of layouts_at
empty_book_lem octets h = (rw (le-leb book_room (length octets) h) refl, rw (le-leb book_room (length octets) h) refl)
