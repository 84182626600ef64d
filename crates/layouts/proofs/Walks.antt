-- Octets that are layouts one behind another: a walk over them meets the layouts of the book in order, so a look-up is one in what is left.
use Prim.Native.Nat.{ℕ, ◌+◌, ◌≤◌, ◌<◌}
use mathlib.Core.Path.{◌≡◌, ap, ◌∙◌, sym, subst}
use mathlib.Core.List.{List, [], ◌∷◌}
use mathlib.Core.Option.{some, none}
use lib.ListN.{length, take}
use lib.Seq.{length-take-le}
use native.Mathlib.Omega.{arith}
use Rattle.octets.specs.Reading.{ok, ends, be}
use Rattle.octets.specs.Writing.{Each, Octet}
use Rattle.octets.proofs.Spans.{Spans, middle}
use Rattle.layouts.specs.Layout.{Layout, layout_at, layout_image, GoodLayout}
use Rattle.layouts.specs.Book.{Book, find, book_image, book_in, IsBook}
use Rattle.layouts.specs.Answers.{Image, StandsFor}
use Rattle.layouts.proofs.Layouts.{layout_inverse, layout_long}
use Rattle.layouts.proofs.Finding.{find_here, find_skip, find_nil}
use Rattle.layouts.proofs.Books.{Lent, book_forth, image_nil, image_cons}
use Rattle.layouts.proofs.Parts.{layout_number}

-- The layouts from a place on, of a book of which k were passed, none of them of the number.
pub record Left (s : List ℕ) (n : ℕ) (book : Book) (pos k : ℕ) : Type 0 where
  pub more : Book
  pub good : Each GoodLayout more
  pub spans : Spans s (length s) pos (length s) (book_image more)
  pub same : find n book ≡ find n more
  pub count : length book ≡ k + length more

-- The layout at a place.
pub record Here (s : List ℕ) (n : ℕ) (book : Book) (pos k : ℕ) : Type 0 where
  pub layout : Layout
  pub next : ℕ
  pub reads : layout_at s pos ≡ ok layout next
  pub number : be 4 s pos ≡ layout.number
  pub room : pos + 4 ≤ length s
  pub later : pos < next
  pub inside : next ≤ length s
  pub found : n ≡ layout.number → find n book ≡ some layout
  pub left : (n ≡ layout.number → ⊥) → Left s n book next (k + 1)

module _ (s : List ℕ) (n : ℕ) (book : Book) where
  pub here : (pos k : ℕ) → pos < length s → Left s n book pos k → Here s n book pos k
  here pos k h left = go left.more left.good left.spans left.same left.count
    where
      go : (more : Book) → Each GoodLayout more → Spans s (length s) pos (length s) (book_image more) → find n book ≡ find n more
          → length book ≡ k + length more → Here s n book pos k
      go [] g p e c = absurd (omega (arith, rw image_nil at p.place))
      go (l ∷ rest) g p e c =
          let (p₁, p₂) = middle (layout_image l) (book_image rest) (rw (image_cons l rest) at p) in
          let reads = (layout_inverse s).back l tt g.0 p₁ in
          record {
            layout = l;
            next = pos + length (layout_image l);
            reads = reads;
            number = (layout_number s pos reads).1;
            room = (layout_number s pos reads).0;
            later = omega (arith, layout_long l);
            inside = p₁.inside;
            found = λ q. e ∙ find_here n l rest q;
            left = λ q. record { more = rest; good = g.1; spans = p₂; same = e ∙ find_skip n l rest q; count = omega arith };
          }

  pub left_none : (pos k : ℕ) → length s ≤ pos → Left s n book pos k → (find n book ≡ none) × (length book ≡ k)
  left_none pos k h left = go left.more left.spans left.same left.count
    where
      go : (more : Book) → Spans s (length s) pos (length s) (book_image more) → find n book ≡ find n more
          → length book ≡ k + length more → (find n book ≡ none) × (length book ≡ k)
      go [] p e c = (e ∙ find_nil n, omega arith)
      go (l ∷ rest) p e c =
          let (p₁, p₂) = middle (layout_image l) (book_image rest) (rw (image_cons l rest) at p) in
          absurd (omega (arith, layout_long l, p₁.inside))

  module _ (pos k : ℕ) (at : Here s n book pos k) where
    pub here_on : (next : ℕ) → ends (layout_at s pos) ≡ ok next next → (be 4 s pos ≡ n → ⊥) → (pos < next) × (next ≤ length s) × Left s n book next (k + 1)
    here_on next e other =
        let q : at.next ≡ next = cc (ap ends at.reads, e) in
        (omega (arith, at.later), omega (arith, at.inside), subst (λ (m : ℕ). Left s n book m (k + 1)) q (at.left (λ same. other (at.number ∙ sym same))))

    pub here_stands : be 4 s pos ≡ n → StandsFor s n book pos
    here_stands e = record { layout = at.layout; next = at.next; found = at.found (sym e ∙ at.number); reads = at.reads }

-- What lent octets that hold a book are: their used part is the book's image, and as long as is said.
pub lent_book_lem : (octets : List ℕ) (used : ℕ) → Each Octet octets → IsBook octets used → Lent octets used (book_in octets used)
lent_book_lem octets used o e = (book_forth octets used o e).0

pub book_image_lem : (octets : List ℕ) (used : ℕ) (book : Book) → Lent octets used book → Image (take used octets) book
book_image_lem octets used book h = record { is = h.image; good = h.good.good }

pub lent_length : (octets : List ℕ) (used : ℕ) {book : Book} → Lent octets used book → length (take used octets) ≡ used
lent_length octets used h = length-take-le used octets (omega (arith, h.room, h.most))
