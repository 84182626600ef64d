-- Learning a layout: what it does to a book, and that a part of an accepted document's book can always learn.
use Prim.Native.Nat.{ℕ, ◌+◌, ◌≤◌, ◌<◌}
use Rattle.std.specs.Prelude.{Result, Ok, Err}
use mathlib.Core.Path.{◌≡◌, refl, sym, ◌∙◌, ap}
use mathlib.Core.List.{[], ◌∷◌, ◌++◌}
use mathlib.Core.Bool.{Bool, true, false, ◌&&◌}
use mathlib.Core.Option.{Option, some, none}
use mathlib.Core.Logic.{◌⊎◌, inl, inr}
use native.Mathlib.Omega.{arith}
use lib.ListN.{length, length-append}
use borrow.Author.Tests.{le-leb, lt-ltb}
use Rattle.octets.specs.Limits.{book_room, most_layouts}
use Rattle.octets.specs.Reading.{ok}
use Rattle.octets.proofs.Copies.{same_refl}
use Rattle.octets.proofs.Spans.{each_join}
use Rattle.octets.proofs.Inverse.{ok_value, no_ok}
use Rattle.layouts.specs.Layout.{Layout, layout_image, GoodLayout}
use Rattle.layouts.specs.Book.{Book, find, is_none, book_image, learning, learn_by, learn, Distinct, GoodBook}
use Rattle.layouts.specs.declared.Learning.{Learning}
use Rattle.layouts.specs.declared.Learning.TheVariants.{Known, New}
use Rattle.octets.specs.declared.Fault.{Fault}
use Rattle.layouts.proofs.Finding.{some_same, First, first, find_here, find_nil, find_front, find_behind, Within, within_front, within_snoc, distinct_snoc, each_find, total, total_within, total_length, total_image}
use Rattle.layouts.proofs.Layouts.{layout_once}
use Rattle.layouts.proofs.Books.{image_nil, image_snoc}
use Rattle.layouts.proofs.Judging.{Learned, learned}

-- What learning does.
abbrev pub Learnt : Book → Layout → Book → Type 0
Learnt b l c =
    ((m : Layout) × (find l.number b ≡ some m) × (layout_image m ≡ layout_image l) × (c ≡ b))
    ⊎ ((find l.number b ≡ none) × (length b < most_layouts) × (length (book_image b) + length (layout_image l) ≤ book_room) × (c ≡ b ++ l ∷ []))

pub learnt : (b : Book) (l : Layout) (at : ℕ) (c : Book) (end : ℕ) → learn b l at ≡ ok c end → Learnt b l c
unfolding learn
learnt b l at c end e = go (learning b (length (book_image b)) l.number (layout_image l)) (learned b (length (book_image b)) l.number (layout_image l)) e
  where
    go : (x : Result Learning Fault) → Learned b (length (book_image b)) l.number (layout_image l) x → learn_by b l at x ≡ ok c end → Learnt b l c
    go (Ok Known) w e = inl (w.0, w.1, w.2, ok_value e refl)
    go (Ok (New v)) w e = inr (w.0, w.1, w.2, ok_value e refl)
    go (Err f) w e = absurd (no_ok refl e)

pub learn_known : (b : Book) (l : Layout) (at : ℕ) (m : Layout) → find l.number b ≡ some m → layout_image m ≡ layout_image l → learn b l at ≡ ok b at
unfolding learn
learn_known b l at m f q = rw (f, q, same_refl (layout_image l))

pub learn_new : (b : Book) (l : Layout) (at : ℕ) → find l.number b ≡ none → length b < most_layouts
    → length (book_image b) + length (layout_image l) ≤ book_room → learn b l at ≡ ok (b ++ l ∷ []) at
unfolding learn
learn_new b l at f x y = rw (f, lt-ltb _ _ x, le-leb _ _ y)

total_snoc : (w : Layout → ℕ) (b : Book) (l : Layout) → total w (b ++ l ∷ []) ≡ total w b + w l
total_snoc w [] l = omega arith
total_snoc w (m ∷ r) l = let h : total w (r ++ l ∷ []) ≡ total w r + w l = total_snoc w r l in omega arith

-- A number is in two books joined where it is in one of them.
pub absent_append : (n : ℕ) (b c : Book) → is_none (find n (b ++ c)) ≡ is_none (find n b) && is_none (find n c)
absent_append n b c = go (find n b) refl
  where
    go : (o : Option Layout) → find n b ≡ o → is_none (find n (b ++ c)) ≡ is_none (find n b) && is_none (find n c)
    go none e = rw (e, find_behind n b c e)
    go (some m) e = rw (e, find_front n b c m e)

-- The same numbers.
abbrev pub Alike : Book → Book → Type 0
Alike b c = (n : ℕ) → is_none (find n b) ≡ is_none (find n c)

pub alike_append : (b c d : Book) → Alike b c → Alike (b ++ d) (c ++ d)
alike_append b c d e n = absent_append n b d ∙ (ap (λ (t : Bool). t && is_none (find n d)) (e n) ∙ sym (absent_append n c d))

and_true : (t : Bool) → t && true ≡ t
and_true true = refl
and_true false = refl

pub alike_known : (b : Book) (l m : Layout) → find l.number b ≡ some m → Alike b (b ++ l ∷ [])
alike_known b l m f n = go (first n l [])
  where
    go : First n l [] → is_none (find n b) ≡ is_none (find n (b ++ l ∷ []))
    go (inl h) = let e : find n b ≡ some m = ap (λ (k : ℕ). find k b) h.0 ∙ f in rw (e, find_front n b (l ∷ []) m e)
    go (inr h) = sym (absent_append n b (l ∷ []) ∙ rw (h.1, find_nil n) (and_true (is_none (find n b))))

-- A book within another's, learning a layout that the other has.
pub record Learns (f b : Book) (l : Layout) (at : ℕ) : Type 0 where
  pub book : Book
  pub learns : learn b l at ≡ ok book at
  pub distinct : Distinct book
  pub within : Within book f
  pub alike : Alike book (b ++ l ∷ [])

pub learns_within : (f b : Book) (l : Layout) (at : ℕ) → GoodBook f → Distinct b → Within b f → find l.number f ≡ some l → Learns f b l at
learns_within f b l at bounded d w has = go (find l.number b) refl
  where
    go : (o : Option Layout) → find l.number b ≡ o → Learns f b l at
    go (some m) e =
        let q : m ≡ l = some_same (w l.number m e) has in
        record { book = b; learns = learn_known b l at m e (ap layout_image q); distinct = d; within = w; alike = alike_known b l m e }
    go none e =
        let c : Book = b ++ l ∷ [] in
        let d2 : Distinct (b ++ l ∷ []) = distinct_snoc b l d e in
        let w2 : Within (b ++ l ∷ []) f = within_snoc b f l w has in
        let few = total_within (λ x. 1) (b ++ l ∷ []) f d2 w2 in
        let small = total_within (λ x. length (layout_image x)) (b ++ l ∷ []) f d2 w2 in
        let x = bounded.few in
        let y = bounded.small in
        record {
          book = b ++ l ∷ [];
          learns = learn_new b l at e (omega (arith, few, total_snoc (λ x. 1) b l, total_length b, total_length f))
              (omega (arith, small, total_snoc (λ x. length (layout_image x)) b l, total_image b, total_image f));
          distinct = d2;
          within = w2;
          alike = λ n. refl;
        }

-- A good book that learns a good layout is a good book that has it, and keeps what it had.
pub record Grown (b : Book) (l : Layout) (c : Book) : Type 0 where
  pub good : GoodBook c
  pub keeps : Within b c
  pub has : find l.number c ≡ some l

pub good_nil : GoodBook []
good_nil = record { few = omega arith; small = rw image_nil (omega arith); good = tt; distinct = tt }

pub good_snoc : (b : Book) (l : Layout) → GoodBook b → GoodLayout l → find l.number b ≡ none → length b < most_layouts
    → length (book_image b) + length (layout_image l) ≤ book_room → GoodBook (b ++ l ∷ [])
good_snoc b l g good new few small =
    record {
      few = rw length-append (omega arith);
      small = rw (image_snoc b l, length-append (book_image b) (layout_image l)) small;
      good = each_join GoodLayout b (l ∷ []) g.good (good, tt);
      distinct = distinct_snoc b l g.distinct new;
    }

pub grown : (b : Book) (l : Layout) (at : ℕ) (c : Book) (end : ℕ) → GoodBook b → GoodLayout l → learn b l at ≡ ok c end → Grown b l c
grown b l at c end g good e = go (learnt b l at c end e)
  where
    go : Learnt b l c → Grown b l c
    go (inl h) =
        let q : h.0 ≡ l = layout_once h.0 l (each_find GoodLayout l.number b h.0 g.good h.1) good h.2 in
        rw h.3 (record { good = g; keeps = λ n m f. f; has = h.1 ∙ ap some q })
    go (inr h) =
        rw h.3 (record {
          good = good_snoc b l g good h.0 h.1 h.2;
          keeps = within_front b (l ∷ []);
          has = find_behind l.number b (l ∷ []) h.0 ∙ find_here l.number l [] refl;
        })
