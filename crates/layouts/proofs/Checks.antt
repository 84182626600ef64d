-- The laws of checking a lent book: the layouts met are kept by their numbers, and reading on behind them is reading all.
use Prim.Native.Nat.{ℕ, ◌+◌, ◌-◌, ◌≤◌, ◌<◌}
use mathlib.Core.Path.{◌≡◌, refl, ap, ◌∙◌, sym}
use mathlib.Core.List.{List, [], ◌∷◌, ◌++◌}
use mathlib.Core.Bool.{Bool, true, false, not, ◌&&◌, ◌||◌}
use mathlib.Core.Option.{some, none}
use lib.ListN.{length, take, set}
use lib.Seq.{take-suc-set}
use lib.Dec.{leb, eqb}
use borrow.Author.Tests.{ne_eqb, eq-eqb, eqb-true, eqb-false, le-leb, lt-leb}
use native.Mathlib.Numerals.{add-one}
use native.Mathlib.Omega.{arith}
use Rattle.std.specs.List.{list_any}
use Rattle.octets.specs.Limits.{book_room, most_layouts}
use Rattle.octets.specs.Reading.{Read, ok, no, choose, ends, is_ok, be, value_or}
use Rattle.octets.specs.Writing.{Each, Octet}
use Rattle.octets.proofs.Ends.{ended, refused, left_suc, none_left}
use Rattle.layouts.specs.Layout.{Layout, layout_at}
use Rattle.layouts.specs.Book.{Book, find, is_none, numbers_of, layouts_at, as17, book_of, book_in, IsBook}
use Rattle.layouts.specs.Answers.{is_among}
use Rattle.layouts.proofs.Finding.{absent}
use Rattle.layouts.proofs.Books.{layouts_end, layouts_more, book_forth}
use Rattle.layouts.proofs.Parts.{layout_number}

either_side : (a b : ℕ) → eqb a b ≡ eqb b a
either_side a b = go (eqb b a) refl
  where
    go : (t : Bool) → eqb b a ≡ t → eqb a b ≡ t
    go true e = eq-eqb a b (sym (eqb-true b a e))
    go false e = ne_eqb a b (λ q. eqb-false b a e (sym q))

-- A number is among others where one of them is equal to it, from whichever side the two are compared.
pub among_any : (n : ℕ) (met : List ℕ) → list_any (λ (m : ℕ). eqb m n) met ≡ is_among n met
among_any n [] = refl
among_any n (m ∷ rest) = go (eqb n m) (eqb m n) (either_side m n) (among_any n rest)
  where
    go : (t u : Bool) → u ≡ t → list_any (λ (m : ℕ). eqb m n) rest ≡ is_among n rest
        → u || list_any (λ (m : ℕ). eqb m n) rest ≡ choose t (λ _. true) (λ _. is_among n rest)
    go t true e again = rw (sym e) refl
    go t false e again = rw (sym e) again

numbers_snoc : (book : Book) (l : Layout) → numbers_of (book ++ l ∷ []) ≡ numbers_of book ++ l.number ∷ []
numbers_snoc [] l = refl
numbers_snoc (m ∷ rest) l = ap (λ (xs : List ℕ). m.number ∷ xs) (numbers_snoc rest l)

-- A number is among them where a layout of it is found.
among_numbers : (n : ℕ) (book : Book) → is_none (find n book) ≡ not (is_among n (numbers_of book))
unfolding find
among_numbers n [] = refl
among_numbers n (l ∷ rest) = go (eqb n l.number) (among_numbers n rest)
  where
    go : (t : Bool) → is_none (find n rest) ≡ not (is_among n (numbers_of rest))
        → is_none (choose t (λ _. some l) (λ _. find n rest)) ≡ not (choose t (λ _. true) (λ _. is_among n (numbers_of rest)))
    go true again = refl
    go false again = again

module _ (n : ℕ) (book : Book) {seen : List ℕ} (e : seen ≡ numbers_of book) where
  pub met_known : is_among n seen ≡ true → is_none (find n book) ≡ false
  met_known t = among_numbers n book ∙ ap not (ap (is_among n) (sym e) ∙ t)

  pub met_new : is_among n seen ≡ false → is_none (find n book) ≡ true
  met_new t = among_numbers n book ∙ ap not (ap (is_among n) (sym e) ∙ t)

-- The layouts met before a place, with their numbers, and that reading on from there is reading all.
pub record Met (s seen : List ℕ) (k pos : ℕ) : Type 0 where
  pub met : Book
  pub kept : take k seen ≡ numbers_of met
  pub same : layouts_at most_layouts [] s 0 ≡ layouts_at (most_layouts - k) met s pos

module _ (s : List ℕ) where
  module _ (seen : List ℕ) (k pos : ℕ) (m : Met s seen k pos) where
    pub met_end : pos ≡ length s → is_ok (layouts_at most_layouts [] s 0) ≡ true
    met_end e = ap is_ok (m.same ∙ layouts_end s (most_layouts - k) m.met pos e)

    -- Where no more may follow, there are just these if the octets end here.
    pub met_last : most_layouts ≤ k → eqb pos (length s) ≡ is_ok (layouts_at most_layouts [] s 0)
    unfolding layouts_at
    met_last f = rw (m.same, none_left most_layouts k f) (go (eqb pos (length s)))
      where
        go : (t : Bool) → t ≡ is_ok (choose {A = Read Book} t (λ _. ok m.met pos) (λ _. no 17 0))
        go true = refl
        go false = refl

    module _ (h : pos < length s) where
      module _ (more : k < most_layouts) where
        pub met_refused : (n p : ℕ) → ends (layout_at s pos) ≡ no n p → is_ok (layouts_at most_layouts [] s 0) ≡ false
        unfolding layouts_at
        met_refused n p e = rw (m.same, left_suc most_layouts k more, ne_eqb pos (length s) (λ z. omega arith), refused (layout_at s pos) n p e) refl

        -- The layout here, whose number is compared with those seen.
        module _ (next number : ℕ) (e : ends (layout_at s pos) ≡ ok next next) (q : number ≡ be 4 s pos) where
          pub met_again : is_among number (take k seen) ≡ true → is_ok (layouts_at most_layouts [] s 0) ≡ false
          unfolding layouts_at
          met_again t =
              let (l, r) = ended (layout_at s pos) next e in
              let g : is_none (find l.number m.met) ≡ false =
              ap (λ (n : ℕ). is_none (find n m.met)) (sym (q ∙ (layout_number s pos r).1)) ∙ met_known number m.met m.kept t in
              rw (m.same, left_suc most_layouts k more, ne_eqb pos (length s) (λ z. omega arith), r, g) refl

          pub met_on : k < length seen → is_among number (take k seen) ≡ false → Met s (set seen k number) (k + 1) next
          met_on long t =
              let (l, r) = ended (layout_at s pos) next e in
              let same : number ≡ l.number = q ∙ (layout_number s pos r).1 in
              let g : find l.number m.met ≡ none =
              ap (λ (n : ℕ). find n m.met) (sym same) ∙ absent (find number m.met) (met_new number m.met m.kept t) in
              record {
                met = m.met ++ l ∷ [];
                kept = rw (add-one k, take-suc-set seen k number long, m.kept, same) (sym (numbers_snoc m.met l));
                same = m.same ∙ ap (λ (n : ℕ). layouts_at n m.met s pos) (left_suc most_layouts k more) ∙ layouts_more s (most_layouts - (k + 1)) m.met pos l next h r g;
              }

-- Whether lent octets hold a book goes by their lengths and by the layouts in the used ones.
as17_is : {A : Type 0} (r : Read A) → is_ok (as17 r) ≡ is_ok r
as17_is (ok a n) = refl
as17_is (no n p) = refl

module _ (octets : List ℕ) (used : ℕ) where
  pub book_short : length octets < book_room → is_ok (book_of octets used) ≡ false
  unfolding book_of
  book_short h = rw (lt-leb book_room (length octets) h) refl

  pub book_over : book_room ≤ length octets → book_room < used → is_ok (book_of octets used) ≡ false
  unfolding book_of
  book_over h g = rw (le-leb book_room (length octets) h, lt-leb used book_room g) refl

  pub book_on : book_room ≤ length octets → used ≤ book_room → is_ok (book_of octets used) ≡ is_ok (layouts_at most_layouts [] (take used octets) 0)
  unfolding book_of
  book_on h g = rw (le-leb book_room (length octets) h, le-leb used book_room g) (as17_is (layouts_at most_layouts [] (take used octets) 0))

-- What the check has found good is a book, which the next call requires; what it has found bad is refused by 17.
pub good_book : (octets : List ℕ) (used : ℕ) → Each Octet octets → is_ok (book_of octets used) ≡ true → IsBook octets used
unfolding book_in
good_book octets used o t = go (book_of octets used) refl t
  where
    go : (r : Read Book) → book_of octets used ≡ r → is_ok r ≡ true → book_of octets used ≡ ok (value_or [] (book_of octets used)) used
    go (ok b n) e t = rw (e, (book_forth octets used o e).1) refl
    go (no n p) e t = absurd (let z : ◌≡◌ {A = ℕ} 0 1 = cc in omega arith)

pub bad_book : (octets : List ℕ) (used : ℕ) → is_ok (book_of octets used) ≡ false → book_of octets used ≡ no 17 0
unfolding book_of
bad_book octets used t = go (leb book_room (length octets) && leb used book_room) (layouts_at most_layouts [] (take used octets) 0) t
  where
    go : (b : Bool) (r : Read Book) → is_ok (choose b (λ _. as17 r) (λ _. no 17 0)) ≡ false → choose {A = Read Book} b (λ _. as17 r) (λ _. no 17 0) ≡ no 17 0
    go true (ok c n) t = absurd (let z : ◌≡◌ {A = ℕ} 0 1 = cc in omega arith)
    go true (no n p) t = refl
    go false r t = refl
