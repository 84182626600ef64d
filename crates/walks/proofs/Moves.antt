-- One turn in code: what is told of a step that was read is the turn, with the position of its layout in the book behind it; and what an item leaves of the book.
use Prim.Native.Nat.{ℕ, ◌+◌, ◌≤◌, ◌<◌}
use Rattle.std.specs.Prelude.{Ok}
use mathlib.Core.Path.{◌≡◌, refl, sym, ap, ◌∙◌, subst}
use mathlib.Core.List.{List, [], ◌∷◌, ◌++◌}
use mathlib.Core.Logic.{inl, inr}
use native.Mathlib.Omega.{arith}
use lib.ListN.{length}
use Rattle.octets.specs.Limits.{longest}
use Rattle.octets.specs.Reading.{ok, be}
use Rattle.octets.specs.Writing.{Each, Octet}
use Rattle.layouts.specs.Layout.{Layout, layout_at, GoodLayout}
use Rattle.layouts.specs.Book.{Book, position, book_image, GoodBook}
use Rattle.layouts.proofs.Layouts.{layout_forth}
use Rattle.layouts.proofs.Parts.{layout_number}
use Rattle.layouts.proofs.Growing.{Learnt, learnt}
use Rattle.layouts.proofs.Positions.{position_none, position_new}
use Rattle.rows.proofs.Named.{row_says_lem}
use Rattle.elements.specs.Element.{Item, layout, row, Element, item, finish, Stepped, element_at}
use Rattle.elements.specs.Steps.{holding}
use Rattle.elements.specs.Answers.{step_of, Grows}
use Rattle.elements.specs.Walk.{ended, refused, Seen, Turn, goes, stops, number_of, turn_by, Spot, spot_at, spot_of, turn_at}
use Rattle.elements.proofs.Behind.{element_book, element_new, element_old}
use Rattle.elements.proofs.Turns.{Took, took_at, turn_moves}
use Rattle.elements.proofs.Went.{Went, at_layout, at_row, at_finish, went}
use Rattle.walks.specs.declared.Known.{Known}
use Rattle.walks.specs.Answers.{moved_of, step_moved, ByTurn, GoesOn}

-- The position of the number behind an item's kind, in the book before it, is that of its layout in the book behind it.
same_position : (s : List ℕ) (at rows : ℕ) (b : Book) (st : Stepped) (next : ℕ) (i : Item) → element_at s at rows b ≡ ok st next → st.element ≡ item i
    → (at + 4 + 4 ≤ length s) × (position (number_of i) st.book ≡ position (be 4 s (at + 4)) b)
same_position s at rows b st next i e is = go (went s at rows b st next e)
  where
    learning : (l : Layout) → Learnt b l st.book → position l.number st.book ≡ position l.number b
    learning l (inl h) = ap (position l.number) h.3
    learning l (inr h) = ap (position l.number) h.3 ∙ (position_new l.number b l h.0 refl ∙ sym (position_none l.number b h.0))

    go : Went s at rows b st next → (at + 4 + 4 ≤ length s) × (position (number_of i) st.book ≡ position (be 4 s (at + 4)) b)
    go (at_layout l x k h g el ro) =
        let q : i ≡ layout l = cc in
        let (room, n) = layout_number s (at + 4) h in
        (room, rw (q, n) (learning l (learnt b l (at + 4) st.book x g)))
    go (at_row r k h el ro bo) =
        let q : i ≡ row r = cc in
        let said = row_says_lem s (at + 4) r next b h in
        (omega (arith, said.room), rw (q, bo, said.number) refl)
    go (at_finish n t k h el ro bo) = absurd (let z : ◌≡◌ {A = ℕ} 0 1 = cc in omega arith)

-- So a step and that position tell the turn.
pub step_moved_lem : (s : List ℕ) (at rows : ℕ) (b : Book) (n : ℕ) → (at + 4 + 4 ≤ length s → n ≡ be 4 s (at + 4)) → (st : Stepped) (next : ℕ) → element_at s at rows b ≡ ok st next
    → Ok (step_moved (step_of st next) (position n b)) ≡ moved_of (turn_at s (spot_at at rows b))
step_moved_lem s at rows b n is st next e = rw e (go st.element refl)
  where
    place : (i : Item) → st.element ≡ item i → position n b ≡ position (number_of i) st.book
    place i q = let (room, same) = same_position s at rows b st next i e q in ap (λ (k : ℕ). position k b) (is room) ∙ sym same

    go : (x : Element) → st.element ≡ x → Ok (step_moved (step_of st next) (position n b)) ≡ moved_of (turn_by spot_of at st next x)
    go (item (layout l)) q = rw (q, place (layout l) q) refl
    go (item (row r)) q = rw (q, place (row r) q) refl
    go (finish m t) q = rw q refl

-- What an item leaves of a good book: where it ends, and the same book or one with its layout, which is new.
pub record Newly (s : List ℕ) (at next : ℕ) (b c : Book) : Type 0 where
  pub layout : Layout
  pub reads : layout_at s (at + 4) ≡ ok layout next
  pub is : c ≡ b ++ layout ∷ []
  pub good_layout : GoodLayout layout
  pub good : GoodBook c
  pub few : length b < 64

module _ (s : List ℕ) (o : Each Octet s) (short : length s ≤ longest) (at rows : ℕ) (b : Book) (p : Seen) (y : Spot) (e : turn_at s (spot_at at rows b) ≡ goes p y) where
  took : Took spot_of at (element_at s at rows b) p y
  took = took_at s (spot_at at rows b) p y e

  pub item_spot : y ≡ spot_at p.next y.rows y.book
  item_spot = ap (λ (z : Spot). spot_at z.at y.rows y.book) took.spot

  pub item_moves : (at + 4 ≤ p.next) × (p.next ≤ length s)
  item_moves = subst (λ (z : Spot). (at + 4 ≤ z.at) × (z.at ≤ length s)) took.spot (turn_moves s (spot_at at rows b) o short p y e)

  book_is : y.book ≡ took.stepped.book
  book_is = ap (λ (z : Spot). z.book) took.spot

  filled : length (book_image took.stepped.book) ≡ length (book_image y.book)
  filled = ap (λ (z : Book). length (book_image z)) (sym book_is)

  pub item_old : length (book_image y.book) ≤ length (book_image b) → y.book ≡ b
  item_old old = book_is ∙ element_old s o at rows b took.stepped p.next took.reads (length (book_image b)) (length (book_image y.book)) refl filled old

  module _ (more : length (book_image b) < length (book_image y.book)) where
    pub item_grows : Grows s at p.next b
    item_grows = record { rows = rows; stepped = took.stepped; reads = took.reads; more = omega (arith, filled) }

    pub item_newly : GoodBook b → Newly s at p.next b y.book
    item_newly good =
        let n = element_new s o at rows b took.stepped p.next took.reads (length (book_image b)) (length (book_image y.book)) refl filled more in
        let (room, _) = layout_number s (at + 4) n.reads in
        record {
          layout = n.layout;
          reads = n.reads;
          is = book_is ∙ n.is;
          good_layout = (layout_forth s n.layout (at + 4) p.next o (omega arith) n.reads).0;
          good = subst GoodBook (sym book_is) (element_book s short o at rows b took.stepped p.next took.reads good);
          few = n.few;
        }

    -- What is left in lent octets, where the layout was put behind their book.
    pub item_left : (octets exit : List ℕ) → ((rows : ℕ) (st : Stepped) → element_at s at rows b ≡ ok st p.next → exit ≡ holding st.book octets) → exit ≡ holding y.book octets
    item_left octets exit left = left rows took.stepped took.reads ∙ ap (λ (z : Book). holding z octets) (sym book_is)

-- A turn, whatever it met, is how a walk goes on where no row is passed by a plan.
pub turned_on : {s : List ℕ} {x : Spot} {k : Known} {most : ℕ} {entry exit : List ℕ} (labels : List ℕ) (t : Turn Spot)
    → ByTurn s x k most entry exit (moved_of t) → GoesOn s x k labels most entry exit (moved_of t)
turned_on labels (goes p y) b = b
turned_on labels (stops (ended n t next)) b = b
turned_on labels (stops (refused n p)) b = b
