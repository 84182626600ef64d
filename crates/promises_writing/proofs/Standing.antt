-- What stands between two calls, and what each kind of deed makes of it: octets put behind those written, a layout completed, a row closed, an element given up.
-- Each is an equation on lists: what is laid over falls on the seam behind the octets written, or inside them. Assumes nothing.
use Prim.Native.Nat.{ℕ, ◌+◌, ◌-◌, ◌^◌, ◌≤◌, ◌<◌}
use mathlib.Core.Path.{◌≡◌, sym, ap, ◌∙◌}
use mathlib.Core.List.{List, ◌++◌, append_assoc}
use mathlib.Core.Bool.{Bool, true, false}
use mathlib.Core.Option.{some}
use mathlib.Core.Logic.{inl, inr}
use native.Mathlib.Omega.{arith}
use Rattle.std.specs.Prelude.{Ok}
use native.Mathlib.Nat.{add-zero}
use lib.ListN.{length, take, drop, replicate, length-append, length-drop, length-replicate}
use lib.Seq.{take-append_seam, drop-append_seam, drop-append-add, drop-append-le, drop-drop, take_at, drop_at}
use lib.Dec.{ltb, lit<}
use borrow.Author.Tests.{le-leb, lt-ltb}
use Rattle.octets.specs.Limits.{book_room, most_layouts}
use Rattle.octets.specs.Reading.{be, part}
use Rattle.octets.specs.Writing.{word, images, over}
use Rattle.octets.proofs.Spans.{all_spans, length_word, be_word}
use Rattle.octets.proofs.Copies.{same_refl}
use Rattle.layouts.specs.Layout.{Layout, layout_image, GoodLayout}
use Rattle.layouts.specs.Book.{Book, find, book_image}
use Rattle.layouts.specs.declared.Learning.TheVariants.{Known, New}
use Rattle.layouts.proofs.Layouts.{layout_inverse}
use Rattle.layouts.proofs.Parts.{layout_number}
use Rattle.layouts.proofs.Books.{image_snoc}
use Rattle.layouts.proofs.Growing.{Learnt}
use Rattle.rows.specs.Row.{Row, field_image, length_image, row_image}
use Rattle.elements.specs.Element.{row}
use Rattle.elements.specs.Document.{item_image}
use Rattle.writing_parts.specs.Faults.{Fault, fine}
use Rattle.writing_parts.specs.Answers.{learning_of, refusal, added}
use Rattle.writer.specs.declared.Wanted.{Wanted}
use Rattle.writer.specs.declared.Wanted.TheVariants as wants
use Rattle.writer.specs.declared.State.{State}
use Rattle.writer.specs.Writer.{close_row, give_up, Written, Deed, put, attributes, row_layout, does, layout_so_far, left_by}
use Rattle.writer.proofs.Tests.{length_size}
use Rattle.writing_parts.proofs.Over.{over_nil}
use Rattle.promises_writing.specs.Promise.{onto}

-- The book that was learnt, and a state but for its place.
pub record Spot : Type 0 where
  pub book : Book
  pub turn : Wanted
  pub count : ℕ
  pub start : ℕ
  pub rows : ℕ

abbrev pub spot : Book → Wanted → ℕ → ℕ → ℕ → Spot
spot book turn count start rows = record { book = book; turn = turn; count = count; start = start; rows = rows }

abbrev pub state_at : List ℕ → Spot → State
state_at done x = record { place = length done; turn = x.turn; count = x.count; start = x.start; rows = x.rows }

-- What stands where octets were written: anything behind them, and the book's image in the lent octets.
abbrev pub standing : (lent done rest : List ℕ) → Spot → Written
standing lent done rest x =
    record { state = state_at done x; buffer = done ++ rest; book = onto lent (book_image x.book); used = length (book_image x.book) }

-- What a deed leaves there.
abbrev pub left_at : (lent done rest : List ℕ) → Spot → Deed → Written
left_at lent done rest x d = left_by (state_at done x) (done ++ rest) (onto lent (book_image x.book)) (length (book_image x.book)) x.book d

pub onto_length : (lent xs : List ℕ) → length xs ≤ length lent → length (onto lent xs) ≡ length lent
onto_length lent xs h = simp (length-append, length-drop) (omega arith)

pub behind : {d f : List ℕ} (xs : List ℕ) → d ≡ f → d ++ xs ≡ f ++ xs
behind xs e = ap (λ (z : List ℕ). z ++ xs) e

-- Laying octets over a list: on a seam, and over as many.
over_seam : (done rest xs : List ℕ) → over (done ++ rest) (length done) xs ≡ (done ++ xs) ++ drop (length xs) rest
unfolding over
over_seam done rest xs = rw (take-append_seam done rest, drop-append-add done rest (length xs)) (sym (append_assoc done xs (drop (length xs) rest)))

-- What was lent, behind octets put.
pub drop_on : (lent done xs : List ℕ) → drop (length xs) (drop (length done) lent) ≡ drop (length (done ++ xs)) lent
drop_on lent done xs = rw (drop-drop (length xs) (length done) lent, length-append done xs)

over_onto : (lent done xs : List ℕ) → over (onto lent done) (length done) xs ≡ onto lent (done ++ xs)
over_onto lent done xs = rw (over_seam done (drop (length done) lent) xs, drop_on lent done xs)

over_middle : (pre old new post : List ℕ) (at : ℕ) → at ≡ length pre → length old ≡ length new → over (pre ++ (old ++ post)) at new ≡ pre ++ (new ++ post)
unfolding over
over_middle pre old new post at e f =
    rw (e, take-append_seam pre (old ++ post), drop-append-add pre (old ++ post) (length new), ← f, drop-append_seam old post)

-- A number read back from where it was put.
be_at : (w n at : ℕ) (pre post : List ℕ) → n < 256 ^ w → at ≡ length pre → be w (pre ++ (word w n ++ post)) at ≡ n
be_at w n at pre post h e = rw e (be_word w n pre post h)

-- Octets put behind those that stand; the book takes nothing.
pub put_leaves : (lent done rest : List ℕ) (x : Spot) (t u : Wanted) (fault : Fault) (xs : List ℕ) (j i : ℕ)
    → left_at lent done rest x (put (state_at done x) t fault xs u j i) ≡ standing lent (done ++ xs) (drop (length xs) rest) (spot x.book u j i x.rows)
put_leaves lent done rest x t u fault xs j i =
    rw (
      over_nil (onto lent (book_image x.book)) (length (book_image x.book)),
      add-zero (length (book_image x.book)),
      over_seam done rest xs,
      length-append done xs,
    )

-- The open layout from its number on, with the call's octets behind it: all but the kind.
pub so_far : (before more rest xs done : List ℕ) (x : Spot) (l : Layout) → done ≡ before ++ more → x.start ≡ length before → 4 ≤ length more
    → more ++ xs ≡ word 4 1 ++ layout_image l → layout_so_far (state_at done x) (done ++ rest) xs ≡ layout_image l
unfolding layout_so_far part
so_far before more rest xs done x l e start h whole =
    let size : length (drop 4 more) ≡ length done - (x.start + 4) = omega (arith, length-drop 4 more, ap length e, length-append before more) in
    let from : drop (x.start + 4) (done ++ rest) ≡ drop 4 more ++ rest =
    rw (e, start, append_assoc before more rest, drop-append-add before (more ++ rest) 4) (drop-append-le 4 more rest h) in
    ap (λ (z : List ℕ). take (length done - (x.start + 4)) z ++ xs) from
    ∙ (ap (λ (z : List ℕ). z ++ xs) (take_at (drop 4 more) rest (length done - (x.start + 4)) size)
    ∙ (sym (drop-append-le 4 more xs h) ∙ (ap (drop 4) whole ∙ drop_at (word 4 1) (layout_image l) 4 (length_word 4 1))))

-- A layout's number stands first in it.
pub number_first : (l : Layout) → GoodLayout l → be 4 (layout_image l) 0 ≡ l.number
number_first l g = let s : List ℕ = layout_image l in (layout_number s 0 ((layout_inverse s).back l tt g (all_spans s))).1

-- What a book takes of a layout that it learns, and what stands in the lent octets then.
pub record Takes (lent : List ℕ) (b : Book) (l : Layout) (next : Book) : Type 0 where
  pub learnt : refusal (learning_of b (length (book_image b)) (layout_image l)) ≡ fine
  pub book : over (onto lent (book_image b)) (length (book_image b)) (added (learning_of b (length (book_image b)) (layout_image l)) (layout_image l)) ≡ onto lent (book_image next)
  pub used : length (book_image b) + length (added (learning_of b (length (book_image b)) (layout_image l)) (layout_image l)) ≡ length (book_image next)

pub takes_learnt : (lent : List ℕ) (b : Book) (l : Layout) (next : Book) → GoodLayout l → Learnt b l next → Takes lent b l next
takes_learnt lent b l next g (inl h) =
    let is : learning_of b (length (book_image b)) (layout_image l) ≡ Ok Known = rw (number_first l g, h.1, h.2, same_refl (layout_image l)) in
    record {
      learnt = rw is;
      book = rw (is, h.3) (over_nil (onto lent (book_image b)) (length (book_image b)));
      used = rw (is, h.3) (add-zero (length (book_image b)));
    }
takes_learnt lent b l next g (inr h) =
    let is : learning_of b (length (book_image b)) (layout_image l) ≡ Ok (New (length (book_image b) + length (layout_image l))) =
    rw (number_first l g, h.0, lt-ltb (length b) most_layouts h.1, le-leb (length (book_image b) + length (layout_image l)) book_room h.2) in
    record {
      learnt = rw is;
      book = rw (is, h.3, image_snoc b l) (over_onto lent (book_image b) (layout_image l));
      used = rw (is, h.3, image_snoc b l, length-append (book_image b) (layout_image l));
    }

-- The last octets of a layout put; the book takes it.
pub complete_leaves : (lent done rest : List ℕ) (x : Spot) (t : Wanted) (fault : Fault) (xs : List ℕ) (l : Layout) (next : Book) → Takes lent x.book l next
    → layout_so_far (state_at done x) (done ++ rest) xs ≡ layout_image l
    → left_at lent done rest x (attributes (state_at done x) t fault xs 0) ≡ standing lent (done ++ xs) (drop (length xs) rest) (spot next wants.Element 0 0 x.rows)
complete_leaves lent done rest x t fault xs l next takes e = rw (e, takes.book, takes.used, over_seam done rest xs, length-append done xs)

-- The open row's layout is the one that its number names.
pub row_layout_lem : (before post rest done : List ℕ) (x : Spot) (n : ℕ) (l : Layout) → done ≡ before ++ (word 4 2 ++ (word 4 n ++ post)) → x.start ≡ length before
    → n < 2 ^ 32 → find n x.book ≡ some l → row_layout (state_at done x) (done ++ rest) x.book ≡ some l
unfolding row_layout
row_layout_lem before post rest done x n l e start small found =
    let form : done ++ rest ≡ (before ++ word 4 2) ++ (word 4 n ++ (post ++ rest)) = behind rest e ∙ simp append_assoc in
    let number : be 4 (done ++ rest) (x.start + 4) ≡ n =
    ap (λ (z : List ℕ). be 4 z (x.start + 4)) form
    ∙ be_at 4 n (x.start + 4) (before ++ word 4 2) (post ++ rest) small (omega (arith, length-append before (word 4 2), length_word 4 2)) in
    rw (number, found)

-- Whether an open row is stated is read back from its length, which is zero yet.
stated_back : (t : Bool) (pre post : List ℕ) (p : ℕ) → p ≡ length pre → ltb (be 4 (pre ++ (length_image t 0 ++ post)) p) 0xffffffff ≡ t
stated_back true pre post p e = rw (be_at 4 0 p pre post (lit< tt) e)
stated_back false pre post p e = rw (be_at 4 0xffffffff p pre post (lit< tt) e)

-- Closing a row puts its length where zero stood.
closing : (before values rest done : List ℕ) (n st : ℕ) (stated : Bool) → done ≡ before ++ (word 4 2 ++ (word 4 n ++ (length_image stated 0 ++ values))) → st ≡ length before
    → (over (done ++ rest) (st + 8) (length_image (ltb (be 4 (done ++ rest) (st + 8)) 0xffffffff) (length done - (st + 12)))
    ≡ (before ++ (word 4 2 ++ ((word 4 n ++ length_image stated (length values)) ++ values))) ++ rest)
    × (length done ≡ length (before ++ (word 4 2 ++ ((word 4 n ++ length_image stated (length values)) ++ values))))
closing before values rest done n st stated e f =
    let pre : List ℕ = (before ++ word 4 2) ++ word 4 n in
    let post : List ℕ = values ++ rest in
    let form : done ++ rest ≡ pre ++ (length_image stated 0 ++ post) = behind rest e ∙ simp append_assoc in
    let long : length done ≡ length before + 12 + length values = ap length e ∙ simp (length-append, length_word, length_size) (omega arith) in
    let size : length done - (st + 12) ≡ length values = omega arith in
    let at_length : st + 8 ≡ length pre = sym (simp (length-append, length_word) (omega arith)) in
    let is : ltb (be 4 (done ++ rest) (st + 8)) 0xffffffff ≡ stated = rw form (stated_back stated pre post (st + 8) at_length) in (
      rw (is, size, form) (over_middle pre (length_image stated 0) (length_image stated (length values)) post (st + 8) at_length (length_size stated 0 ∙ sym (length_size stated (length values))) ∙ simp append_assoc),
      long ∙ sym (simp (length-append, length_word, length_size) (omega arith)),
    )

pub close_leaves : (lent before rest done : List ℕ) (x : Spot) (r : Row)
    → done ≡ before ++ (word 4 2 ++ (word 4 r.number ++ (length_image r.is_stated 0 ++ images field_image r.fields))) → x.start ≡ length before
    → (left_at lent done rest x (does (state_at done x) (done ++ rest) x.book close_row)
    ≡ standing lent (before ++ item_image (row r)) rest (spot x.book wants.Element 0 0 (x.rows + 1)))
    × (length done ≡ length (before ++ item_image (row r)))
unfolding does row_image
close_leaves lent before rest done x r form start =
    let (buffer, place) = closing before (images field_image r.fields) rest done r.number x.start r.is_stated form start in (
      rw (over_nil (onto lent (book_image x.book)) (length (book_image x.book)), add-zero (length (book_image x.book)), buffer, place),
      place,
    )

-- Giving up puts zeroes over what was opened.
giving_up : (before more rest done : List ℕ) (st : ℕ) → done ≡ before ++ more → st ≡ length before
    → over (done ++ rest) st (replicate (length done - st) 0) ≡ before ++ (replicate (length more) 0 ++ rest)
giving_up before more rest done st e f =
    let size : length done - st ≡ length more = omega (arith, ap length e, length-append before more) in
    rw (size, behind rest e ∙ append_assoc before more rest) (over_middle before more (replicate (length more) 0) rest st f (sym (length-replicate {A = ℕ} (length more) 0)))

pub give_up_leaves : (lent before more rest done : List ℕ) (x : Spot) → done ≡ before ++ more → x.start ≡ length before
    → left_at lent done rest x (does (state_at done x) (done ++ rest) x.book give_up)
    ≡ standing lent before (replicate (length more) 0 ++ rest) (spot x.book wants.Element 0 0 x.rows)
unfolding does
give_up_leaves lent before more rest done x form start =
    rw (
      over_nil (onto lent (book_image x.book)) (length (book_image x.book)),
      add-zero (length (book_image x.book)),
      giving_up before more rest done x.start form start,
      start,
    )
