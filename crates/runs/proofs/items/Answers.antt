-- `runs::items` meets its contract. The invariant: the run's way over the lent octets and its words, with the book in them kept.
-- The measure is the items to come. Assumes nothing.
use native.Mathlib.Omega.{arith}
use Prim.Native.Nat.{ℕ, zero, suc, ◌+◌, ◌-◌, ◌≤◌, ◌<◌}
use mathlib.Core.Path.{◌≡◌, refl, sym, ap, ◌∙◌, subst}
use mathlib.Core.List.{List}
use mathlib.Core.Option.{none}
use lib.ListN.{length, take, set, length-replicate, length-set}
use borrow.Rule.Slice.PartMut.{mid_of, put_mid, same_len_mid, put_same}
use lib.Seq.{length-take-le}
use Rattle.std.specs.Prelude.{Result, Ok, Err}
use Rattle.octets.specs.declared.Refused.{Refused}
use Rattle.octets.specs.Limits.{longest, most_rows}
use Rattle.octets.specs.Reading.{ok, is_ok}
use Rattle.octets.specs.Writing.{Each, Octet}
use Rattle.octets.proofs.Spans.{each_octet}
use Rattle.layouts.specs.Book.{Book, book_image, book_in}
use Rattle.layouts.proofs.Books.{Lent}
use Rattle.layouts.proofs.Walks.{lent_book_lem}
use Rattle.elements.specs.Element as element
use Rattle.elements.specs.Steps.{holding}
use Rattle.elements.specs.Answers.{met_of, Grows}
use Rattle.elements.specs.Reading.{placed_all, rows_of}
use Rattle.elements.specs.Walk.{refused, Seen, goes, stops, Spot, spot_at, turn_at, lent_at, turn_over}
use Rattle.elements.specs.Walk as walk
use Rattle.elements.proofs.Behind.{few_rows}
use Rattle.elements.proofs.Items.{path_way}
use Rattle.elements.proofs.Turns.{turn_rows}
use Rattle.elements.proofs.Through.{path_rows}
use Rattle.walks.specs.Rows.{laid}
use Rattle.walks.specs.Kept.{tally_of}
use Rattle.walks.specs.Answers.{gone_of, Bears, GoesOn}
use Rattle.walks.specs.declared.Known.{Known}
use Rattle.walks.specs.declared.Gone.{Gone}
use Rattle.walks.specs.declared.Moved.{Moved}
use Rattle.walks.specs.declared.Moved.TheVariants as moved
use Rattle.walks.proofs.Marks.{tally_bounds}
use Rattle.walks.proofs.Moves.{Newly, item_moves, item_left}
use Rattle.walks.proofs.Ways.{moved_item, moved_end, moved_refused}
use Rattle.walks.proofs.Lents.{lent_image, Carried, carried_bears, carried_old, carried_grows, carried_newly, carried_new}
use Rattle.runs.specs.declared.Went.{Went}
use Rattle.runs.specs.Runs.{item_word, words_of, reach_of}
use Rattle.runs.specs.Answers.{met_word}
use Rattle.runs.proofs.Over.{left_by, over_goes, over_stops, over_many, over_rows, words_same}
use Rattle.runs.proofs.Runs.{OnRun, laid_part, none_passed, run_start, run_path, run_item, run_stops, run_full, went_some, went_end, went_refused}
use Rattle.runs.proofs.items.Invariants.{Going}
use Rattle.runs.proofs.items.Goals as goal
use Rattle.runs.proofs.items.Goals.{In-loop-went}

pub loop-went-init : goal.loop-went-init
loop-went-init c =
    let a = c.args in
    let b : Book = book_in a.book.now a.used in
    let o = each_octet a.book.now c.slice_known-1.given in
    record {
      run = run_start a.doc.now (lent_at a.at a.rows a.book.now a.used) a.words.now;
      carried = record { octets_are = o; is = c.requires.3; kept = c.index.ensures b (lent_image a.book.now a.used b (lent_book_lem a.book.now a.used o c.requires.3)) };
      inside = c.requires.0;
      few = omega (arith, c.requires.2);
      book_long = refl;
      words_long = refl;
    }

pub index-requires : goal.index-requires
index-requires c =
    let a = c.args in
    let l = lent_book_lem a.book.now a.used (each_octet a.book.now c.slice_known-1.given) c.requires.3 in
    rw c.new-known.ensures (
      omega (arith, length-take-le a.used a.book.now (omega (arith, l.room, l.most)), l.most),
      length-replicate {A = ℕ} 64 0,
      length-replicate {A = ℕ} 64 0,
      length-replicate {A = ℕ} 1216 0,
      record { book = book_in a.book.now a.used; image = lent_image a.book.now a.used (book_in a.book.now a.used) l },
    )

pub slice_bounds-index-end : goal.slice_bounds-index-end
slice_bounds-index-end c =
    let l = lent_book_lem c.args.book.now c.args.used (each_octet c.args.book.now c.slice_known-1.given) c.requires.3 in
    omega (arith, l.room, l.most)

pub slice_bounds-index-end-2 : goal.slice_bounds-index-end-2
slice_bounds-index-end-2 c =
    let a = c.args in
    let l = lent_book_lem a.book.now a.used (each_octet a.book.now c.slice_known-1.given) c.requires.3 in
    sym (length-take-le a.used a.book.now (omega (arith, l.room, l.most)))

-- The round by names.
module _ (t : In-loop-went) where
  abbrev doc : List ℕ
  doc = t.args.doc.now

  abbrev entry : List ℕ
  entry = t.args.book.now

  abbrev lent : List ℕ
  lent = t.args.words.now

  abbrev octets : List ℕ
  octets = t.loop-went.book

  abbrev words : List ℕ
  words = t.loop-went.words

  abbrev known : Known
  known = t.loop-went.known

  abbrev went : Went
  went = t.loop-went.went

  abbrev book : Book
  book = book_in octets went.used

  -- Where the run began, and where it is.
  abbrev first : walk.Lent
  first = lent_at t.args.at t.args.rows entry t.args.used

  abbrev here : walk.Lent
  here = lent_at went.next went.rows octets went.used

  abbrev spot : Spot
  spot = spot_at went.next went.rows book

  short : length doc ≤ longest
  short = t.requires.1

  doc_octets : Each Octet doc
  doc_octets = each_octet doc t.type_inv.doc

  going : Going doc t.args.at t.args.rows entry t.args.used lent octets words known went
  going = t.loop-went.invariant

  carried : Carried octets went.used known
  carried = going.carried

  held : Lent octets went.used book
  held = lent_book_lem octets went.used carried.octets_are carried.is

  shelf_long : length (take went.used octets) ≡ went.used
  shelf_long = length-take-le went.used octets (omega (arith, held.room, held.most))

  words_full : length words ≡ 4096
  words_full = going.words_long ∙ t.requires.4

  room : went.count < 4096
  room = t.loop-went-test.true

  bears : Bears (take went.used octets) went.used known book
  bears = carried_bears octets went.used known carried

  -- More rows were passed than a step is told; then there was one.
  some_passed : most_rows < went.rows → 0 < went.count
  some_passed many = go went.count refl
    where
      go : (k : ℕ) → went.count ≡ k → 0 < went.count
      go zero e =
          let same = ap (λ (x : walk.Lent). x.rows) (none_passed doc first lent going.run e) in
          absurd (omega (arith, t.requires.2))
      go (suc k) e = omega arith

  -- The words from the index on.
  abbrev rest : List ℕ
  rest = mid_of went.count (length words - went.count) words

pub returns-then-went-gt-MOST_ROWS : goal.returns-then-went-gt-MOST_ROWS
returns-then-went-gt-MOST_ROWS c =
    let t = (goal.at.returns-then-went-gt-MOST_ROWS c).In-loop-went in
    let many = c.if-went-gt-MOST_ROWS.true in
    went_some (doc t) (first t) (lent t) (going t).run (some_passed t many) _
    (run_stops (doc t) (first t) (lent t) (going t).run _ (over_many (doc t) (short t) (octets t) (went t).used (carried t).is (went t).next (went t).rows many) (room t))

pub go_on-requires : goal.go_on-requires
go_on-requires c =
    let t = (goal.at.go_on-requires c).In-loop-went in (
      (going t).inside,
      short t,
      omega (arith, c.if-went-gt-MOST_ROWS.false),
      omega (arith, shelf_long t, (held t).most),
      record { book = book t; bears = bears t },
    )

pub slice_bounds-go_on-end : goal.slice_bounds-go_on-end
slice_bounds-go_on-end c = let h = held (goal.at.slice_bounds-go_on-end c).In-loop-went in omega (arith, h.room, h.most)

pub slice_bounds-go_on-end-in-loop-went : goal.slice_bounds-go_on-end-in-loop-went
slice_bounds-go_on-end-in-loop-went c = sym (shelf_long (goal.at.slice_bounds-go_on-end-in-loop-went c).In-loop-went)

-- What is said of an answer is said of what it was taken apart into.
apart : (t : In-loop-went) (most : ℕ) (put : List ℕ) (m x : Moved) → m ≡ x → GoesOn (doc t) (spot t) (known t) (known t).numbers most (rest t) put (Ok m) → GoesOn (doc t) (spot t) (known t) (known t).numbers most (rest t) put (Ok x)
apart t most put m x is e = subst (λ (y : Moved). GoesOn (doc t) (spot t) (known t) (known t).numbers most (rest t) put (Ok y)) is e

-- How the run went on: told most, which words were put.
module _ (t : In-loop-went) (few : (went t).rows ≤ most_rows) (most : ℕ) (reached : most ≡ reach_of (went t).count (went t).rows) (put : List ℕ) (long : length put ≡ length (rest t)) where
  abbrev words₁ : List ℕ
  words₁ = put_mid (went t).count (length (words t) - (went t).count) (words t) put

  abbrev GoesBy : Result Moved Refused → Type 0
  GoesBy r = GoesOn (doc t) (spot t) (known t) (known t).numbers most (rest t) put r

  words_long₁ : length words₁ ≡ length (lent t)
  words_long₁ = same_len_mid (went t).count (length (words t) - (went t).count) (words t) put long ∙ (going t).words_long

  -- By a turn no word is put.
  run_still : put ≡ rest t → OnRun (doc t) (first t) (lent t) words₁ (went t).count (here t)
  run_still e =
      subst (λ (ws : List ℕ). OnRun (doc t) (first t) (lent t) ws (went t).count (here t))
      (sym (ap (put_mid (went t).count (length (words t) - (went t).count) (words t)) e ∙ put_same (went t).count (length (words t) - (went t).count) (words t))) (going t).run

  -- Over rows.
  module _ (next count : ℕ) (over : GoesBy (Ok (moved.Rows next count))) where
    bounds : (0 < count) × ((went t).count + count ≤ 4096) × ((went t).rows + count ≤ most_rows + 1)
    bounds = let r = room t in (over.0, omega (arith, over.1.few), omega (arith, over.1.few))

    strode : Going (doc t) t.args.at t.args.rows (entry t) t.args.used (lent t) (octets t) words₁ (known t)
        (record { count = (went t).count + count; next = next; rows = (went t).rows + count; used = (went t).used })
    strode =
        let h = over.1.passage in
        let y : Spot = spot_at next ((went t).rows + length h.seen) (book t) in
        let all : rows_of (placed_all h.seen) ≡ length h.seen = omega (arith, path_rows (doc t) h.seen (spot t) y h.path) in
        let path = over_rows (doc t) (short t) (octets t) (went t).used (carried t).is (carried t).octets_are h.seen (went t).next (went t).rows next (λ _. omega (arith, h.is_count, bounds)) all h.path in
        let said = words_same (known t).numbers (book t) h.seen (path_way (doc t) (short t) (doc_octets t) h.seen (spot t) y (going t).inside h.path).good all h.planned in
        let full : (went t).count ≤ length (words t) = omega (arith, words_full t, room t) in
        let puts : words₁ ≡ laid (went t).count (words_of h.seen) (words t) =
        ap (put_mid (went t).count (length (words t) - (went t).count) (words t)) (h.put ∙ ap (λ (ws : List ℕ). laid 0 ws (rest t)) said)
        ∙ laid_part (went t).count (words_of h.seen) (words t) full in
        let run = run_path (doc t) (first t) (lent t) (going t).run h.seen (lent_at next ((went t).rows + length h.seen) (octets t) (went t).used) path (omega (arith, h.is_count, bounds)) in
        record {
          run =
              subst (λ (ws : List ℕ). OnRun (doc t) (first t) (lent t) ws ((went t).count + count) (lent_at next ((went t).rows + count) (octets t) (went t).used)) (sym puts)
              (subst (λ (k : ℕ). OnRun (doc t) (first t) (lent t) (laid (went t).count (words_of h.seen) (words t)) ((went t).count + k) (lent_at next ((went t).rows + k) (octets t) (went t).used))
              h.is_count run);
          carried = carried t;
          inside = over.1.inside;
          few = bounds.2;
          book_long = (going t).book_long;
          words_long = words_long₁;
        }

  -- A turn that is refused, and one that reads the end.
  refused_here : (r : Refused) → GoesBy (Err r) → turn_over (doc t) (here t) ≡ stops (refused r.number r.place)
  refused_here r e =
      over_stops (doc t) (short t) (octets t) (went t).used (carried t).is (went t).next (went t).rows few (refused r.number r.place)
      (moved_refused (turn_at (doc t) (spot t)) r (sym e.is))

  -- By an item: its word is put behind the others, and its layout kept, if it is new.
  module _ (gone : Gone) (turned : GoesBy (Ok (moved.Item gone))) where
    met : (p : Seen) × (y : Spot) × (turn_at (doc t) (spot t) ≡ goes p y) × (gone_of p y ≡ gone)
    met = moved_item (turn_at (doc t) (spot t)) gone (sym turned.is)

    abbrev p : Seen
    p = met.0

    abbrev y : Spot
    y = met.1

    moves : ((went t).next + 4 ≤ p.next) × (p.next ≤ length (doc t))
    moves = item_moves (doc t) (doc_octets t) (short t) (went t).next (went t).rows (book t) p y met.2

    near : gone.next ≤ longest
    near = subst (λ (g : Gone). g.next ≤ longest) met.3 (omega (arith, moves, short t))

    counted : y.rows ≤ most_rows + 1
    counted = omega (arith, turn_rows (doc t) (spot t) p y met.2, few_rows (element.item p.which), few)

    -- The run behind it.
    module _ (word : ℕ) (w : word ≡ met_word gone.met gone.next) where
      abbrev After : List ℕ → Known → Gone → Type 0
      After book₁ k g =
          Going (doc t) t.args.at t.args.rows (entry t) t.args.used (lent t) book₁ (set words₁ (went t).count word) k
          (record { count = (went t).count + 1; next = g.next; rows = g.rows; used = g.used })

      word_is : word ≡ item_word p.which p.next
      word_is = w ∙ (sym (ap (λ (g : Gone). met_word g.met g.next) met.3) ∙ word_met p.which p.next)
        where
          word_met : (i : element.Item) (next : ℕ) → met_word (met_of (element.item i)) next ≡ item_word i next
          word_met (element.layout l) next = refl
          word_met (element.row r) next = refl

      on : (book₁ : List ℕ) (k : Known) → book₁ ≡ holding y.book (octets t) → length book₁ ≡ length (octets t) → Carried book₁ (length (book_image y.book)) k → After book₁ k gone
      on book₁ k left same c =
          let over = over_goes (doc t) (short t) (octets t) (went t).used (carried t).is (went t).next (went t).rows few p y met.2 in
          subst (After book₁ k) met.3
          (record {
            run =
                subst (λ (xs : List ℕ). OnRun (doc t) (first t) (lent t) (set words₁ (went t).count word) ((went t).count + 1) (lent_at p.next y.rows xs (length (book_image y.book)))) (sym left)
                (subst (λ (z : ℕ). OnRun (doc t) (first t) (lent t) (set words₁ (went t).count z) ((went t).count + 1) (left_by (octets t) p y)) (sym word_is)
                (run_item (doc t) (first t) (lent t) (run_still turned.kept) p (left_by (octets t) p y) over (room t)));
            carried = c;
            inside = moves.1;
            few = counted;
            book_long = same ∙ (going t).book_long;
            words_long = length-set words₁ (went t).count word ∙ words_long₁;
          })

      on_old : gone.used ≤ (went t).used → After (octets t) (known t) gone
      on_old old =
          let (same, left, size) = carried_old (octets t) (went t).used (known t) (carried t) (doc t) (doc_octets t) (short t) (went t).next (went t).rows p y met.2
          (subst (λ (g : Gone). g.used ≤ (went t).used) (sym met.3) old) in
          on (octets t) (known t) (sym left) refl (subst (λ (m : ℕ). Carried (octets t) m (known t)) (sym size) (carried t))

    module _ (grew : (went t).used < gone.used) where
      more : (went t).used < length (book_image y.book)
      more = subst (λ (x : Gone). (went t).used < x.used) (sym met.3) grew

      newly : Newly (doc t) (went t).next p.next (book t) y.book
      newly = carried_newly (octets t) (went t).used (known t) (carried t) (doc t) (doc_octets t) (short t) (went t).next (went t).rows p y met.2 more

      grows : Grows (doc t) (went t).next gone.next (book t)
      grows =
          subst (λ (x : Gone). Grows (doc t) (went t).next x.next (book t)) met.3
          (carried_grows (octets t) (went t).used (known t) (carried t) (doc t) (doc_octets t) (short t) (went t).next (went t).rows p y met.2 more)

pub returns-then-went-eq0 : goal.returns-then-went-eq0
returns-then-went-eq0 c =
    let t = (goal.at.returns-then-went-eq0 c).In-loop-went in
    let e = c.in-Err.ensures (book t) (bears t) in
    let r = c.in-Err.refused in
    went_refused (doc t) (first t) (lent t) (run_still t (omega (arith, c.if-went-gt-MOST_ROWS.false)) _ c.reach-most.ensures _ c.go_on.auto.words e.kept) r.number r.place (refused_here t (omega (arith, c.if-went-gt-MOST_ROWS.false)) _ c.reach-most.ensures _ c.go_on.auto.words r e) c.if-went-eq0.true

pub returns-in-Err : goal.returns-in-Err
returns-in-Err c =
    let t = (goal.at.returns-in-Err c).In-loop-went in
    let e = c.in-Err.ensures (book t) (bears t) in
    let run = run_still t (omega (arith, c.if-went-gt-MOST_ROWS.false)) _ c.reach-most.ensures _ c.go_on.auto.words e.kept in
    went_some (doc t) (first t) (lent t) run (omega (arith, c.if-went-eq0.false)) _ (run_stops (doc t) (first t) (lent t) run _ (refused_here t (omega (arith, c.if-went-gt-MOST_ROWS.false)) _ c.reach-most.ensures _ c.go_on.auto.words c.in-Err.refused e) (room t))

pub returns-in-Ok-End : goal.returns-in-Ok-End
returns-in-Ok-End c =
    let t = (goal.at.returns-in-Ok-End c).In-loop-went in
    let few : (went t).rows ≤ most_rows = omega (arith, c.if-went-gt-MOST_ROWS.false) in
    let e = apart t c.reach-most.result c.go_on.new.words _ _ c.in-Ok-End.field-0-is (c.in-Ok-End.ensures (book t) (bears t)) in
    let (u, is, _) = moved_end (turn_at (doc t) (spot t)) _ _ _ (sym e.is) in
    went_end (doc t) (first t) (lent t) (run_still t (omega (arith, c.if-went-gt-MOST_ROWS.false)) _ c.reach-most.ensures _ c.go_on.auto.words e.kept) _ u _
    (over_stops (doc t) (short t) (octets t) (went t).used (carried t).is (went t).next (went t).rows few _ is) (room t)

pub overflow_add-went : goal.overflow_add-went
overflow_add-went c =
    let t = (goal.at.overflow_add-went c).In-loop-went in
    omega (arith, bounds t (omega (arith, c.if-went-gt-MOST_ROWS.false)) _ c.reach-most.ensures _ c.go_on.auto.words _ _ (apart t c.reach-most.result c.go_on.new.words _ _ c.in-Ok-Rows.field-0-is (c.in-Ok-Rows.ensures (book t) (bears t))))

pub overflow_add-went-in-Ok-Rows : goal.overflow_add-went-in-Ok-Rows
overflow_add-went-in-Ok-Rows c =
    let t = (goal.at.overflow_add-went-in-Ok-Rows c).In-loop-went in
    omega (arith, bounds t (omega (arith, c.if-went-gt-MOST_ROWS.false)) _ c.reach-most.ensures _ c.go_on.auto.words _ _ (apart t c.reach-most.result c.go_on.new.words _ _ c.in-Ok-Rows.field-0-is (c.in-Ok-Rows.ensures (book t) (bears t))))

pub loop-went-smaller-in-Ok-Rows : goal.loop-went-smaller-in-Ok-Rows
loop-went-smaller-in-Ok-Rows c =
    let t = (goal.at.loop-went-smaller-in-Ok-Rows c).In-loop-went in
    omega (arith, bounds t (omega (arith, c.if-went-gt-MOST_ROWS.false)) _ c.reach-most.ensures _ c.go_on.auto.words _ _ (apart t c.reach-most.result c.go_on.new.words _ _ c.in-Ok-Rows.field-0-is (c.in-Ok-Rows.ensures (book t) (bears t))))

pub loop-went-preserved-in-Ok-Rows : goal.loop-went-preserved-in-Ok-Rows
loop-went-preserved-in-Ok-Rows c =
    let t = (goal.at.loop-went-preserved-in-Ok-Rows c).In-loop-went in
    strode t (omega (arith, c.if-went-gt-MOST_ROWS.false)) _ c.reach-most.ensures _ c.go_on.auto.words c.in-Ok-Rows.next c.in-Ok-Rows.count (apart t c.reach-most.result c.go_on.new.words _ _ c.in-Ok-Rows.field-0-is (c.in-Ok-Rows.ensures (book t) (bears t)))

pub item_word-requires : goal.item_word-requires
item_word-requires c =
    let t = (goal.at.item_word-requires c).In-loop-went in
    omega (arith, near t (omega (arith, c.if-went-gt-MOST_ROWS.false)) _ c.reach-most.ensures _ c.go_on.auto.words _ (apart t c.reach-most.result c.go_on.new.words _ _ c.in-Ok-Item.field-0-is (c.in-Ok-Item.ensures (book t) (bears t))))

pub grow-requires : goal.grow-requires
grow-requires c =
    let t = (goal.at.grow-requires c).In-loop-went in
    (short t, (carried t).is, grows t (omega (arith, c.if-went-gt-MOST_ROWS.false)) _ c.reach-most.ensures _ c.go_on.auto.words _ (apart t c.reach-most.result c.go_on.new.words _ _ c.in-Ok-Item.field-0-is (c.in-Ok-Item.ensures (book t) (bears t))) c.if-went-gone.true)

pub keep-requires : goal.keep-requires
keep-requires c =
    let t = (goal.at.keep-requires c).In-loop-went in
    let k = (carried t).kept in
    let (known, start, end) = tally_bounds (tally_of (known t)) (book t) k.tally in
    let n = newly t (omega (arith, c.if-went-gt-MOST_ROWS.false)) _ c.reach-most.ensures _ c.go_on.auto.words _ (apart t c.reach-most.result c.go_on.new.words _ _ c.in-Ok-Item.field-0-is (c.in-Ok-Item.ensures (book t) (bears t))) c.if-went-gone.true in
    (short t, ap is_ok n.reads, k.planned.long, omega (arith, n.few), start, end, omega (arith, (held t).most))

pub loop-went-preserved : goal.loop-went-preserved
loop-went-preserved c =
    let t = (goal.at.loop-went-preserved c).In-loop-went in
    on_old t (omega (arith, c.if-went-gt-MOST_ROWS.false)) _ c.reach-most.ensures _ c.go_on.auto.words c.in-Ok-Item.gone (apart t c.reach-most.result c.go_on.new.words _ _ c.in-Ok-Item.field-0-is (c.in-Ok-Item.ensures (book t) (bears t))) c.item_word.result c.item_word.ensures c.if-went-gone.false

pub loop-went-preserved-then-went-gone : goal.loop-went-preserved-then-went-gone
unfolding newly
loop-went-preserved-then-went-gone c =
    let t = (goal.at.loop-went-preserved-then-went-gone c).In-loop-went in
    let few : (went t).rows ≤ most_rows = omega (arith, c.if-went-gt-MOST_ROWS.false) in
    let e = apart t c.reach-most.result c.go_on.new.words _ _ c.in-Ok-Item.field-0-is (c.in-Ok-Item.ensures (book t) (bears t)) in
    let (p, y, is, same) = met t (omega (arith, c.if-went-gt-MOST_ROWS.false)) _ c.reach-most.ensures _ c.go_on.auto.words c.in-Ok-Item.gone e in
    let grew = more t (omega (arith, c.if-went-gt-MOST_ROWS.false)) _ c.reach-most.ensures _ c.go_on.auto.words c.in-Ok-Item.gone e c.if-went-gone.true in
    let n = newly t (omega (arith, c.if-went-gt-MOST_ROWS.false)) _ c.reach-most.ensures _ c.go_on.auto.words c.in-Ok-Item.gone e c.if-went-gone.true in
    let left : c.grow.new.book ≡ holding y.book (octets t) =
    item_left (doc t) (doc_octets t) (short t) (went t).next (went t).rows (book t) p y is (omega (arith, grew, (bears t).size)) (octets t) c.grow.new.book
    (λ rows st h. c.grow.ensures rows st (h ∙ ap (λ (x : Gone). ok st x.next) same)) in
    on t (omega (arith, c.if-went-gt-MOST_ROWS.false)) _ c.reach-most.ensures _ c.go_on.auto.words c.in-Ok-Item.gone e c.item_word.result c.item_word.ensures c.grow.new.book c.keep.new.self left c.grow.auto.book
    (carried_new (octets t) (went t).used (known t) (carried t) (doc t) (doc_octets t) (short t) (went t).next (went t).rows p y is grew c.grow.new.book left (c.keep.ensures n.layout p.next n.reads)).0

pub returns : goal.returns
returns c =
    let g = c.loop-went.invariant in
    let a = c.args in
    let x = lent_at a.at a.rows a.book.now a.used in
    let full : c.loop-went.went.count ≡ 4096 = omega (arith, g.run.few, c.loop-went-test.false) in
    went_some a.doc.now x a.words.now g.run (omega arith) none (run_full a.doc.now x a.words.now g.run full)
