-- `walks::rows_from` meets its contract. The invariant: a way from the start, with its book kept by the document itself; the count is that of the spot that it reached.
-- The measure is what is left of the document. Assumes nothing.
use native.Mathlib.Omega.{arith}
use Prim.Native.Nat.{ℕ, ◌+◌, ◌≤◌, ◌<◌}
use mathlib.Core.Path.{◌≡◌, sym, ap, ◌∙◌, subst}
use mathlib.Core.List.{List, [], ◌∷◌, ◌++◌}
use mathlib.Core.Option.{some}
use lib.ListN.{length, length-replicate}
use Rattle.octets.specs.Limits.{longest, most_rows}
use Rattle.octets.specs.Reading.{is_ok}
use Rattle.octets.specs.Writing.{Each, Octet}
use Rattle.octets.proofs.Spans.{each_octet}
use Rattle.octets.proofs.Passed.{handed_on}
use Rattle.std.specs.Prelude.{Ok}
use Rattle.layouts.specs.Book.{Book}
use Rattle.layouts.proofs.Books.{image_nil}
use Rattle.elements.specs.Reading.{rows_read}
use Rattle.elements.specs.Walk.{Stop, Seen, goes, stops, standing, behind, Spot, spot_at, turn_at, through}
use Rattle.elements.proofs.Through.{through_stops, through_path}
use Rattle.walks.specs.Kept.{empty, tally_of, Keeps}
use Rattle.walks.specs.Answers.{gone_of, Bears, GoesOn}
use Rattle.walks.specs.declared.Known.{Known}
use Rattle.walks.specs.declared.Gone.{Gone}
use Rattle.walks.specs.declared.Moved.{Moved}
use Rattle.walks.specs.declared.Moved.TheVariants as moved
use Rattle.walks.proofs.Marks.{tally_bounds}
use Rattle.walks.proofs.Keeping.{kept_empty}
use Rattle.walks.proofs.Moves.{Newly, item_moves}
use Rattle.walks.proofs.Ways.{OnWay, way_start, way_bears, way_few, way_rows, way_old, way_newly, way_new, moved_item, moved_end, moved_refused}
use Rattle.walks.proofs.rows_from.Goals as goal
use Rattle.walks.proofs.rows_from.Goals.{At-loop-next}

pub loop-next-init : goal.loop-next-init
loop-next-init c =
    let a = c.args in (
      (
        [],
        subst (λ (k : Known). OnWay a.doc.now (spot_at a.at 0 []) [] a.doc.now k a.at 0 0) (sym c.new-known.ensures)
            (subst (λ (n : ℕ). OnWay a.doc.now (spot_at a.at 0 []) [] a.doc.now empty a.at 0 n) (ap length image_nil)
            (way_start a.doc.now a.doc.now empty a.at 0 [] c.requires.0 (kept_empty a.doc.now))),
      ),
      length-replicate {A = ℕ} 1 0,
    )

-- Where the walk is, by names.
module _ (t : At-loop-next) where
  abbrev doc : List ℕ
  doc = t.args.doc.now

  abbrev first : Spot
  first = spot_at t.args.at 0 []

  abbrev known : Known
  known = t.loop-next.known

  abbrev pos : ℕ
  pos = t.loop-next.pos

  abbrev rows : ℕ
  rows = t.loop-next.rows

  abbrev used : ℕ
  used = t.loop-next.used

  abbrev passed : List Seen
  passed = t.loop-next.invariant.0.0

  short : length doc ≤ longest
  short = t.requires.1

  octets : Each Octet doc
  octets = each_octet doc t.type_inv.doc

  way : OnWay doc first passed doc known pos rows used
  way = t.loop-next.invariant.0.1

  abbrev here : Spot
  here = spot_at pos rows way.book

  bears : Bears doc used known way.book
  bears = way_bears doc octets short first passed doc known pos rows used way

  few_rows : rows ≤ most_rows
  few_rows = omega (arith, way_few doc octets short first passed doc known pos rows used way, way.inside, short)

  -- What a stop here is answered with.
  stopped : (e : Stop) → turn_at doc here ≡ stops e → rows_read (through doc first) ≡ rows_read (standing here (some e))
  stopped e h = ap rows_read (through_path doc octets short passed first here way.path ∙ ap (behind passed) (through_stops doc octets short here e h))

  -- How the walk went on.
  abbrev GoesBy : List ℕ → Moved → Type 0
  GoesBy words m = GoesOn doc here known known.numbers most_rows t.loop-next.words words (Ok m)

  -- The same of what the answer was taken apart into.
  went : (words : List ℕ) (m x : Moved) → m ≡ x → ((book : Book) → Bears doc used known book → GoesOn doc (spot_at pos rows book) known known.numbers most_rows t.loop-next.words words (Ok m)) → GoesBy words x
  went words m x is on = subst (GoesBy words) is (on way.book bears)

pub go_on-requires : goal.go_on-requires
go_on-requires c =
    let t = (goal.at.go_on-requires c).At-loop-next in
    ((way t).inside, short t, few_rows t, short t, record { book = (way t).book; bears = bears t })

pub returns-in_err-next : goal.returns-in_err-next
returns-in_err-next c =
    let t = (goal.at.returns-in_err-next c).At-loop-next in
    let r = c.in_err-next.field-0.0 in
    rw (handed_on c.from_residual.result r c.from_residual.ensures.1)
    (sym (stopped t _ (moved_refused (turn_at (doc t) (here t)) r (sym (c.in_err-next.ensures (way t).book (bears t)).is))))

-- Over rows.
module _ (t : At-loop-next) (words : List ℕ) (next count : ℕ) (e : GoesBy t words (moved.Rows next count)) where
  over : (more : List Seen) × OnWay (doc t) (first t) (passed t ++ more) (doc t) (known t) next (rows t + count) (used t) × (pos t + count ≤ next)
  over = way_rows (doc t) (octets t) (short t) (first t) (passed t) (doc t) (known t) (pos t) (rows t) (used t) (way t) e.1

  few_over : rows t + count ≤ most_rows
  few_over =
      omega (arith, way_few (doc t) (octets t) (short t) (first t) (passed t ++ over.0) (doc t) (known t) next (rows t + count) (used t) over.1, over.1.inside, short t)

pub overflow_add-rows : goal.overflow_add-rows
overflow_add-rows c =
    let t = (goal.at.overflow_add-rows c).At-loop-next in
    omega (arith, few_over t c.go_on.new.words c.in-Rows.next c.in-Rows.count (went t c.go_on.new.words _ _ c.in-Rows.is c.in_ok-next.ensures))

pub loop-next-preserved-in-Rows : goal.loop-next-preserved-in-Rows
loop-next-preserved-in-Rows c =
    let t = (goal.at.loop-next-preserved-in-Rows c).At-loop-next in
    let o = over t c.go_on.new.words c.in-Rows.next c.in-Rows.count (went t c.go_on.new.words _ _ c.in-Rows.is c.in_ok-next.ensures) in
    ((passed t ++ o.0, o.1), c.go_on.auto.words ∙ c.loop-next.invariant.1)

pub loop-next-smaller-in-Rows : goal.loop-next-smaller-in-Rows
loop-next-smaller-in-Rows c =
    let t = (goal.at.loop-next-smaller-in-Rows c).At-loop-next in
    let e = went t c.go_on.new.words _ _ c.in-Rows.is c.in_ok-next.ensures in
    omega (arith, e.0, e.1.inside, (over t c.go_on.new.words c.in-Rows.next c.in-Rows.count e).2)

pub returns-in-End : goal.returns-in-End
returns-in-End c =
    let t = (goal.at.returns-in-End c).At-loop-next in
    let e = went t c.go_on.new.words _ _ c.in-End.is c.in_ok-next.ensures in
    sym (stopped t _ (moved_end (turn_at (doc t) (here t)) _ _ _ (sym e.is)).1)

-- By an item.
module _ (t : At-loop-next) (words : List ℕ) (gone : Gone) (e : GoesBy t words (moved.Item gone)) where
  met : (p : Seen) × (y : Spot) × (turn_at (doc t) (here t) ≡ goes p y) × (gone_of p y ≡ gone)
  met = moved_item (turn_at (doc t) (here t)) gone (sym e.is)

  further : (pos t + 4 ≤ gone.next) × (gone.next ≤ length (doc t))
  further =
      subst (λ (g : Gone). (pos t + 4 ≤ g.next) × (g.next ≤ length (doc t))) met.3
      (item_moves (doc t) (octets t) (short t) (pos t) (rows t) (way t).book met.0 met.1 met.2)

  -- The way behind it, whatever is kept then.
  abbrev Behind : Known → Gone → Type 0
  Behind k g = OnWay (doc t) (first t) (passed t ++ met.0 ∷ []) (doc t) k g.next g.rows g.used

  behind_old : gone.used ≤ used t → Behind (known t) gone
  behind_old old =
      subst (Behind (known t)) met.3
      (way_old (doc t) (octets t) (short t) (first t) (passed t) (doc t) (known t) (pos t) (rows t) (used t) (way t) met.0 met.1 met.2
      (subst (λ (x : Gone). x.used ≤ used t) (sym met.3) old))

  module _ (more : used t < gone.used) where
    newly : Newly (doc t) (pos t) met.0.next (way t).book met.1.book
    newly =
        way_newly (doc t) (octets t) (short t) (first t) (passed t) (doc t) (known t) (pos t) (rows t) (used t) (way t) met.0 met.1 met.2
        (subst (λ (x : Gone). used t < x.used) (sym met.3) more)

    behind_new : (k : Known) → Keeps newly.layout (pos t + 4) (known t) k → Behind k gone
    behind_new k h =
        subst (Behind k) met.3
        (way_new (doc t) (octets t) (short t) (first t) (passed t) (doc t) (known t) (pos t) (rows t) (used t) (way t) met.0 met.1 met.2
        newly (pos t + 4) met.0.next newly.reads h)

pub keep-requires : goal.keep-requires
keep-requires c =
    let t = (goal.at.keep-requires c).At-loop-next in
    let e = went t c.go_on.new.words _ _ c.in-Item.is c.in_ok-next.ensures in
    let n = newly t c.go_on.new.words c.in-Item.gone e c.if-used-gone.true in
    let k = (way t).kept in
    let (known, start, end) = tally_bounds (tally_of (known t)) (way t).book k.tally in
    (short t, ap is_ok n.reads, k.planned.long, omega (arith, n.few), start, end, omega (arith, further t c.go_on.new.words c.in-Item.gone e, short t))

pub loop-next-preserved-then-used-gone : goal.loop-next-preserved-then-used-gone
loop-next-preserved-then-used-gone c =
    let t = (goal.at.loop-next-preserved-then-used-gone c).At-loop-next in
    let e = went t c.go_on.new.words _ _ c.in-Item.is c.in_ok-next.ensures in
    let n = newly t c.go_on.new.words c.in-Item.gone e c.if-used-gone.true in
    let (p, _, _, _) = met t c.go_on.new.words c.in-Item.gone e in (
      (
        passed t ++ p ∷ [],
        behind_new t c.go_on.new.words c.in-Item.gone e c.if-used-gone.true c.keep.new.self (c.keep.ensures n.layout p.next n.reads),
      ),
      c.go_on.auto.words ∙ c.loop-next.invariant.1,
    )

pub loop-next-preserved : goal.loop-next-preserved
loop-next-preserved c =
    let t = (goal.at.loop-next-preserved c).At-loop-next in
    let e = went t c.go_on.new.words _ _ c.in-Item.is c.in_ok-next.ensures in (
      (passed t ++ (met t c.go_on.new.words c.in-Item.gone e).0 ∷ [], behind_old t c.go_on.new.words c.in-Item.gone e c.if-used-gone.false),
      c.go_on.auto.words ∙ c.loop-next.invariant.1,
    )

pub loop-next-smaller-then-used-gone : goal.loop-next-smaller-then-used-gone
loop-next-smaller-then-used-gone c =
    let t = (goal.at.loop-next-smaller-then-used-gone c).At-loop-next in
    let e = went t c.go_on.new.words _ _ c.in-Item.is c.in_ok-next.ensures in
    omega (arith, further t c.go_on.new.words c.in-Item.gone e)

pub loop-next-smaller : goal.loop-next-smaller
loop-next-smaller c =
    let t = (goal.at.loop-next-smaller c).At-loop-next in
    let e = went t c.go_on.new.words _ _ c.in-Item.is c.in_ok-next.ensures in
    omega (arith, further t c.go_on.new.words c.in-Item.gone e)
