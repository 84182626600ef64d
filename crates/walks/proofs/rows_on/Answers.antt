-- `walks::rows_on` meets its contract. The invariant: the way over the rows passed leads up to here, and their words are put. Assumes nothing.
use native.Mathlib.Omega.{arith}
use Prim.Native.Nat.{ℕ, ◌+◌, ◌%◌, ◌≤◌, ◌<◌}
use mathlib.Core.Path.{◌≡◌, sym, ap, ◌∙◌, subst}
use mathlib.Core.List.{List}
use lib.ListN.{length, get_or}
use lib.Dec.{ltb}
use Rattle.octets.specs.Reading.{be}
use Rattle.octets.proofs.Spans.{each_octet}
use Rattle.layouts.specs.Book.{Book}
use Rattle.rows.proofs.Named.{row_says_lem, row_inside}
use Rattle.elements.specs.Walk.{spot_at}
use Rattle.walks.specs.Kept.{Planned}
use Rattle.walks.specs.Rows.{row_word, Passes, Passage}
use Rattle.walks.proofs.Rows.{passage_more}
use Rattle.walks.proofs.rows_on.Goals as goal
use Rattle.walks.proofs.rows_on.Goals.{In-Some}

-- No layout is known.
-- The row that was passed, by any book that the plans are of.
module _ (r : In-Some) where
  abbrev doc : List ℕ
  doc = r.args.doc.now

  abbrev pos : ℕ
  pos = r.loop-n.pos

  here : (book : Book) → Planned r.args.known.now book → Passes doc pos book r.args.known.now r.in-Some.next r.in-Some.i
  here = r.in-Some.ensures

  bounds : (pos + 12 ≤ length doc) × (r.in-Some.next ≤ length doc) × (r.in-Some.i < r.args.known.now.count) × (r.in-Some.i < 64)
  bounds =
      let p = r.requires.2 in
      let k = p.planned.numbered in
      let w = here p.book p.planned in
      let said = row_says_lem doc (pos + 4) w.row r.in-Some.next p.book w.reads in (
        omega (arith, said.room),
        row_inside doc r.requires.1 (each_octet doc r.type_inv.doc) p.book (pos + 4) w.row r.in-Some.next (omega (arith, said.room)) w.reads,
        w.below,
        omega (arith, w.below, k.count, k.good.few),
      )

pub u32_at-stated-requires : goal.u32_at-stated-requires
u32_at-stated-requires c = let b = bounds (goal.at.u32_at-stated-requires c).In-Some in omega arith

pub row_word-requires : goal.row_word-requires
row_word-requires c = let b = bounds (goal.at.row_word-requires c).In-Some in omega (arith, c.requires.1)

pub loop-n-preserved : goal.loop-n-preserved
loop-n-preserved c =
    let r = (goal.at.loop-n-preserved c).In-Some in
    let a = c.args in
    let l = c.loop-n in
    let b = bounds r in (
      b.1,
      omega (arith, c.loop-n-test.true),
      b.2,
      c.put_word.auto.words ∙ l.invariant.3,
      λ rows book p.
          let eight : l.pos + 8 ≡ l.pos + 4 + 4 = omega arith in
          subst (λ (ws : List ℕ). Passage a.doc.now (spot_at a.at rows book) a.known.now.numbers a.labels.now a.words.now ws c.in-Some.next (l.n + 1)) (sym c.put_word.ensures)
          (passage_more a.doc.now a.at rows book a.known.now a.labels.now a.words.now l.words l.pos l.n (l.invariant.4 rows book p) c.in-Some.next c.in-Some.i c.row_word.result (here r book p)
          (c.row_word.ensures
          ∙ ap (λ (k : ℕ). row_word (get_or a.labels.now c.in-Some.i 0 % 4294967296) (ltb k 0xffffffff) c.in-Some.next) (c.u32_at-stated.ensures ∙ ap (be 4 a.doc.now) eight))),
    )
