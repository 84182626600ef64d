-- `walks::quick_row` meets its contract: the number that was found is that of a layout of the book, and its plan passes the row's values.
-- Where it is unsure, no row stands there, its number has no plan, or it is refused. Assumes nothing.
use native.Mathlib.Omega.{arith}
use Prim.Native.Nat.{ℕ, ◌+◌, ◌^◌, ◌≤◌, ◌<◌}
use mathlib.Core.Path.{◌≡◌, sym, ap, ◌∙◌, subst}
use mathlib.Core.List.{List}
use lib.ListN.{length, get_or}
use Rattle.octets.specs.Reading.{ok, be}
use Rattle.octets.proofs.Inverse.{ok_value}
use Rattle.octets.proofs.Ends.{number_ok}
use Rattle.octets.proofs.Spans.{each_octet, word_be}
use Rattle.layouts.specs.Book.{Book}
use Rattle.plans.specs.Plan.{plan_for, Begins}
use Rattle.rows.proofs.Named.{row_passed, row_short, row_refused}
use Rattle.walks.specs.Kept.{Planned}
use Rattle.walks.specs.declared.Known.{Known}
use Rattle.walks.proofs.Marks.{Marked}
use Rattle.walks.proofs.Shelves.{plan_at}
use Rattle.walks.proofs.quick_row.Goals as goal
use Rattle.walks.proofs.quick_row.Goals.{In_ok-i}

pub returns-then-doc-at : goal.returns-then-doc-at
returns-then-doc-at c = λ book p i h n k.
    let a = c.args in
    row_short a.doc.now (a.at + 4) (a.at + 8) book (omega arith) (omega (arith, c.if-doc-at.true))

pub returns-then-u32_at-from : goal.returns-then-u32_at-from
returns-then-u32_at-from c = λ book p i h n k.
    let a = c.args in
    let e = number_ok a.doc.now a.at 4 (omega (arith, c.if-doc-at.false)) in
    absurd (c.if-u32_at-from.true (c.u32_at.ensures ∙ (ok_value e k ∙ sym c.from.ensures)))

-- The index that was found, by names, and the layout that a book has there.
module _ (x : In_ok-i) where
  abbrev doc : List ℕ
  doc = x.args.doc.now

  abbrev at : ℕ
  at = x.args.at

  abbrev known : Known
  known = x.args.known.now

  abbrev I : ℕ
  I = x.in_ok-i.i

  found : (I < known.count) × (get_or known.numbers I 0 ≡ be 4 doc (at + 4))
  found = let (below, is) = x.in_ok-i.ensures in (below, is ∙ x.u32_at-2.ensures)

  room : at + 12 ≤ length doc
  room = omega (arith, x.if-doc-at.false)

  small : be 4 doc (at + 4) < 2 ^ 32
  small =
      omega (arith, (word_be 4 doc (at + 4) (each_octet doc x.type_inv.doc) (omega (arith, room))).0)

  has_plan : (book : Book) → Planned known book → Marked known.steps 0 book (be 4 doc (at + 4)) I
  has_plan book p = plan_at known book p I (be 4 doc (at + 4)) found.0 small found.1

  few : I < 64
  few = let k = x.requires.3.planned.numbered in omega (arith, found.0, k.count, k.good.few)

  stands_here : (step : ℕ) → step ≡ get_or known.steps I 0 → {book : Book} {n : ℕ} (m : Marked known.steps 0 book n I) → Begins known.steps step (plan_for m.layout)
  stands_here step e m =
      let none : 0 + I ≡ I = omega arith in
      subst (λ (k : ℕ). Begins known.steps k (plan_for m.layout)) (ap (λ (i : ℕ). get_or known.steps i 0) none ∙ sym e) m.stands

pub values_to-requires : goal.values_to-requires
values_to-requires c =
    let x = (goal.at.values_to-requires c).In_ok-i in
    let p = c.requires.3 in
    let m = has_plan x p.book p.planned in
    (omega (arith, room x), c.requires.1, record { long = p.planned.long; attributes = m.layout.attributes; stands = stands_here x c.from-2.result c.from-2.ensures m })

pub returns-in_err-next : goal.returns-in_err-next
returns-in_err-next c =
    let x = (goal.at.returns-in_err-next c).In_ok-i in
    rw c.from_residual-in_err-next.ensures λ book p i h n k.
    let m = has_plan x book p in
    row_refused (doc x) (at x + 4) (at x + 8) book (omega arith) m.layout (omega (arith, room x)) m.found
    (c.in_err-next.ensures m.layout.attributes (stands_here x c.from-2.result c.from-2.ensures m))

pub returns : goal.returns
returns c =
    let x = (goal.at.returns c).In_ok-i in
    λ book p.
    let m = has_plan x book p in
    let values = c.in_ok-next.ensures m.layout.attributes (stands_here x c.from-2.result c.from-2.ensures m) in
    let r = row_passed (doc x) (at x + 4) (at x + 8) _ book m.layout (omega arith) (omega (arith, room x)) m.found values in
    record {
      below = (found x).0;
      plan = (found x).1;
      index = m.index;
      kind = number_ok (doc x) (at x) 4 (omega (arith, room x)) ∙ ap (λ (n : ℕ). ok n (at x + 4)) (sym c.u32_at.ensures ∙ (c.if-u32_at-from.false ∙ c.from.ensures));
      row = r.0;
      reads = r.1;
    }
