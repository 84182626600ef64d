-- `listing::element_lines` meets its contract. The invariant: the lines of the items passed are printed, over octets that carry the book that they left.
-- The measure is what is left of the document: an item goes on. Assumes nothing.
use native.Mathlib.Omega.{arith}
use Prim.Native.Nat.{ℕ}
use mathlib.Core.Path.{sym, ap, ◌∙◌}
use mir.Syntax.{w64}
use mir.Facts.{to_z-of_z}
use lib.ListN.{length-replicate}
use Rattle.std.specs.Prelude.{Ok}
use Rattle.octets.specs.Reading.{is_ok}
use Rattle.octets.proofs.Spans.{each_octet}
use Rattle.layouts.specs.Book.{book_in}
use Rattle.walks.specs.Kept.{tally_of}
use Rattle.walks.proofs.Marks.{tally_bounds}
use Rattle.printing.proofs.Pages.{says}
use Rattle.lines.specs.Lines.{end_text}
use Rattle.listing.proofs.Passed.{passed_start, passed_fits, passed_shelf, passed_lent, passed_bears, passed_on, passed_refused, passed_end, passed_item}
use Rattle.listing.proofs.element_lines.Goals as goal

pub loop-moved-init : goal.loop-moved-init
loop-moved-init c =
    (rw c.new-known.ensures (passed_start c.args.doc.now c.args.at c.args.page.now c.requires.0), length-replicate {A = ℕ} 1 0)

pub slice_bounds-book-end : goal.slice_bounds-book-end
slice_bounds-book-end c = passed_fits c.loop-moved.invariant.0

pub slice_bounds-go_on-end : goal.slice_bounds-go_on-end
slice_bounds-go_on-end c = sym (passed_shelf c.loop-moved.invariant.0)

pub go_on-requires : goal.go_on-requires
go_on-requires c =
    let l = c.loop-moved in
    let p = l.invariant.0 in
    let short = c.requires.1 in
    (p.inside, short, omega (arith, short, p.few, p.inside), omega (arith, passed_shelf p, (passed_lent p).most), record { book = book_in l.book l.used; bears = passed_bears p })

pub returns-in-Err : goal.returns-in-Err
returns-in-Err c =
    let p = c.loop-moved.invariant.0 in
    let on = passed_on p _ _ c.go_on.ensures c.in-Err.is in
    passed_refused p (each_octet c.args.doc.now c.type_inv.doc) c.requires.1 _ (sym on.is) c.refused_line.ensures

-- Not over a row.
pub returns-in-Rows : goal.returns-in-Rows
returns-in-Rows c =
    let (some, none) = passed_on c.loop-moved.invariant.0 _ _ c.go_on.ensures (c.in-Ok.is ∙ ap Ok c.in-Rows.is) in
    absurd (omega (arith, none.few))

pub returns-in-End : goal.returns-in-End
returns-in-End c =
    let p = c.loop-moved.invariant.0 in
    let on = passed_on p _ _ c.go_on.ensures (c.in-Ok.is ∙ ap Ok c.in-End.is) in
    let exact = to_z-of_z {w = w64} (record { sfits = omega arith }) in
    passed_end p (each_octet c.args.doc.now c.type_inv.doc) c.requires.1 _ _ _ (sym on.is) (says (ap (end_text c.loop-moved.pos _) exact) c.end_line.ensures)

pub grow-requires : goal.grow-requires
grow-requires c =
    let p = c.loop-moved.invariant.0 in
    let item = passed_item p (each_octet c.args.doc.now c.type_inv.doc) c.requires.1 _ _ c.in-Item.gone c.go_on.ensures c.in-Ok.is c.in-Item.is in
    (c.requires.1, p.carried.is, (item.new c.if-used-gone.true).grows)

pub keep-requires : goal.keep-requires
keep-requires c =
    let l = c.loop-moved in
    let p = l.invariant.0 in
    let k = p.carried.kept in
    let item = passed_item p (each_octet c.args.doc.now c.type_inv.doc) c.requires.1 _ _ c.in-Item.gone c.go_on.ensures c.in-Ok.is c.in-Item.is in
    let new = item.new c.if-used-gone.true in
    let (known, start, end) = tally_bounds (tally_of l.known) (book_in l.book l.used) k.tally in
    (c.requires.1, ap is_ok new.reads, k.planned.long, omega (arith, new.few, known), start, end, omega (arith, (passed_lent p).most))

pub loop-moved-smaller-then-used-gone : goal.loop-moved-smaller-then-used-gone
loop-moved-smaller-then-used-gone c =
    let p = c.loop-moved.invariant.0 in
    let item = passed_item p (each_octet c.args.doc.now c.type_inv.doc) c.requires.1 _ _ c.in-Item.gone c.go_on.ensures c.in-Ok.is c.in-Item.is in
    omega (arith, item.further)

pub loop-moved-preserved-then-used-gone : goal.loop-moved-preserved-then-used-gone
loop-moved-preserved-then-used-gone c =
    let l = c.loop-moved in
    let item = passed_item l.invariant.0 (each_octet c.args.doc.now c.type_inv.doc) c.requires.1 _ _ c.in-Item.gone c.go_on.ensures c.in-Ok.is c.in-Item.is in
    let new = item.new c.if-used-gone.true in
    let put = c.element_line.ensures item.stepped c.in-Item.gone.next item.reads item.met in
    (new.on put c.grow.auto.book c.grow.ensures (c.keep.ensures new.layout _ new.reads), c.go_on.auto.words ∙ l.invariant.1)

pub loop-moved-smaller : goal.loop-moved-smaller
loop-moved-smaller c =
    let p = c.loop-moved.invariant.0 in
    let item = passed_item p (each_octet c.args.doc.now c.type_inv.doc) c.requires.1 _ _ c.in-Item.gone c.go_on.ensures c.in-Ok.is c.in-Item.is in
    omega (arith, item.further)

pub loop-moved-preserved : goal.loop-moved-preserved
loop-moved-preserved c =
    let l = c.loop-moved in
    let item = passed_item l.invariant.0 (each_octet c.args.doc.now c.type_inv.doc) c.requires.1 _ _ c.in-Item.gone c.go_on.ensures c.in-Ok.is c.in-Item.is in
    let put = c.element_line.ensures item.stepped c.in-Item.gone.next item.reads item.met in
    (item.old c.if-used-gone.false put, c.go_on.auto.words ∙ l.invariant.1)
