-- `elements::grow` meets its contract: the octets of the layout that was read are laid behind the used ones. Assumes nothing.
use native.Mathlib.Omega.{arith}
use mathlib.Core.Path.{◌∙◌}
use Rattle.octets.proofs.Spans.{each_octet}
use Rattle.layouts.proofs.Walks.{lent_book_lem}
use Rattle.elements.proofs.Behind.{Laid, laid}
use Rattle.elements.proofs.grow.Goals as goal
use Rattle.elements.proofs.grow.Lts
use Rattle.elements.proofs.grow.Reads
use Rattle.elements.proofs.grow.Tie

ready : (k : Lts.After-slice_known Tie.the-claims Reads.Pre Reads.Post) → let a = k.args in Laid a.doc.now a.at a.next a.book.now a.used
ready k =
    let a = k.args in
    let (short, is, grows) = k.requires in
    laid a.doc.now a.at a.next a.book.now a.used (each_octet a.doc.now k.shared_slice_known-1.given)
    (lent_book_lem a.book.now a.used (each_octet a.book.now k.slice_known-1.given) is) grows

pub overflow_add-start : goal.overflow_add-start
overflow_add-start c = omega (arith, (ready c.before).far, (ready c.before).near)

pub slice_bounds-lay-count : goal.slice_bounds-lay-count
slice_bounds-lay-count c = (ready c.before.before).far

pub slice_bounds-lay-start : goal.slice_bounds-lay-start
slice_bounds-lay-start c = (ready c.before.before).far

pub slice_bounds-lay-end : goal.slice_bounds-lay-end
slice_bounds-lay-end c = (ready c.before.before).near

pub lay-filled-requires : goal.lay-filled-requires
lay-filled-requires c = (ready c.before.before.before).room

pub returns : goal.returns
returns c = λ rows st e. c.lay-filled.ensures.1 ∙ (ready c.before.before.before.before.before.before).is rows st e
