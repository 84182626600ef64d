-- `listing::document` meets its contract: the listing of the document. Assumes nothing.
use mathlib.Core.Path.{sym, ap, ◌∙◌, subst}
use mathlib.Core.List.{[]}
use Prim.Native.Nat.{◌≤◌}
use lib.ListN.{length}
use mir.Syntax.{w64}
use mir.Facts.{to_z-of_z}
use native.Mathlib.Omega.{arith}
use Rattle.octets.specs.Limits.{longest}
use Rattle.octets.proofs.Spans.{each_octet}
use Rattle.headers.specs.Header.{header_at}
use Rattle.elements.specs.Walk.{spot_at, through}
use Rattle.reading.specs.declared.Head.{Head}
use Rattle.printing.proofs.Pages.{then, says}
use Rattle.lines.specs.Lines.{header_text}
use Rattle.listing.specs.Listing.{lines_of, listing_by}
use Rattle.listing.proofs.Heads.{headed_as, header_place}
use Rattle.listing.proofs.document.Goals as goal

pub element_lines-requires : goal.element_lines-requires
element_lines-requires c =
    let s = c.args.doc.now in
    let (h, next, is, same) = headed_as (header_at s) c.in-Ok.head (sym c.header.ensures ∙ c.in-Ok.is) in
    subst (λ (x : Head). (x.next ≤ length s) × (length s ≤ longest)) same (header_place s (each_octet s c.type_inv.doc) h next is)

pub returns-in-Ok : goal.returns-in-Ok
returns-in-Ok c =
    let s = c.args.doc.now in
    let (h, next, is, same) = headed_as (header_at s) c.in-Ok.head (sym c.header.ensures ∙ c.in-Ok.is) in
    let exact = to_z-of_z {w = w64} {z = c.in-Ok.head.start} (record { sfits = omega arith }) in
    says (ap (listing_by s) (sym is))
    (then (says (ap header_text (exact ∙ sym (ap (λ (x : Head). x.start) same))) c.header_line.ensures)
    (says (ap (λ (x : Head). lines_of (through s (spot_at x.next 0 []))) (sym same)) c.element_lines.ensures))
