-- `collector::ipdr_header` meets its contract: what reading tells of the header, packed where it is refused. Assumes nothing.
use Prim.Native.Nat.{ℕ}
use mathlib.Core.Path.{◌≡◌, refl, sym, ap, ◌∙◌, subst}
use lib.ListN.{set}
use mir.Syntax.{w64}
use mir.Val.{of_z}
use mir.Facts.{to_z-of_z}
use Rattle.std.specs.Prelude.{Ok, Err}
use Rattle.octets.specs.Reading.{no}
use Rattle.octets.proofs.Spans.{each_octet}
use Rattle.kinds.proofs.Signs.{unsigned_cast}
use Rattle.headers.specs.Header.{header_at}
use Rattle.reading.proofs.Times.{header_timed}
use Rattle.collector.specs.Calls.{answered, Packs, head_leaves}
use Rattle.collector.proofs.Stays.{header_packs}
use Rattle.collector.proofs.Handed.{head_told}
use Rattle.collector.proofs.ipdr_header.Goals.{In-Err}
use Rattle.collector.proofs.ipdr_header.Goals as goal

refused : (k : In-Err) → let r = k.in-Err.refused in header_at k.args.doc.now ≡ no r.number r.place
refused k =
    let a = k.args in
    head_told a.out.now (header_at a.doc.now) (Err k.in-Err.refused) k.in-Err.ensures (header_timed a.doc.now (each_octet a.doc.now k.type_inv.doc))

pub pack-requires : goal.pack-requires
pack-requires c =
    (subst Packs (refused c) (header_packs c.args.doc.now)).1

pub returns-in-Err : goal.returns-in-Err
returns-in-Err c =
    let e = refused (goal.at.returns-in-Err c).In-Err in
    (c.pack.ensures ∙ sym (ap answered e), sym (ap (head_leaves c.args.out.now) e))

pub returns : goal.returns
returns c =
    let a = c.args in
    let h = c.in-Ok.head in
    let e = head_told a.out.now (header_at a.doc.now) (Ok h) c.in-Ok.ensures (header_timed a.doc.now (each_octet a.doc.now c.type_inv.doc)) in
    let start = c.cast_unsigned-start.ensures ∙ (ap (of_z w64) (to_z-of_z {w = w64} {z = h.start} (record { sfits = c.struct_told-1.given.0.1 })) ∙ unsigned_cast w64 8 refl h.start) in
    rw (c.from.ensures, c.from-2.ensures)
    (e.0, ap (λ (n : ℕ). set (set (set (set a.out.now 0 n) 1 h.namespaces) 2 h.services) 3 h.next) start ∙ e.1)
