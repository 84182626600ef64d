-- `collector::ipdr_step` meets its contract: what reading tells of the step, packed where it is refused, and the book as reading leaves it. Assumes nothing.
use native.Mathlib.Omega.{arith}
use mathlib.Core.Path.{◌≡◌, ◌∙◌, subst}
use Rattle.std.specs.Prelude.{Ok, Err}
use Rattle.octets.specs.Reading.{no}
use Rattle.octets.proofs.Spans.{each_octet}
use Rattle.elements.specs.Steps.{step_at}
use Rattle.reading.proofs.Times.{step_timed}
use Rattle.collector.specs.Calls.{Packs}
use Rattle.collector.proofs.Stays.{step_packs}
use Rattle.collector.proofs.Handed.{step_told}
use Rattle.collector.proofs.ipdr_step.Goals.{In-Err}
use Rattle.collector.proofs.ipdr_step.Goals as goal

refused : (k : In-Err) → let a = k.args in let r = k.in-Err.refused in step_at a.doc.now a.at a.rows a.book.now a.used ≡ no r.number r.place
refused k =
    let a = k.args in
    let timed = step_timed a.doc.now (each_octet a.doc.now k.type_inv.doc) a.at a.rows a.book.now a.used (each_octet a.book.now k.slice_known-1.given) in
    step_told a.out.now (step_at a.doc.now a.at a.rows a.book.now a.used) (Err k.in-Err.refused) k.in-Err.ensures.0 timed

pub pack-requires : goal.pack-requires
pack-requires c =
    let a = c.args in
    (subst Packs (refused c) (step_packs a.doc.now a.at a.rows a.book.now a.used (omega arith))).1

pub returns : goal.returns
returns c =
    let a = c.args in
    let timed = step_timed a.doc.now (each_octet a.doc.now c.type_inv.doc) a.at a.rows a.book.now a.used (each_octet a.book.now c.slice_known-1.given) in
    let e = step_told a.out.now (step_at a.doc.now a.at a.rows a.book.now a.used) (Ok c.in-Ok.step) c.in-Ok.ensures.0 timed in
    (e.0, c.words_of.ensures ∙ e.1, c.step.ensures.1)
