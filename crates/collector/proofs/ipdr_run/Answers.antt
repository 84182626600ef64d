-- `collector::ipdr_run` meets its contract: what the run tells, packed where it is refused, and book and words as the run leaves them. Assumes nothing.
use native.Mathlib.Omega.{arith}
use mathlib.Core.Path.{◌≡◌, subst}
use Rattle.std.specs.Prelude.{Err}
use Rattle.octets.specs.Reading.{no}
use Rattle.elements.specs.Walk.{lent_at}
use Rattle.runs.specs.Runs.{run_asked}
use Rattle.collector.specs.Calls.{Packs}
use Rattle.collector.proofs.Stays.{run_packs}
use Rattle.collector.proofs.Handed.{run_told}
use Rattle.collector.proofs.ipdr_run.Goals.{In-Err}
use Rattle.collector.proofs.ipdr_run.Goals as goal

refused : (k : In-Err) → let a = k.args in let r = k.in-Err.refused in run_asked a.doc.now (lent_at a.at a.rows a.book.now a.used) ≡ no r.number r.place
refused k = let a = k.args in run_told a.out.now (run_asked a.doc.now (lent_at a.at a.rows a.book.now a.used)) (Err k.in-Err.refused) k.in-Err.ensures.0

pub pack-requires : goal.pack-requires
pack-requires c =
    let a = c.args in
    (subst Packs (refused c) (run_packs a.doc.now a.at a.rows a.book.now a.used (omega arith))).1
