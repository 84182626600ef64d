-- `collector::ipdr_whole` meets its contract: what reading tells of the whole check, packed where it is refused. Assumes nothing.
use mathlib.Core.Path.{subst}
use Rattle.std.specs.Prelude.{Err}
use Rattle.elements.specs.Reading.{whole}
use Rattle.collector.specs.Calls.{Packs}
use Rattle.collector.proofs.Stays.{whole_packs}
use Rattle.collector.proofs.Handed.{count_told}
use Rattle.collector.proofs.ipdr_whole.Goals as goal

pub pack-requires : goal.pack-requires
pack-requires c =
    let a = c.args in
    (subst Packs (count_told a.rows.now (whole a.doc.now) (Err c.in-Err.refused) c.in-Err.ensures) (whole_packs a.doc.now)).1
