-- `octets::lay` meets its contract: what was put over the start of the rest is laid over the whole. Assumes nothing.
use mathlib.Core.Path.{refl}
use Rattle.octets.proofs.Copies.{laid}
use Rattle.octets.proofs.lay.Goals as goal

pub returns : goal.returns
returns c =
    let a = c.args in
    (refl, laid a.buf.now c.copy_in.new.rest a.xs.now a.at c.copy_in.ensures)
