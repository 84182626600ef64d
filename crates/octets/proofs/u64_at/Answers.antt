-- `octets::u64_at` meets its contract: two numbers of four octets, one behind the other, spell one of eight. Assumes nothing.
use native.Mathlib.Omega.{arith}
use Rattle.octets.proofs.Spans.{be_join}
use Rattle.octets.proofs.u64_at.Goals as goal

pub returns : goal.returns
returns c =
    let a = c.args in
    omega (arith, be_join 4 4 a.s.now a.at, c.u32_at.ensures, c.u32_at-2.ensures)
