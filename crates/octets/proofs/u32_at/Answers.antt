-- `octets::u32_at` meets its contract: the sum of its octets by their weights is the number they spell. Assumes nothing.
use native.Mathlib.Omega.{arith}
use native.Mathlib.Nat.{add-zero}
use Rattle.octets.specs.Reading.{be}
use Rattle.octets.proofs.u32_at.Goals as goal

pub returns : goal.returns
unfolding be
returns c = simp (add-zero) (omega arith)
