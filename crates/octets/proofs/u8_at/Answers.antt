-- `octets::u8_at` meets its contract: one octet is its own number. Assumes nothing.
use native.Mathlib.Omega.{arith}
use native.Mathlib.Nat.{add-zero}
use Rattle.octets.specs.Reading.{be}
use Rattle.octets.proofs.u8_at.Goals as goal

pub returns : goal.returns
unfolding be
returns c = simp (add-zero) (omega arith)
