-- `octets::octets_same` meets its contract. The invariant: the two are the same where what is left of them is. Assumes nothing.
use mathlib.Core.Path.{sym}
use Rattle.octets.proofs.Copies.{same_lengths}
use Rattle.octets.proofs.octets_same.Goals as goal

pub returns-then-a-b : goal.returns-then-a-b
returns-then-a-b c = sym (same_lengths c.args.a.now c.args.b.now c.if-a-b.true)
