-- `utf8::unmarked` meets its contract: eight zero bits are an octet. Assumes nothing.
use native.Mathlib.Omega.{arith}
use Rattle.utf8.proofs.Ascii.{zeros}
use Rattle.utf8.proofs.unmarked.Goals as goal

pub returns : goal.returns
returns c = zeros c.args.m (omega arith)
