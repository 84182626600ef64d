-- `kinds::kind_by` meets its contract: each return by a law of `kind_for`. Assumes nothing.
use mathlib.Core.Path.{sym}
use Rattle.kinds.proofs.Table.{for_some}
use Rattle.kinds.proofs.kind_by.Goals as goal

pub returns : goal.returns
returns c = λ at next. sym (for_some at c.args.t next c.in_ok-basic.basic c.in_ok-basic.ensures)
