-- `giving::give_number` meets its contract: the last of its eight octets are the number's. Assumes nothing.
use mathlib.Core.Path.{refl, ◌∙◌}
use mathlib.Core.List.{append-nil}
use Rattle.giving.proofs.Values.{number_octets}
use Rattle.writer.proofs.Tests.{same_put, gave}
use Rattle.giving.proofs.give_number.Goals as goal

pub returns : goal.returns
returns c =
    let a = c.args in
    gave a.from.state a.buf.now a.book.now a.from.used c.give.ensures
    (same_put a.from.state a.deed.turn a.deed.start refl (append-nil _ ∙ number_octets a.w a.n c.requires c.word8-head.ensures) refl refl)
