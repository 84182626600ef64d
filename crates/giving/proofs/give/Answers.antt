-- `giving::give` meets its contract: 17, 20 and the own fault are one fault, and octets are given against it. Assumes nothing.
use mathlib.Core.Path.{◌∙◌}
use mathlib.Core.List.{◌++◌}
use Rattle.writing_parts.specs.Faults.{faulted}
use Rattle.writing_parts.proofs.Faults.{faulted_and}
use Rattle.writer.specs.Writer.{put}
use Rattle.writer.proofs.Bounds.{bounds}
use Rattle.writer.proofs.Tests.{all_faults, all_ready}
use Rattle.giving.proofs.give.Goals as goal

pub give_on-requires : goal.give_on-requires
give_on-requires c = λ e.
    let a = c.args in
    (bounds a.from.state _ (all_ready a.from.state a.buf.now a.book.now a.from.used (put a.from.state a.deed.turn (faulted a.deed.fault) (a.head.now ++ (a.body.now ++ a.tail.now)) a.deed.next a.deed.count a.deed.start)
    c.in_turn.ensures (faulted_and c.in_turn.result a.deed.fault c.and-fault.ensures) e).within).place

pub returns : goal.returns
returns c =
    let a = c.args in
    c.give_on.ensures a.deed.turn a.book.now
    ∙ all_faults a.from.state a.buf.now a.book.now a.from.used (put a.from.state a.deed.turn (faulted a.deed.fault) (a.head.now ++ (a.body.now ++ a.tail.now)) a.deed.next a.deed.count a.deed.start)
    c.in_turn.ensures (faulted_and c.in_turn.result a.deed.fault c.and-fault.ensures)
