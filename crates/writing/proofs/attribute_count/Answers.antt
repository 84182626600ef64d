-- `writing::attribute_count` meets its contract: its number is given as the call says. Assumes nothing.
use mathlib.Core.Path.{ap}
use Rattle.octets.specs.Writing.{word}
use Rattle.writing_parts.specs.Faults.{Fault}
use Rattle.writer.specs.declared.Wanted.TheVariants as wants
use Rattle.writer.specs.Writer.{does, attributes}
use Rattle.writer.specs.Answers.{call_leaves}
use Rattle.writer.proofs.Tests.{gave}
use Rattle.writing.proofs.attribute_count.Goals as goal

pub returns : goal.returns
unfolding call_leaves does
returns c =
    let a = c.args in
    gave a.from.state a.buf.now a.book.now a.from.used c.give_attribute.ensures
    (ap (λ (f : Fault). attributes a.from.state wants.AttributeCount f (word 4 a.n) a.n) c.at_most-fault.ensures)
