-- `writing::recorder` meets its contract: its octets are the version's and the string's. Assumes nothing.
use mathlib.Core.Path.{refl}
use mathlib.Core.List.{append_assoc}
use lib.ListN.{length}
use Rattle.octets.specs.Writing.{word}
use Rattle.texts.specs.Texts.{led_image}
use Rattle.writer.specs.declared.Wanted.TheVariants as wants
use Rattle.writer.specs.Writer.{does}
use Rattle.writer.specs.Answers.{call_leaves}
use Rattle.writer.proofs.Tests.{same_put, gave}
use Rattle.writing.proofs.recorder.Goals as goal

pub returns : goal.returns
unfolding call_leaves does led_image
returns c =
    let a = c.args in
    let xs = a.xs.now in
    gave a.from.state a.buf.now a.book.now a.from.used c.give_pair.ensures
    (same_put a.from.state wants.Recorder a.from.state.start c.breach.ensures (append_assoc (word 4 4) (word 4 (length xs)) xs) refl refl)
