-- `writing::uri` meets its contract: its string is given as the call says. Assumes nothing.
use Rattle.writer.specs.Writer.{does}
use Rattle.writer.specs.Answers.{call_leaves}
use Rattle.writing.proofs.uri.Goals as goal

pub returns : goal.returns
unfolding call_leaves does
returns c = c.give_text.ensures
