-- `writing_parts::length_octets` meets its contract: the four octets FF are a length that is not stated. Assumes nothing.
use mathlib.Core.Path.{refl}
use Rattle.octets.specs.Writing.{word}
use Rattle.writing_parts.proofs.length_octets.Goals as goal

pub returns-else-stated : goal.returns-else-stated
unfolding word
returns-else-stated c = rw c.if-stated.false refl
