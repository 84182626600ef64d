-- `writing_parts::pair` meets its contract: one word is put, and the other laid behind it. Assumes nothing.
use mathlib.Core.Path.{refl}
use Rattle.octets.specs.Writing.{word, over}
use Rattle.writing_parts.proofs.pair.Goals as goal

pub returns : goal.returns
unfolding word over
returns c = rw (c.lay_number.ensures.1, c.put_number.ensures) refl
