-- `writing::start_time` meets its contract: its bits are given as the call says. Assumes nothing.
use mathlib.Core.Path.{refl, ap, ◌∙◌}
use mir.Facts.{to_z-of_z}
use mir.Syntax.{w64}
use mir.Val.{of_z}
use Rattle.kinds.proofs.Signs.{unsigned_cast}
use Rattle.writer.specs.Writer.{does}
use Rattle.writer.specs.Answers.{call_leaves}
use Rattle.writing.proofs.start_time.Goals as goal

pub returns : goal.returns
unfolding call_leaves does
returns c =
    rw (← c.cast_unsigned.ensures ∙ (ap (of_z w64) (to_z-of_z c.ranges.time) ∙ unsigned_cast w64 8 refl c.args.time)) c.give_number.ensures
