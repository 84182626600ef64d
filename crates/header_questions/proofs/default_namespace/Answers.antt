-- `header_questions::default_namespace` meets its contract: the default namespace stands behind the start time. Assumes nothing.
use native.Mathlib.Omega.{arith}
use Rattle.texts.proofs.Ends.{text_stands}
use Rattle.header_questions.proofs.default_namespace.Goals as goal

pub overflow_add-places : goal.overflow_add-places
overflow_add-places c = let h = c.in-Ok.ensures in omega (arith, h.short, (text_stands _ _ h.located.default).head)
