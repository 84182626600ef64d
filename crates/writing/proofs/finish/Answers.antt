-- `writing::finish` meets its contract: its octets are the kind's, the count's and the time's. Assumes nothing.
use mathlib.Core.Path.{refl, ap, ◌∙◌}
use mathlib.Core.List.{List, ◌++◌}
use Prim.Native.Nat.{ℕ}
use mir.Facts.{to_z-of_z}
use mir.Syntax.{w64}
use mir.Val.{of_z}
use Rattle.octets.specs.Writing.{word}
use Rattle.kinds.proofs.Signs.{unsigned_cast}
use Rattle.writer.specs.declared.Wanted.TheVariants as wants
use Rattle.writer.specs.Writer.{does}
use Rattle.writer.specs.Answers.{call_leaves}
use Rattle.writer.proofs.Tests.{same_put, gave}
use Rattle.writing.proofs.finish.Goals as goal

pub returns : goal.returns
unfolding call_leaves does
returns c =
    let a = c.args in
    gave a.from.state a.buf.now a.book.now a.from.used c.give_pair.ensures
    (same_put a.from.state wants.Element a.from.state.start refl (ap (λ (m : ℕ). word 4 3 ++ word 4 m ++ c.word8-body.result) c.from-rows.ensures ∙ ap (λ (xs : List ℕ). word 4 3 ++ word 4 a.from.state.rows ++ xs) (c.word8-body.ensures ∙ ap (word 8) (c.cast_unsigned.ensures ∙ (ap (of_z w64) (to_z-of_z c.ranges.time) ∙ unsigned_cast w64 8 refl a.time)))) refl refl)
