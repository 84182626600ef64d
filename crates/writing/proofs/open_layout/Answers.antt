-- `writing::open_layout` meets its contract: its octets are the kind's and the number's. Assumes nothing.
use Prim.Native.Nat.{ℕ}
use mathlib.Core.Path.{refl, ap, ◌∙◌}
use mathlib.Core.List.{◌++◌, append-nil}
use Rattle.octets.specs.Writing.{word}
use Rattle.writer.specs.declared.Wanted.TheVariants as wants
use Rattle.writer.specs.Writer.{does}
use Rattle.writer.specs.Answers.{call_leaves}
use Rattle.writer.proofs.Tests.{same_put, gave}
use Rattle.writing.proofs.open_layout.Goals as goal

pub returns : goal.returns
unfolding call_leaves does
returns c =
    let a = c.args in
    gave a.from.state a.buf.now a.book.now a.from.used c.give_pair.ensures
    (same_put a.from.state wants.Element a.from.state.place refl (append-nil _ ∙ ap (λ (m : ℕ). word 4 1 ++ word 4 m) c.from.ensures) refl refl)
