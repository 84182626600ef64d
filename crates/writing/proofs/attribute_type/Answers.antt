-- `writing::attribute_type` meets its contract: its number is given as the call says, with one less to come. Assumes nothing.
use mathlib.Core.Path.{◌≡◌, refl}
use Prim.Native.Nat.{ℕ, ◌+◌}
use Rattle.octets.specs.Writing.{word}
use Rattle.writing_parts.specs.Faults.{Fault}
use Rattle.writer.specs.declared.Wanted.TheVariants as wants
use Rattle.writer.specs.declared.State.{State}
use Rattle.writer.specs.Writer.{does, attributes}
use Rattle.writer.specs.Answers.{call_leaves}
use Rattle.writer.proofs.Tests.{gave}
use Rattle.writing.proofs.attribute_type.Goals as goal

same : (s : State) (t : ℕ) {f g : Fault} {n m : ℕ} → f ≡ g → n ≡ m → attributes s wants.AttributeType f (word 4 t) n ≡ attributes s wants.AttributeType g (word 4 t) m
same s t e h = rw (e, h) refl

pub returns : goal.returns
unfolding call_leaves does
returns c =
    let a = c.args in
    gave a.from.state a.buf.now a.book.now a.from.used c.give_attribute.ensures (same a.from.state a.t (c.type_fault-fault.ensures a.from.state.place (a.from.state.place + 4)) c.saturating_sub-more.ensures)
