-- `writing::document_id` meets its contract: its octets are the length's, the id's and the four octets FF. Assumes nothing.
use mathlib.Core.Path.{◌≡◌, refl, sym}
use mathlib.Core.List.{List, ◌∷◌, [], ◌++◌, append_assoc}
use Prim.Native.Nat.{ℕ}
use Rattle.octets.specs.Writing.{word}
use Rattle.writer.specs.declared.Wanted.TheVariants as wants
use Rattle.writer.specs.Writer.{does}
use Rattle.writer.specs.Answers.{call_leaves}
use Rattle.writer.proofs.Tests.{same_put, gave}
use Rattle.writing.proofs.document_id.Goals as goal

image : (xs : List ℕ) {h : List ℕ} → h ≡ word 4 16 → h ++ (xs ++ (255 ∷ 255 ∷ 255 ∷ 255 ∷ [])) ≡ word 4 16 ++ xs ++ word 4 0xffffffff
unfolding word
image xs e = rw e (sym (append_assoc (word 4 16) xs (word 4 0xffffffff)))

pub returns : goal.returns
unfolding call_leaves does
returns c =
    let a = c.args in
    gave a.from.state a.buf.now a.book.now a.from.used c.give.ensures
    (same_put a.from.state wants.DocumentId a.from.state.start c.sixteen.ensures (image a.xs.now c.word4-head.ensures) refl refl)
