-- `writing_parts::enter` meets its contract: of a layout that is not new nothing is laid. Assumes nothing.
use native.Mathlib.Nat.{add-zero}
use Prim.Native.Nat.{ℕ, ◌+◌}
use mathlib.Core.Path.{◌≡◌, refl, sym}
use mathlib.Core.List.{List, [], ◌++◌}
use lib.ListN.{length}
use Rattle.octets.specs.Writing.{over}
use Rattle.octets.specs.declared.Fault.{Fault}
use Rattle.std.specs.Prelude.{Result}
use Rattle.layouts.specs.declared.Learning.{Learning}
use Rattle.writing_parts.specs.Answers.{added}
use Rattle.writing_parts.proofs.Over.{over_nil}
use Rattle.writing_parts.proofs.enter.Goals as goal

-- What nothing is added to is as it was.
nothing : (book : List ℕ) (used : ℕ) (l : Result Learning Fault) (front last : List ℕ) → added l (front ++ last) ≡ []
    → (used ≡ used + length (added l (front ++ last))) × (book ≡ over book used (added l (front ++ last)))
nothing book used l front last e = rw e (sym (add-zero used), sym (over_nil book used))

pub returns-in_default : goal.returns-in_default
returns-in_default c =
    let a = c.args in
    nothing a.book.now a.used a.learning a.front.now a.last.now (rw c.in_default.is refl)

pub returns-in-Known : goal.returns-in-Known
returns-in-Known c =
    let a = c.args in
    nothing a.book.now a.used a.learning a.front.now a.last.now (rw c.in-Ok.is (rw c.in-Known.is refl))
