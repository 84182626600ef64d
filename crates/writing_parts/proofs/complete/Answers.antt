-- `writing_parts::complete` meets its contract: what the book takes of the layout fits in it. Assumes nothing.
use native.Mathlib.Omega.{arith}
use Prim.Native.Nat.{ℕ, ◌+◌, ◌≤◌}
use mathlib.Core.Path.{◌≡◌, sym, ◌∙◌, subst}
use mathlib.Core.List.{List}
use lib.ListN.{length}
use Rattle.octets.specs.Limits.{book_room}
use Rattle.octets.proofs.Spans.{each_octet}
use Rattle.layouts.specs.Book.{book_in}
use Rattle.layouts.specs.declared.Learning.{Learning}
use Rattle.std.specs.Prelude.{Result, Ok}
use Rattle.octets.specs.declared.Fault.{Fault}
use Rattle.writing_parts.specs.Answers.{learning_of, added, whole}
use Rattle.writing_parts.proofs.Meets.{used_room, added_fits}
use Rattle.writing_parts.proofs.complete.Goals as goal

enters : (b l : List ℕ) (used from at : ℕ) (xs : List ℕ) {x : Result Learning Fault} {k : Learning} → x ≡ learning_of (book_in l used) used (whole b from at xs) → x ≡ Ok k
    → used ≤ book_room → book_room ≤ length l → used + length (added (Ok k) (whole b from at xs)) ≤ length l
enters b l used from at xs {k = k} is e h m =
    let fits : used + length (added (Ok k) (whole b from at xs)) ≤ book_room =
    subst (λ (y : Result Learning Fault). used + length (added y (whole b from at xs)) ≤ book_room) (sym is ∙ e) (added_fits (book_in l used) used (whole b from at xs) h) in
    omega arith

pub enter-total-requires : goal.enter-total-requires
enter-total-requires c =
    let a = c.args in
    let w = used_room a.book.now a.used (each_octet a.book.now c.slice_known-2-1.given) c.requires.0 in
    enters a.buf.now a.book.now a.used a.from a.at a.last.now c.meet.ensures c.in_ok-learning.was w.1 w.0
