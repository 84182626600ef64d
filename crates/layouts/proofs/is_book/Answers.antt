-- `layouts::is_book` meets its contract: by the two lengths, then by the layouts in the used octets. Assumes nothing.
use borrow.Author.Rules.{rules}
use native.Mathlib.Omega.{arith}
use mathlib.Core.Path.{◌≡◌, sym, ◌∙◌}
use mathlib.Core.Bool.{false}
use mathlib.Core.Logic.{◌⊎◌, inl, inr}
use mathlib.Core.List.{List}
use Prim.Native.Nat.{ℕ, ◌≤◌, ◌<◌}
use lib.ListN.{length}
use Rattle.octets.specs.Limits.{book_room}
use Rattle.octets.specs.Reading.{is_ok}
use Rattle.layouts.specs.Book.{book_of}
use Rattle.layouts.proofs.Checks.{book_short, book_over, book_on}
use Rattle.layouts.proofs.is_book.Goals as goal

pub returns-then-used-le-BOOK_ROOM : goal.returns-then-used-le-BOOK_ROOM
returns-then-used-le-BOOK_ROOM c = let a = c.args in c.are_layouts.ensures ∙ sym (book_on a.book.now a.used (omega arith) (omega arith))

no_book : (s : List ℕ) (used : ℕ) → ((book_room ≤ length s) × (book_room < used)) ⊎ (length s < book_room) → is_ok (book_of s used) ≡ false
no_book s used (inl h) = book_over s used h.0 h.1
no_book s used (inr h) = book_short s used h

pub returns-else-used-le-BOOK_ROOM : goal.returns-else-used-le-BOOK_ROOM
returns-else-used-le-BOOK_ROOM c = let a = c.args in search rules ∙ sym (no_book a.book.now a.used c.if-used-le-BOOK_ROOM.either)
