-- The used octets of a lent book, and what it takes of a layout's. Assumes nothing.
use mathlib.Core.Path.{◌≡◌}
use mathlib.Core.List.{List}
use Prim.Native.Nat.{ℕ, ◌+◌, ◌≤◌}
use native.Mathlib.Omega.{arith}
use lib.ListN.{length, take}
use lib.Seq.{length-take-le}
use Rattle.std.specs.Prelude.{Result, Ok, Err}
use Rattle.octets.specs.declared.Fault.{Fault}
use Rattle.octets.specs.Limits.{longest, book_room}
use Rattle.octets.specs.Reading.{be}
use Rattle.octets.specs.Writing.{Each, Octet}
use Rattle.layouts.specs.Book.{Book, IsBook}
use Rattle.layouts.specs.declared.Learning.{Learning}
use Rattle.layouts.specs.declared.Learning.TheVariants.{Known, New}
use Rattle.layouts.proofs.Walks.{lent_book_lem}
use Rattle.layouts.proofs.Judging.{Learned, learned}
use Rattle.writing_parts.specs.Answers.{learning_of, added}

-- The used octets of a book.
module _ (octets : List ℕ) (used : ℕ) (o : Each Octet octets) (is : IsBook octets used) where
  pub used_room : (book_room ≤ length octets) × (used ≤ book_room)
  used_room = let l = lent_book_lem octets used o is in (l.room, l.most)

  pub used_length : length (take used octets) ≡ used
  used_length = let r = used_room in length-take-le used octets (omega arith)

  pub used_small : length (take used octets) ≤ longest
  used_small = let r = used_room in let l = used_length in omega arith

-- What the book takes stays inside its limit.
pub added_fits : (book : Book) (used : ℕ) (xs : List ℕ) → used ≤ book_room → used + length (added (learning_of book used xs) xs) ≤ book_room
added_fits book used xs h = go (learning_of book used xs) (learned book used (be 4 xs 0) xs)
  where
    go : (x : Result Learning Fault) → Learned book used (be 4 xs 0) xs x → used + length (added x xs) ≤ book_room
    go (Ok Known) w = omega arith
    go (Ok (New v)) w = w.2
    go (Err f) w = omega arith
