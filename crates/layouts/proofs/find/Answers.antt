-- `layouts::find` meets its contract, by what `look_in` answers of the used octets. Assumes nothing.
use native.Mathlib.Omega.{arith}
use Prim.Native.Nat.{ℕ}
use mathlib.Core.Path.{◌≡◌, sym}
use mathlib.Core.List.{List}
use lib.ListN.{length, take}
use Rattle.octets.proofs.Spans.{each_octet}
use Rattle.layouts.specs.Book.{Book, book_in}
use Rattle.layouts.proofs.Books.{Lent}
use Rattle.layouts.proofs.Walks.{lent_book_lem, book_image_lem, lent_length}
use Rattle.layouts.proofs.find.Goals as goal
use Rattle.layouts.proofs.find.Lts
use Rattle.layouts.proofs.find.Reads
use Rattle.layouts.proofs.find.Tie

-- The arguments by names, where the octets are known.
abbrev Known : Type 0
Known = Lts.After-shared_slice_known Tie.the-claims Reads.Pre Reads.Post

abbrev Octets : Known → List ℕ
Octets k = k.args.book.now

abbrev Used : Known → ℕ
Used k = k.args.used

abbrev Held : Known → Book
Held k = book_in (Octets k) (Used k)

lent : (k : Known) → Lent (Octets k) (Used k) (Held k)
lent k = lent_book_lem (Octets k) (Used k) (each_octet (Octets k) k.shared_slice_known-1.given) k.requires

used_length : (k : Known) → length (take (Used k) (Octets k)) ≡ Used k
used_length k = lent_length (Octets k) (Used k) (lent k)

pub look_in-requires : goal.look_in-requires
look_in-requires c =
    (omega (arith, used_length c.before, (lent c.before).most), record { book = Held c.before; image = book_image_lem (Octets c.before) (Used c.before) (Held c.before) (lent c.before) })

pub slice_bounds-look_in-end : goal.slice_bounds-look_in-end
slice_bounds-look_in-end c = sym (used_length c.before)

pub returns : goal.returns
returns c = c.look_in.ensures (Held c.before.before) (book_image_lem (Octets c.before.before) (Used c.before.before) (Held c.before.before) (lent c.before.before))
