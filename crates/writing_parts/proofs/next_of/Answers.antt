-- `writing_parts::next_of` meets its contract: the field of the layout found. Assumes nothing.
use mathlib.Core.Path.{◌≡◌, sym, subst}
use lib.ListN.{length, take}
use Rattle.octets.specs.Writing.{Each, Octet}
use Rattle.octets.proofs.Spans.{each_octet}
use Rattle.layouts.specs.Book.{book_in}
use Rattle.layouts.specs.Answers.{Looks}
use Rattle.layouts.specs.declared.Looked.{Looked}
use Rattle.writing_parts.proofs.Meets.{used_length, used_small}
use Rattle.writing_parts.proofs.next_of.Goals as goal
use Rattle.writing_parts.proofs.next_of.Lts
use Rattle.writing_parts.proofs.next_of.Reads
use Rattle.writing_parts.proofs.next_of.Tie

-- What was found, whichever answer it gave.
found : (f : Lts.After-find Tie.the-claims Reads.Pre Reads.Post) (x : Looked) → f.find.result ≡ x
    → Looks (take f.args.used f.args.book.now) f.args.number (book_in f.args.book.now f.args.used) x
found f x e =
    let a = f.args in
    subst (Looks (take a.used a.book.now) a.number (book_in a.book.now a.used)) e f.find.ensures

-- Where the octets of the book are known.
octets : (k : Lts.After-shared_slice_known Tie.the-claims Reads.Pre Reads.Post) → Each Octet k.args.book.now
octets k = each_octet k.args.book.now k.shared_slice_known-1.given

long : (k : Lts.After-shared_slice_known Tie.the-claims Reads.Pre Reads.Post) → k.args.used ≡ length (take k.args.used k.args.book.now)
long k = sym (used_length k.args.book.now k.args.used (octets k) k.requires)

pub next_at-requires : goal.next_at-requires
next_at-requires c =
    let w = found c.before.before _ c.in-There.is in
    (used_small c.args.book.now c.args.used (octets c.before.before.before) c.requires, record { layout = w.layout; next = w.next; reads = w.reads })

pub slice_bounds-next_at-end : goal.slice_bounds-next_at-end
slice_bounds-next_at-end c = long c.before.before.before
