-- `listing::listed` meets its contract, by the input's length. Assumes nothing.
use borrow.Author.Tests.{le-leb, lt-leb}
use lib.ListN.{length}
use Rattle.listing.specs.Listing.{too_long_text}
use Rattle.lines.proofs.Words.{word}
use Rattle.listing.proofs.listed.Goals as goal

pub returns-then-doc-gt65536 : goal.returns-then-doc-gt65536
returns-then-doc-gt65536 c =
    rw (lt-leb (length c.args.doc.now) 65536 c.if-doc-gt65536.true) (word too_long_text c.show_all.ensures)

pub returns : goal.returns
returns c =
    rw (le-leb (length c.args.doc.now) 65536 c.if-doc-gt65536.false) c.document.ensures
