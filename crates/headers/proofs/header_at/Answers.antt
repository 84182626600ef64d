-- `headers::header_at` meets its contract: 2 for a document that is too long, else the places of its header. Assumes nothing.
use native.Mathlib.Omega.{arith}
use mathlib.Core.Path.{sym, subst}
use Rattle.octets.specs.Reading.{Read}
use Rattle.headers.specs.Header.{Header}
use Rattle.headers.specs.Answers.{Locates}
use Rattle.headers.proofs.Parts.{header_long, header_short}
use Rattle.headers.proofs.header_at.Goals as goal

pub returns-then-s-gt-LONGEST : goal.returns-then-s-gt-LONGEST
returns-then-s-gt-LONGEST c = header_long c.args.s.now c.if-s-gt-LONGEST.true

pub returns : goal.returns
returns c =
    let s = c.args.s.now in
    subst (λ (read : Read Header). Locates s read c.header_places.result) (sym (header_short s (omega arith))) c.header_places.ensures
