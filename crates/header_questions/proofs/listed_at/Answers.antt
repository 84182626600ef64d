-- `header_questions::listed_at` meets its contract: an item that is there stands behind the items before it. Assumes nothing.
use native.Mathlib.Omega.{arith}
use Prim.Native.Nat.{ℕ, ◌≤◌}
use mathlib.Core.Path.{refl, subst}
use borrow.Author.Tests.{le-leb, lt-leb}
use Rattle.octets.specs.Reading.{be}
use Rattle.header_questions.specs.Places.{listed_at}
use Rattle.header_questions.proofs.listed_at.Goals as goal

pub returns-then-count-n : goal.returns-then-count-n
unfolding listed_at
returns-then-count-n g c = λ end f le h.
    let n = c.u32_at-count.ensures in
    rw (le-leb _ _ (subst (λ (k : ℕ). k ≤ c.args.n) n c.if-count-n.true)) refl

pub returns : goal.returns
unfolding listed_at
returns g c = λ end f le h.
    let a = c.args in
    let n = c.u32_at-count.ensures in
    rw (lt-leb (be 4 a.doc.now a.at) a.n (omega (arith, c.if-count-n.false))) (c.run_end.ensures end f (omega (arith, c.requires.0, le)) h).0
