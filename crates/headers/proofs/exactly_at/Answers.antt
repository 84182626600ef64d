-- `headers::exactly_at` meets its contract: each return by a law of `exactly`. Assumes nothing.
use native.Mathlib.Omega.{arith}
use mathlib.Core.Path.{refl, sym, ◌∙◌}
use Rattle.octets.specs.Faults.{number_of}
use Rattle.octets.proofs.Ends.{exactly_ok, exactly_no, exactly_other}
use Rattle.headers.proofs.exactly_at.Goals as goal

pub returns-then-s-at : goal.returns-then-s-at
returns-then-s-at c = let a = c.args in (rw (exactly_no a.s.now a.at a.wanted (number_of a.fault) c.if-s-at.true) refl, tt)

pub returns-then-u32_at-wanted : goal.returns-then-u32_at-wanted
returns-then-u32_at-wanted c =
    let a = c.args in
    let n = c.u32_at.ensures in
    (rw (exactly_other a.s.now a.at a.wanted (number_of a.fault) (omega arith) (λ e. c.if-u32_at-wanted.true (n ∙ e))) refl, tt)

pub returns : goal.returns
returns c =
    let a = c.args in
    let n = c.u32_at.ensures in
    (rw (exactly_ok a.s.now a.at a.wanted (number_of a.fault) (omega arith) (sym n ∙ c.if-u32_at-wanted.false)) refl, omega arith)
