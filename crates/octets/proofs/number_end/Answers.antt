-- `octets::number_end` meets its contract: a number fits, or its room gives the refusal. Assumes nothing.
use native.Mathlib.Omega.{arith}
use Prim.Native.Nat.{ℕ}
use Rattle.std.specs.Prelude.{Err}
use mathlib.Core.Path.{sym, ap, ◌∙◌}
use Rattle.octets.specs.Reading.{reach, ends}
use Rattle.octets.proofs.Ends.{number_in_lem, number_over, overrun_ends, overrun_within}
use Rattle.octets.proofs.number_end.Goals as goal

pub returns-then-reach-at : goal.returns-then-reach-at
returns-then-reach-at c =
    let a = c.args in
    let o = c.overrun.ensures in (
      o ∙ sym (ap ends (number_over a.room a.s.now a.at a.w (omega (arith, c.reach.ensures))) ∙ overrun_ends ℕ a.room a.at),
      overrun_within (Err c.overrun.result) a.room a.at a.at (reach a.room a.s.now) o,
    )

pub returns : goal.returns
returns c =
    let a = c.args in
    let r = c.reach.ensures in
    (sym (ap ends (number_in_lem a.room a.s.now a.at a.w (omega (arith, r)))), (omega arith, omega (arith, r)))
