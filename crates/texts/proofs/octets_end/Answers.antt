-- `texts::octets_end` meets its contract: each return by a law of `octets_in`. Assumes nothing.
use native.Mathlib.Omega.{arith}
use Prim.Native.Nat.{ℕ}
use Rattle.std.specs.Prelude.{Err}
use mathlib.Core.List.{List}
use mathlib.Core.Path.{sym, ap, ◌∙◌}
use Rattle.octets.specs.Reading.{ok, reach, ends}
use Rattle.octets.proofs.Ends.{overrun_ends}
use Rattle.texts.proofs.Ends.{octets_in_lem, octets_cut, octets_over, overrun_behind}
use Rattle.texts.proofs.octets_end.Goals as goal

pub returns-then-end-at : goal.returns-then-end-at
returns-then-end-at c =
    let a = c.args in
    let o = c.overrun.ensures in (
      o ∙ sym (ap ends (octets_cut a.room a.s.now a.at (omega (arith, c.reach-end.ensures))) ∙ overrun_ends (List ℕ) a.room a.at),
      overrun_behind (Err c.overrun.result) a.room a.at (reach a.room a.s.now) o,
    )

pub returns-then-end-next : goal.returns-then-end-next
returns-then-end-next c =
    let a = c.args in
    let r = c.reach-end.ensures in
    let o = c.overrun-then-end-next.ensures in (
      o ∙ sym (ap ends (octets_over a.room a.s.now a.at (omega (arith, r)) (omega (arith, r, c.led_behind-next.ensures))) ∙ overrun_ends (List ℕ) a.room a.at),
      overrun_behind (Err c.overrun-then-end-next.result) a.room a.at (reach a.room a.s.now) o,
    )

pub returns : goal.returns
returns c =
    let a = c.args in
    let r = c.reach-end.ensures in
    let n = c.led_behind-next.ensures in (
      ap (λ (p : ℕ). ok p p) n ∙ sym (ap ends (octets_in_lem a.room a.s.now a.at (omega (arith, r)) (omega (arith, r, n)))),
      (omega (arith, n), omega (arith, r)),
    )
