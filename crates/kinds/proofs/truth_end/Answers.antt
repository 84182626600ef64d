-- `kinds::truth_end` meets its contract: a number of one octet, then its test. Assumes nothing.
use native.Mathlib.Omega.{arith}
use Prim.Native.Nat.{ℕ}
use mathlib.Core.Path.{sym, ap, ◌∙◌}
use Rattle.octets.specs.Reading.{ok}
use Rattle.octets.proofs.Ends.{number_ended}
use Rattle.octets.proofs.Passed.{handed_on}
use Rattle.kinds.proofs.Forms.{truth_ok, truth_bad, truth_no}
use Rattle.kinds.proofs.truth_end.Goals as goal

pub returns-in_err-next : goal.returns-in_err-next
returns-in_err-next c =
    let a = c.args in
    let r = c.in_err-next.field-0.0 in
    rw (handed_on c.from_residual.result r c.from_residual.ensures.1) (sym (truth_no a.room a.s.now a.at r.number r.place (sym c.in_err-next.ensures.0)), tt)

pub u8_at-requires : goal.u8_at-requires
u8_at-requires c =
    let a = c.args in
    omega (arith, number_ended a.room a.s.now a.at 1 c.in_ok-next.next (sym c.in_ok-next.ensures.0), c.requires)

pub returns-then-u8_at-gt1 : goal.returns-then-u8_at-gt1
returns-then-u8_at-gt1 c =
    let a = c.args in
    (sym (truth_bad a.room a.s.now a.at (number_ended a.room a.s.now a.at 1 c.in_ok-next.next (sym c.in_ok-next.ensures.0)).0 (omega (arith, c.u8_at.ensures))), tt)

pub returns : goal.returns
returns c =
    let a = c.args in
    let (h, p) = number_ended a.room a.s.now a.at 1 c.in_ok-next.next (sym c.in_ok-next.ensures.0) in (
      ap (λ (n : ℕ). ok n n) p ∙ sym (truth_ok a.room a.s.now a.at h (omega (arith, c.u8_at.ensures))),
      (omega (arith, p), omega (arith, p, h)),
    )
