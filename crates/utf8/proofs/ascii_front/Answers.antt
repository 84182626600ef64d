-- `utf8::ascii_front` meets its contract. The invariant: the octets passed are ASCII. The measure is what is left. Assumes nothing.
use native.Mathlib.Omega.{arith}
use Prim.Native.Nat.{◌+◌, ◌-◌}
use mathlib.Core.Path.{sym, ◌∙◌}
use Rattle.utf8.proofs.Ascii.{unmarked_ascii, ascii_join}
use Rattle.utf8.proofs.ascii_front.Goals as goal

pub loop-i-preserved : goal.loop-i-preserved
loop-i-preserved c =
    let a = c.args in
    let i = c.loop-i.i in
    let more = unmarked_ascii 8 a.s.now i (sym c.marks_at.ensures ∙ c.if-marks_at-ne0.false) in
    (omega arith, omega arith, ascii_join a.s.now a.at i (i + 8) c.loop-i.invariant.2 more)

pub returns-then-marks_at-eq0 : goal.returns-then-marks_at-eq0
returns-then-marks_at-eq0 c =
    let a = c.args in
    let i = c.loop-i.i in
    let last = unmarked_ascii 8 a.s.now (a.to - 8) (sym c.marks_at-2.ensures ∙ c.if-marks_at-eq0.true) in
    (omega arith, omega arith, ascii_join a.s.now a.at i a.to c.loop-i.invariant.2 (λ j h g. last j (omega arith) (omega arith)))
