-- `utf8::is_utf8` meets its contract. The invariant: the octets are UTF-8 just where those that are left are. The measure is what is left. Assumes nothing.
use native.Mathlib.Omega.{arith}
use mathlib.Core.Path.{sym, ◌∙◌}
use Rattle.utf8.specs.Utf8.{utf8}
use Rattle.utf8.proofs.Characters.{ascii_passes, utf8_on, utf8_not, utf8_end}
use Rattle.utf8.proofs.is_utf8.Goals as goal

pub returns-then-from-to : goal.returns-then-from-to
returns-then-from-to c = let a = c.args in sym (utf8_end a.s.now a.from a.to (omega arith) (omega arith))

pub loop-i-init : goal.loop-i-init
unfolding utf8
loop-i-init c =
    let f = c.ascii_front-i in
    let a = c.args in
    ascii_passes a.s.now a.from f.result a.to f.ensures.0 f.ensures.1 (omega arith) f.ensures.2

pub returns-in_default : goal.returns-in_default
returns-in_default c =
    let a = c.args in
    let none = utf8_not a.s.now c.loop-i.i a.to (omega arith) (omega arith) c.in_default.is c.pass.ensures in
    sym (c.loop-i.invariant.2 ∙ none)

pub loop-i-preserved : goal.loop-i-preserved
loop-i-preserved c =
    let a = c.args in
    let on = utf8_on a.s.now c.loop-i.i a.to (omega arith) (omega arith) c.in-Some.next c.in-Some.is c.pass.ensures in
    (omega (arith, on.0), on.1, c.loop-i.invariant.2 ∙ on.2)

pub returns : goal.returns
returns c =
    let a = c.args in
    sym (c.loop-i.invariant.2 ∙ utf8_end a.s.now c.loop-i.i a.to (omega arith) (omega arith))
