-- `utf8::pass_rest` meets its contract: by the line that the octet opens, or by a step and the tails behind it. Assumes nothing.
use native.Mathlib.Omega.{arith}
use mathlib.Core.Path.{refl}
use Rattle.utf8.specs.Utf8.{opens}
use Rattle.utf8.specs.Answers.{Passes}
use Rattle.std.specs.Prelude.{None}
use Rattle.utf8.proofs.Characters.{by_line, spells_none}
use Rattle.utf8.proofs.pass_rest.Goals as goal

pub returns-then-x-lt194 : goal.returns-then-x-lt194
unfolding opens
returns-then-x-lt194 c = let a = c.args in by_line (λ o. Passes o a.s.now a.at a.to None) 0x80 0xc1 a.x refl (omega arith) (omega arith) (spells_none _)

pub returns-then-x-lt224 : goal.returns-then-x-lt224
unfolding opens
returns-then-x-lt224 c =
    let a = c.args in
    by_line (λ o. Passes o a.s.now a.at a.to c.pass_tail.result) 0xc2 0xdf a.x refl (omega arith) (omega arith) c.pass_tail.ensures
