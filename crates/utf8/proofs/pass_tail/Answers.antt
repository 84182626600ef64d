-- `utf8::pass_tail` meets its contract: a step, and nothing is wanted behind it. Assumes nothing.
use native.Mathlib.Omega.{arith}
use Prim.Native.Nat.{◌+◌}
use mathlib.Core.Path.{refl}
use mathlib.Core.List.{[], ◌∷◌}
use mathlib.Core.Option.{some}
use Rattle.utf8.specs.Utf8.{tail, utf8}
use Rattle.std.specs.Prelude.{Some}
use Rattle.utf8.proofs.Characters.{step_inside, step_pass}
use Rattle.utf8.proofs.pass_tail.Goals as goal

pub returns-then-stands : goal.returns-then-stands
unfolding utf8
returns-then-stands c =
    let a = c.args in
    let step = c.stands.ensures [] in
    let inside = step_inside a.s.now a.at a.to (some (tail ∷ [])) (some []) step c.if-stands.true in
    step_pass a.s.now a.at a.to (some (tail ∷ [])) (some []) step c.if-stands.true (Some (a.at + 1)) (omega arith, inside, refl)
