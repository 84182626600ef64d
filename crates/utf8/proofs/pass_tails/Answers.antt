-- `utf8::pass_tails` meets its contract: a step, and a tail behind it. Assumes nothing.
use native.Mathlib.Omega.{arith}
use mathlib.Core.List.{[], ◌∷◌}
use mathlib.Core.Option.{some}
use Rattle.utf8.specs.Utf8.{tail}
use Rattle.utf8.proofs.Characters.{step_inside}
use Rattle.utf8.proofs.pass_tails.Goals as goal

pub pass_tail-requires : goal.pass_tail-requires
pass_tail-requires c =
    let a = c.args in
    (step_inside a.s.now a.at a.to (some (tail ∷ tail ∷ [])) (some (tail ∷ [])) (c.stands.ensures (tail ∷ [])) c.if-stands.true, omega arith)
