-- `utf8::second_of_four` meets its contract: by the line that the first octet opens. Assumes nothing.
use native.Mathlib.Omega.{arith}
use mathlib.Core.Path.{refl}
use mathlib.Core.List.{[], ◌∷◌}
use mathlib.Core.Bool.{false}
use mathlib.Core.Option.{some}
use Rattle.utf8.specs.Utf8.{tail, opens}
use Rattle.utf8.specs.Answers.{Steps}
use Rattle.utf8.proofs.Characters.{by_line, spells_none}
use Rattle.utf8.proofs.second_of_four.Goals as goal

pub returns-then-x-lt241 : goal.returns-then-x-lt241
unfolding opens
returns-then-x-lt241 c =
    let a = c.args in
    by_line (λ o. Steps o (some (tail ∷ tail ∷ [])) a.s.now a.at a.to c.stands.result) 0xf0 0xf0 a.x refl (omega arith) (omega arith) (c.stands.ensures (tail ∷ tail ∷ []))

pub returns-then-x-lt244 : goal.returns-then-x-lt244
unfolding opens
returns-then-x-lt244 c =
    let a = c.args in
    by_line (λ o. Steps o (some (tail ∷ tail ∷ [])) a.s.now a.at a.to c.stands-then-x-lt244.result) 0xf1 0xf3 a.x refl (omega arith) (omega arith) (c.stands-then-x-lt244.ensures (tail ∷ tail ∷ []))

pub returns-then-x-lt245 : goal.returns-then-x-lt245
unfolding opens
returns-then-x-lt245 c =
    let a = c.args in
    by_line (λ o. Steps o (some (tail ∷ tail ∷ [])) a.s.now a.at a.to c.stands-then-x-lt245.result) 0xf4 0xf4 a.x refl (omega arith) (omega arith) (c.stands-then-x-lt245.ensures (tail ∷ tail ∷ []))

pub returns : goal.returns
unfolding opens
returns c =
    let a = c.args in
    by_line (λ o. Steps o (some (tail ∷ tail ∷ [])) a.s.now a.at a.to false) 0xf5 0xff a.x refl (omega arith) (omega arith) (spells_none _)
