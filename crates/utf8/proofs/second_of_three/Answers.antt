-- `utf8::second_of_three` meets its contract: by the line that the first octet opens. Assumes nothing.
use native.Mathlib.Omega.{arith}
use mathlib.Core.Path.{refl}
use mathlib.Core.List.{[], ◌∷◌}
use mathlib.Core.Option.{some}
use Rattle.utf8.specs.Utf8.{tail, opens}
use Rattle.utf8.specs.Answers.{Steps}
use Rattle.utf8.proofs.Characters.{by_line}
use Rattle.utf8.proofs.second_of_three.Goals as goal

pub returns-then-x-lt225 : goal.returns-then-x-lt225
unfolding opens
returns-then-x-lt225 c =
    let a = c.args in
    by_line (λ o. Steps o (some (tail ∷ [])) a.s.now a.at a.to c.stands.result) 0xe0 0xe0 a.x refl (omega arith) (omega arith) (c.stands.ensures (tail ∷ []))

pub returns-then-x-lt237 : goal.returns-then-x-lt237
unfolding opens
returns-then-x-lt237 c =
    let a = c.args in
    by_line (λ o. Steps o (some (tail ∷ [])) a.s.now a.at a.to c.stands-then-x-lt237.result) 0xe1 0xec a.x refl (omega arith) (omega arith) (c.stands-then-x-lt237.ensures (tail ∷ []))

pub returns-then-x-lt238 : goal.returns-then-x-lt238
unfolding opens
returns-then-x-lt238 c =
    let a = c.args in
    by_line (λ o. Steps o (some (tail ∷ [])) a.s.now a.at a.to c.stands-then-x-lt238.result) 0xed 0xed a.x refl (omega arith) (omega arith) (c.stands-then-x-lt238.ensures (tail ∷ []))

pub returns : goal.returns
unfolding opens
returns c =
    let a = c.args in
    by_line (λ o. Steps o (some (tail ∷ [])) a.s.now a.at a.to c.stands-2.result) 0xee 0xef a.x refl (omega arith) (omega arith) (c.stands-2.ensures (tail ∷ []))
