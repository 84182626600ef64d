-- `kinds::value_end` meets its contract: each arm by the function of its form. Assumes nothing.
use Prim.Native.Nat.{ℕ}
use mathlib.Core.List.{List}
use mathlib.Core.Path.{◌≡◌, sym, ap, ◌∙◌}
use Rattle.octets.specs.Reading.{ends}
use Rattle.octets.specs.declared.Room.{Room}
use Rattle.kinds.specs.Forms.{value_in}
use Rattle.kinds.specs.declared.Form.{Form}
use Rattle.kinds.proofs.Forms.{fixed_ends, led_ends}
use Rattle.kinds.proofs.value_end.Goals as goal

-- The same value by the form that was matched.
matched : (room : Room) (s : List ℕ) (at : ℕ) {f g : Form} → f ≡ g → ends (value_in room g s at) ≡ ends (value_in room f s at)
matched room s at e = ap (λ (x : Form). ends (value_in room x s at)) (sym e)

pub returns-in-Fixed : goal.returns-in-Fixed
returns-in-Fixed c =
    let a = c.args in
    let v = c.number_end.ensures in
    (v.0 ∙ (sym (fixed_ends a.room a.s.now a.at _) ∙ matched a.room a.s.now a.at c.in-Fixed.is), v.1)

pub returns-in-Led : goal.returns-in-Led
returns-in-Led c =
    let a = c.args in
    let v = c.led_end.ensures in
    (v.0 ∙ (sym (led_ends a.room a.s.now a.at _) ∙ matched a.room a.s.now a.at c.in-Led.is), v.1)
