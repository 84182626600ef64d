-- `printing::Page::decimal` meets its contract. Assumes nothing.
use native.Mathlib.Omega.{arith}
use mathlib.Core.Path.{◌≡◌, ◌∙◌}
use Prim.Native.Nat.{◌-◌}
use lib.ListN.{length, take, drop, length-drop}
use lib.Seq.{take_all}
use Rattle.printing.proofs.Puts.{plain}
use Rattle.printing.proofs.Pages.{says}
use Rattle.printing.proofs.Page.decimal.Goals as goal

pub returns : goal.returns
returns c =
    let t = c.spell-from.new.text in
    let r = c.spell-from.result in
    let long : length t ≡ 20 = c.spell-from.auto.text in
    says (plain (take (20 - r) (drop r t)) ∙ (take_all (20 - r) (drop r t) (omega (arith, length-drop r t, long)) ∙ c.spell-from.ensures.1)) c.show_all.ensures
