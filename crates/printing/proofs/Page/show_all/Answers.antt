-- `printing::Page::show_all` meets its contract. The invariant: what was passed is printed. Assumes nothing.
use borrow.Author.Rules.{rules}
use native.Mathlib.Omega.{arith}
use mathlib.Core.Path.{sym}
use Rattle.printing.specs.Text.{shown}
use Rattle.printing.proofs.Puts.{images_none, images_more}
use Rattle.printing.proofs.Pages.{then, says, nothing}
use Rattle.printing.proofs.Page.show_all.Goals as goal

pub loop-i-init : goal.loop-i-init
loop-i-init c = (search rules, says (sym (images_none (shown c.args.how))) (nothing c.args.self.now))

pub loop-i-preserved : goal.loop-i-preserved
loop-i-preserved c =
    let l = c.loop-i in
    let a = c.args in
    (omega arith, says (sym (images_more (shown a.how) a.xs.now l.i 0 (omega arith))) (then l.invariant.1 c.show_one.ensures))
