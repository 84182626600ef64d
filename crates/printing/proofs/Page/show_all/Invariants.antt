-- `printing::Page::show_all` meets its contract. The invariant: what was passed is printed. Assumes nothing.
use Prim.Native.Nat.{◌≤◌}
use lib.ListN.{length, take}
use Rattle.printing.specs.Text.{showing}
use Rattle.printing.specs.Pages.{Shows}
use Rattle.printing.proofs.Page.show_all.Given as goal

abbrev pub invariant-loop-i : goal.invariant-loop-i
invariant-loop-i l = (l.i ≤ length l.xs) × Shows l.initial.self (showing l.how (take l.i l.xs)) l.self
