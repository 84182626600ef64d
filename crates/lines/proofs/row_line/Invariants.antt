-- `lines::row_line` meets its contract. The invariant: the fields passed are printed. Assumes nothing.
use mathlib.Core.Path.{◌≡◌}
use Prim.Native.Nat.{ℕ, ◌≤◌}
use lib.ListN.{length, take}
use Rattle.octets.specs.Reading.{ok}
use Rattle.octets.specs.Writing.{images}
use Rattle.rows.specs.Row.{Row}
use Rattle.questions.specs.Asked.{row_for}
use Rattle.printing.specs.Pages.{Shows}
use Rattle.lines.specs.Lines.{field_text}
use Rattle.lines.proofs.row_line.Given as goal

abbrev pub invariant-loop-i : goal.invariant-loop-i
invariant-loop-i l = (l.i ≤ l.count)
    × ((row : Row) (next : ℕ) → row_for l.asked ≡ ok row next → l.count ≡ length row.fields → Shows l.initial.page (images field_text (take l.i row.fields)) l.page)
