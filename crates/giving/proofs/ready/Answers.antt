-- `giving::ready` meets its contract: 17, then 20 by each of its causes. Assumes nothing.
use Prim.Native.Nat.{ℕ}
use mathlib.Core.Path.{◌≡◌, refl, sym, ap, ◌∙◌}
use mathlib.Core.Bool.{Bool, true, ◌&&◌}
use mathlib.Core.List.{List}
use Rattle.octets.specs.Reading.{is_ok}
use Rattle.layouts.specs.Book.{book_of}
use Rattle.writing_parts.specs.Faults.{unless}
use Rattle.writer.specs.declared.State.{State}
use Rattle.writer.specs.Writer.{bounded}
use Rattle.writer.specs.Answers.{early}
use Rattle.writer.proofs.Tests.{early_17, early_on}
use Rattle.giving.proofs.ready.Goals as goal
use Rattle.giving.proofs.ready.Goals.{else-in_bounds-via-then-in_bounds+else-mine, else-in_bounds-via-else-in_bounds}

pub returns-then-not-is_book : goal.returns-then-not-is_book
returns-then-not-is_book c =
    let a = c.args in
    sym (early_17 a.from.state a.len a.book.now a.from.used a.mine (sym c.is_book.ensures ∙ c.if-not-is_book.true))

-- Behind 17, by what was asked about the bounds.
behind : (s : State) (size : ℕ) (l : List ℕ) (used : ℕ) (mine : Bool) {b t : Bool} → b ≡ is_ok (book_of l used) → b ≡ true → t ≡ bounded s size
    → early s size l used mine ≡ unless (t && mine) 20
behind s size l used mine said is e = early_on s size l used mine (sym said ∙ is) ∙ ap (λ (t : Bool). unless (t && mine) 20) (sym e)

pub returns-then-mine : goal.returns-then-mine
returns-then-mine c =
    let a = c.args in
    sym (behind a.from.state a.len a.book.now a.from.used a.mine c.is_book.ensures c.if-not-is_book.false c.in_bounds.ensures ∙ rw (c.if-in_bounds.true, c.if-mine.true) refl)

pub returns-else-in_bounds : goal.returns-else-in_bounds
returns-else-in_bounds c =
    let a = c.args in
    let on = behind a.from.state a.len a.book.now a.from.used a.mine c.is_book.ensures c.if-not-is_book.false c.in_bounds.ensures in
    elim c.else-in_bounds.branch [
      | else-in_bounds-via-then-in_bounds+else-mine w ↦ sym (on ∙ rw (w.if-in_bounds.true, w.if-mine.false) refl)
      | else-in_bounds-via-else-in_bounds w ↦ sym (on ∙ rw w.if-in_bounds.false refl)
    ]
