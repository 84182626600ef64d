-- `writing::give_up` meets its contract: 17 and 20 first, then the zeros laid. Assumes nothing.
use borrow.Author.Tests.{le-leb}
use native.Mathlib.Omega.{arith}
use Prim.Native.Nat.{ℕ, ◌+◌, ◌-◌, ◌≤◌}
use mathlib.Core.Path.{◌≡◌, refl, sym, ap, ◌∙◌}
use mathlib.Core.Bool.{Bool}
use mathlib.Core.List.{List}
use lib.ListN.{length, replicate, length-replicate}
use Rattle.std.proofs.Common.{rules}
use Rattle.octets.specs.Writing.{over}
use Rattle.layouts.specs.Book.{book_in}
use Rattle.writing_parts.specs.Faults.{Fault, faulted, fine}
use Rattle.writing_parts.specs.Faults as faults
use Rattle.writer.specs.declared.State.{State}
use Rattle.writer.specs.Writer.{room, is_open, between, does, give_up}
use Rattle.writer.specs.Answers.{left, early, call_leaves}
use Rattle.writer.specs.Answers as answers
use Rattle.writer.proofs.Bounds.{bounds}
use Rattle.writer.proofs.Tests.{stopped, passed, ready, leaves_put}
use Rattle.writing_parts.proofs.Placed.{Placed, placed_ok}
use Rattle.writing.proofs.Stops.{stops}
use Rattle.writing.proofs.give_up.Goals as goal

module _ (s : State) (b l : List ℕ) (used : ℕ) (r : Fault) (is : r ≡ early s (length b) l used (is_open s.turn)) where
  first : (k : ℕ) → r ≡ faults.Refused k → left (answers.refused k s.place) b l ≡ call_leaves s b l used give_up
  unfolding call_leaves does
  first = stopped s b l used (does s b (book_in l used) give_up) r is

  module _ (e : r ≡ fine) where
    within : (s.start ≤ s.place) × (s.place ≤ room (length b))
    within =
        let k = ready s (length b) l used (is_open s.turn) (sym is ∙ e) in
        let w = bounds s (length b) k.within in
        let h = w.head k.in_turn in
        (omega arith, w.place)

    inside : s.start + (s.place - s.start) ≤ length b
    unfolding room
    inside = let w = within in omega arith

    done : {y : List ℕ} → y ≡ over b s.start (replicate (s.place - s.start) 0) → left (answers.done (between s.start s.rows) used) y l ≡ call_leaves s b l used give_up
    unfolding call_leaves does
    done g =
        let w = within in
        let long = length-replicate {A = ℕ} (s.place - s.start) 0 in
        rw g (sym (passed s b l used (does s b (book_in l used) give_up) r is e
        ∙ leaves_put s b l used (does s b (book_in l used) give_up) refl refl (le-leb (s.start + length (replicate (s.place - s.start) 0)) (room (length b)) (omega arith))))

-- What was asked about 17 and 20: whether an element is open.
asked : (s : State) (b l : List ℕ) (used : ℕ) {r : Fault} {mine : Bool} → r ≡ early s (length b) l used mine → mine ≡ is_open s.turn → r ≡ early s (length b) l used (is_open s.turn)
asked s b l used e is = e ∙ ap (early s (length b) l used) is

pub returns-in_err-map_err : goal.returns-in_err-map_err
returns-in_err-map_err c =
    let a = c.args in
    let r = c.ready in
    let placed : Placed a.from.state.place r.result c.map_err.result = search rules in
    stops a.buf.now a.book.now a.from.state.place r.result placed c.in_err-map_err.was (search rules)
    (first a.from.state a.buf.now a.book.now a.from.used (faulted r.result) (asked a.from.state a.buf.now a.book.now a.from.used r.ensures c.is_open-mine.ensures))

pub overflow_sub-place : goal.overflow_sub-place
overflow_sub-place c =
    let a = c.args in
    let r = c.ready in
    let placed : Placed a.from.state.place r.result c.map_err.result = search rules in
    (within a.from.state a.buf.now a.book.now a.from.used (faulted r.result) (asked a.from.state a.buf.now a.book.now a.from.used r.ensures c.is_open-mine.ensures)
    (ap faulted (placed_ok a.from.state.place r.result placed c.in_ok-map_err.was))).0

pub lay_zeros-requires : goal.lay_zeros-requires
lay_zeros-requires c =
    let a = c.args in
    let r = c.ready in
    let placed : Placed a.from.state.place r.result c.map_err.result = search rules in
    inside a.from.state a.buf.now a.book.now a.from.used (faulted r.result) (asked a.from.state a.buf.now a.book.now a.from.used r.ensures c.is_open-mine.ensures)
    (ap faulted (placed_ok a.from.state.place r.result placed c.in_ok-map_err.was))

pub returns : goal.returns
returns c =
    let a = c.args in
    let r = c.ready in
    let placed : Placed a.from.state.place r.result c.map_err.result = search rules in
    done a.from.state a.buf.now a.book.now a.from.used (faulted r.result) (asked a.from.state a.buf.now a.book.now a.from.used r.ensures c.is_open-mine.ensures)
    (ap faulted (placed_ok a.from.state.place r.result placed c.in_ok-map_err.was)) c.lay_zeros.ensures
