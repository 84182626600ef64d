-- `writing::close_row` meets its contract: 17 and 20 first, then the fault, or the length laid where it stands. Assumes nothing.
use borrow.Author.Tests.{le-leb}
use native.Mathlib.Omega.{arith}
use Prim.Native.Nat.{ℕ, ◌+◌, ◌-◌, ◌≤◌}
use mathlib.Core.Path.{◌≡◌, refl, sym, ap, ◌∙◌}
use mathlib.Core.Bool.{Bool}
use mathlib.Core.List.{List}
use lib.ListN.{length}
use Rattle.std.proofs.Common.{rules}
use Rattle.std.specs.Prelude.{Result, Ok}
use lib.Dec.{ltb}
use Rattle.octets.specs.declared.Fault as octets
use Rattle.octets.specs.declared.Refused.{Refused}
use Rattle.octets.specs.Reading.{be}
use Rattle.octets.specs.Writing.{over, Each, Octet}
use Rattle.octets.proofs.Spans.{each_octet}
use Rattle.layouts.specs.Book.{find, book_in}
use Rattle.rows.specs.Row.{length_image}
use Rattle.writing_parts.specs.Answers.{next_of}
use Rattle.writing_parts.specs.declared.Next.{Next}
use Rattle.writing_parts.specs.Faults.{Fault, faulted, fine}
use Rattle.writing_parts.specs.Faults as faults
use Rattle.writer.specs.declared.Wanted.TheVariants as wants
use Rattle.writer.specs.declared.State.{State}
use Rattle.writer.specs.Writer.{room, same_turn, between, row_layout, does, close_row}
use Rattle.writer.specs.Answers.{left, early, call_leaves}
use Rattle.writer.specs.Answers as answers
use Rattle.writer.specs.Own.{close_fault}
use Rattle.writer.proofs.Tests.{leaves_fault, leaves_put, stopped, passed, ready, length_size}
use Rattle.writer.proofs.Values.{close_own}
use Rattle.giving.proofs.Values.{InRow, in_row}
use Rattle.writing_parts.proofs.Placed.{Placed, placed_ok}
use Rattle.writing.proofs.Stops.{stops}
use Rattle.writing.proofs.close_row.Goals as goal

module _ (s : State) (b l : List ℕ) (used : ℕ) (r : Fault) (is : r ≡ early s (length b) l used (same_turn s.turn wants.Value)) where
  first : (k : ℕ) → r ≡ faults.Refused k → left (answers.refused k s.place) b l ≡ call_leaves s b l used close_row
  unfolding call_leaves does
  first = stopped s b l used (does s b (book_in l used) close_row) r is

  module _ (e : r ≡ fine) where
    inside : Each Octet l → InRow s (length b) l used
    inside o = in_row s (length b) l used o (ready s (length b) l used (same_turn s.turn wants.Value) (sym is ∙ e))

    module _ (f : Fault) {x : Next} (j : x ≡ next_of (find (be 4 b (s.start + 4)) (book_in l used)) s.count) (k : f ≡ close_fault x) where
      fault : (does s b (book_in l used) close_row).fault ≡ f
      unfolding does row_layout
      fault = sym (k ∙ rw j (close_own (find (be 4 b (s.start + 4)) (book_in l used)) s.count))

      refused : (m : ℕ) → f ≡ faults.Refused m → left (answers.refused m s.place) b l ≡ call_leaves s b l used close_row
      unfolding call_leaves does
      refused m g =
          sym (passed s b l used (does s b (book_in l used) close_row) r is e ∙ leaves_fault s b l used (does s b (book_in l used) close_row) m (fault ∙ g))

      done : f ≡ fine → s.start + 12 ≤ s.place → s.place ≤ room (length b) → {y : List ℕ}
          → y ≡ over b (s.start + 8) (length_image (ltb (be 4 b (s.start + 8)) 0xffffffff) (s.place - (s.start + 12)))
          → left (answers.done (between s.place (s.rows + 1)) used) y l ≡ call_leaves s b l used close_row
      unfolding call_leaves does
      done g h p q =
          let stated : Bool = ltb (be 4 b (s.start + 8)) 0xffffffff in
          let four = length_size stated (s.place - (s.start + 12)) in
          rw q (sym (passed s b l used (does s b (book_in l used) close_row) r is e
          ∙ leaves_put s b l used (does s b (book_in l used) close_row) (fault ∙ g) refl
          (le-leb (s.start + 8 + length (length_image stated (s.place - (s.start + 12)))) (room (length b)) (omega arith))))

pub returns-in_err-map_err : goal.returns-in_err-map_err
returns-in_err-map_err c =
    let a = c.args in
    let r = c.in_turn in
    let placed : Placed a.from.state.place r.result c.map_err.result = search rules in
    stops a.buf.now a.book.now a.from.state.place r.result placed c.in_err-map_err.was (search rules)
    (first a.from.state a.buf.now a.book.now a.from.used (faulted r.result) r.ensures)

-- What holds where 17 and 20 are not given.
passed_early : (s : State) (b l : List ℕ) (used : ℕ) (r : Result (Unit {0}) octets.Fault) {m : Result (Unit {0}) Refused} {u : Unit {0}}
    → faulted r ≡ early s (length b) l used (same_turn s.turn wants.Value) → Placed s.place r m → m ≡ Ok u → Each Octet l → (faulted r ≡ fine) × InRow s (length b) l used
passed_early s b l used r is placed e o =
    let none : faulted r ≡ fine = ap faulted (placed_ok s.place r placed e) in
    (none, inside s b l used (faulted r) is none o)

pub row_next-next-requires : goal.row_next-next-requires
unfolding room
row_next-next-requires c =
    let a = c.args in
    let r = c.in_turn in
    let placed : Placed a.from.state.place r.result c.map_err.result = search rules in
    let (_, w) = passed_early a.from.state a.buf.now a.book.now a.from.used r.result r.ensures placed c.in_ok-map_err.was (each_octet a.book.now c.type_inv.book) in
    (omega arith, w.book)

pub returns-in_err-map_err-2 : goal.returns-in_err-map_err-2
returns-in_err-map_err-2 c =
    let a = c.args in
    let r = c.in_turn in
    let f = c.close_fault in
    let placed : Placed a.from.state.place r.result c.map_err.result = search rules in
    let own : Placed a.from.state.place f.result c.map_err-2.result = search rules in
    stops a.buf.now a.book.now a.from.state.place f.result own c.in_err-map_err-2.was (search rules)
    (refused a.from.state a.buf.now a.book.now a.from.used (faulted r.result) r.ensures (ap faulted (placed_ok a.from.state.place r.result placed c.in_ok-map_err.was)) (faulted f.result) c.row_next-next.ensures f.ensures)

pub lay_length-requires : goal.lay_length-requires
unfolding room
lay_length-requires c =
    let a = c.args in
    let r = c.in_turn in
    let placed : Placed a.from.state.place r.result c.map_err.result = search rules in
    let (_, w) = passed_early a.from.state a.buf.now a.book.now a.from.used r.result r.ensures placed c.in_ok-map_err.was (each_octet a.book.now c.type_inv.book) in
    (w.head, omega arith)

pub returns : goal.returns
returns c =
    let a = c.args in
    let r = c.in_turn in
    let f = c.close_fault in
    let placed : Placed a.from.state.place r.result c.map_err.result = search rules in
    let own : Placed a.from.state.place f.result c.map_err-2.result = search rules in
    let (none, w) = passed_early a.from.state a.buf.now a.book.now a.from.used r.result r.ensures placed c.in_ok-map_err.was (each_octet a.book.now c.type_inv.book) in
    done a.from.state a.buf.now a.book.now a.from.used (faulted r.result) r.ensures none (faulted f.result) c.row_next-next.ensures f.ensures (ap faulted (placed_ok a.from.state.place f.result own c.in_ok-map_err-2.was)) w.head w.place c.lay_length.ensures

pub overflow_add-state : goal.overflow_add-state
overflow_add-state c =
    let a = c.args in
    let r = c.in_turn in
    let placed : Placed a.from.state.place r.result c.map_err.result = search rules in
    let (_, w) = passed_early a.from.state a.buf.now a.book.now a.from.used r.result r.ensures placed c.in_ok-map_err.was (each_octet a.book.now c.type_inv.book) in
    omega arith
