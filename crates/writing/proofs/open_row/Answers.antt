-- `writing::open_row` meets its contract: 17 and 20 first, then the layout looked up and the octets put. Assumes nothing.
use Prim.Native.Nat.{ℕ, ◌≤◌}
use mathlib.Core.Path.{◌≡◌, refl, sym, ap, ◌∙◌}
use mathlib.Core.Bool.{Bool}
use mathlib.Core.List.{List, [], ◌++◌, append-nil}
use lib.ListN.{length}
use Rattle.std.proofs.Common.{rules}
use Rattle.octets.specs.Writing.{word, Each, Octet}
use Rattle.octets.proofs.Spans.{each_octet}
use Rattle.layouts.specs.Book.{find, book_in, IsBook}
use Rattle.layouts.proofs.Checks.{good_book}
use Rattle.rows.specs.Row.{length_image}
use Rattle.writing_parts.specs.Faults.{Fault, faulted, fine}
use Rattle.writing_parts.specs.Faults as faults
use Rattle.writer.specs.declared.Wanted.TheVariants as wants
use Rattle.writer.specs.declared.State.{State}
use Rattle.writer.specs.Writer.{room, same_turn, in_book, put, does, open_row}
use Rattle.writer.specs.Answers.{Left, left, refused, early, rest_leaves, call_leaves}
use Rattle.writer.proofs.Bounds.{bounds}
use Rattle.writer.proofs.Tests.{stopped, passed, at_ready, same_put}
use Rattle.writing_parts.proofs.Placed.{Placed, placed_ok}
use Rattle.writing.proofs.Stops.{stops}
use Rattle.writing.proofs.open_row.Goals as goal

module _ (s : State) (b l : List ℕ) (used n : ℕ) (stated : Bool) (r : Fault) (is : r ≡ early s (length b) l used (same_turn s.turn wants.Element)) where
  first : (k : ℕ) → r ≡ faults.Refused k → left (refused k s.place) b l ≡ call_leaves s b l used (open_row n stated)
  unfolding call_leaves does
  first = stopped s b l used (does s b (book_in l used) (open_row n stated)) r is

  module _ (e : r ≡ fine) where
    asked : Each Octet l → IsBook l used × (s.place ≤ room (length b))
    unfolding does
    asked o =
        let k = at_ready s b l used (does s b (book_in l used) (open_row n stated)) r is e in
        (good_book l used o k.book, (bounds s (length b) k.within).place)

    done : (f : Fault) {h x : List ℕ} {y : Left} → f ≡ in_book (find n (book_in l used)) (λ _. fine) → h ≡ word 4 2 ++ word 4 n → x ≡ length_image stated 0
        → y ≡ rest_leaves s b l used (put s wants.Element f (h ++ (x ++ [])) wants.Value 0 s.place) → y ≡ call_leaves s b l used (open_row n stated)
    unfolding call_leaves does
    done f i j k g =
        g ∙ (ap (rest_leaves s b l used) (same_put s wants.Element s.place i (rw (j, k, append-nil (length_image stated 0)) refl) refl refl)
        ∙ sym (passed s b l used (does s b (book_in l used) (open_row n stated)) r is e))

pub returns-in_err-map_err : goal.returns-in_err-map_err
returns-in_err-map_err c =
    let a = c.args in
    let r = c.in_turn in
    let placed : Placed a.from.state.place r.result c.map_err.result = search rules in
    stops a.buf.now a.book.now a.from.state.place r.result placed c.in_err-map_err.was (search rules)
    (first a.from.state a.buf.now a.book.now a.from.used a.n a.stated (faulted r.result) r.ensures)

pub layout_fault-requires : goal.layout_fault-requires
layout_fault-requires c =
    let a = c.args in
    let r = c.in_turn in
    let placed : Placed a.from.state.place r.result c.map_err.result = search rules in
    (asked a.from.state a.buf.now a.book.now a.from.used a.n a.stated (faulted r.result) r.ensures
    (ap faulted (placed_ok a.from.state.place r.result placed c.in_ok-map_err.was)) (each_octet a.book.now c.type_inv.book)).0

pub give_on-requires : goal.give_on-requires
give_on-requires c = λ _.
    let a = c.args in
    let r = c.in_turn in
    let placed : Placed a.from.state.place r.result c.map_err.result = search rules in
    (asked a.from.state a.buf.now a.book.now a.from.used a.n a.stated (faulted r.result) r.ensures
    (ap faulted (placed_ok a.from.state.place r.result placed c.in_ok-map_err.was)) (each_octet a.book.now c.type_inv.book)).1

pub returns : goal.returns
returns c =
    let a = c.args in
    let r = c.in_turn in
    let placed : Placed a.from.state.place r.result c.map_err.result = search rules in
    done a.from.state a.buf.now a.book.now a.from.used a.n a.stated (faulted r.result) r.ensures
    (ap faulted (placed_ok a.from.state.place r.result placed c.in_ok-map_err.was)) (faulted c.layout_fault.result) c.layout_fault.ensures (c.pair-head.ensures ∙ ap (λ (m : ℕ). word 4 2 ++ word 4 m) c.from.ensures) c.length_octets-body.ensures (c.give_on.ensures wants.Element a.book.now)
