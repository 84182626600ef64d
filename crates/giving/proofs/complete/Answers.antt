-- `giving::complete` meets its contract: 17, 20 and the own fault, then what completing the layout answers. Assumes nothing.
use borrow.Author.Rules.{rules}
use native.Mathlib.Omega.{arith}
use Prim.Native.Nat.{ℕ, ◌+◌, ◌≤◌}
use mathlib.Core.Path.{◌≡◌, sym, ap, ◌∙◌, subst}
use mathlib.Core.List.{List}
use lib.ListN.{length}
use Rattle.std.specs.Prelude.{Result, Ok, Err}
use Rattle.octets.specs.Reading.{part}
use Rattle.octets.specs.Writing.{Each, Octet}
use Rattle.octets.specs.Faults.{number_of}
use Rattle.octets.specs.declared.Fault as octets
use Rattle.octets.specs.declared.Refused.{Refused}
use Rattle.octets.proofs.Spans.{each_octet}
use Rattle.layouts.specs.Book.{IsBook}
use Rattle.layouts.proofs.Checks.{good_book}
use Rattle.writing_parts.specs.Answers.{Completes}
use Rattle.writing_parts.specs.Faults.{Fault, faulted, fine, ◌or◌}
use Rattle.writing_parts.proofs.Faults.{faulted_and}
use Rattle.writing_parts.proofs.Placed.{Placed, placed_err, placed_ok}
use Rattle.writer.specs.declared.Wanted.{Wanted}
use Rattle.writer.specs.declared.State.{State}
use Rattle.writer.specs.declared.Standing.{Standing}
use Rattle.writer.specs.Writer.{room, asks, same_turn, between, attributes, layout_so_far}
use Rattle.writer.specs.Answers as answer
use Rattle.writer.specs.Answers.{left, early, deed_leaves, rest_leaves}
use Rattle.writer.proofs.Bounds.{bounds, open_head}
use Rattle.writer.proofs.Tests.{leaves_fault, leaves_late, leaves_done, all_faults, all_ready}
use Rattle.giving.proofs.complete.Goals as goal

module _ (s : State) (b l : List ℕ) (used : ℕ) (turn : Wanted) (f : Fault) (xs : List ℕ) {r : Fault} (all : Result (Unit {0}) octets.Fault)
    (is : r ≡ early s (length b) l used (same_turn s.turn turn)) (both : faulted all ≡ r or f) where
  on : rest_leaves s b l used (attributes s turn (faulted all) xs 0) ≡ deed_leaves s b l used (attributes s turn f xs 0)
  on = all_faults s b l used (attributes s turn f xs 0) is both

  refused : {m : Result (Unit {0}) Refused} {q : Refused} {a : Result Standing Refused} → Placed s.place all m → m ≡ Err q → a ≡ Err q
      → left a b l ≡ deed_leaves s b l used (attributes s turn f xs 0)
  refused placed e z =
      let (k, was, at) = placed_err s.place all placed e in
      rw (z, at) (sym (leaves_fault s b l used (attributes s turn (faulted all) xs 0) (number_of k) (ap faulted was)) ∙ on)

  module _ (e : faulted all ≡ fine) where
    asked : 8 ≤ (asks turn).head → Each Octet l → IsBook l used × (s.start + 8 ≤ s.place) × (s.place ≤ room (length b))
    asked h o =
        let k = all_ready s b l used (attributes s turn f xs 0) is both e in
        let w = bounds s (length b) k.within in
        let head = open_head s (length b) w turn k.in_turn (omega arith) in
        (good_book l used o k.book, omega arith, w.place)

    -- What each answer about the completed layout leaves.
    module _ (x : Result (ℕ × ℕ) octets.Fault) {y z : List ℕ} (c : Completes b y l z used (s.start + 4) s.place xs x) where
      broken : {m : Result (ℕ × ℕ) Refused} {q : Refused} {a : Result Standing Refused} → Placed s.place x m → m ≡ Err q → a ≡ Err q
          → left a y z ≡ deed_leaves s b l used (attributes s turn f xs 0)
      unfolding room layout_so_far part
      broken placed i j =
          let (k, was, at) = placed_err s.place x placed i in
          let (late, same, held) = subst (Completes b y l z used (s.start + 4) s.place xs) was c in
          rw (j, at, same, held) (sym (leaves_late s b l used (attributes s turn (faulted all) xs 0) e (number_of k) late) ∙ on)

      done : {end total : ℕ} → x ≡ Ok (end, total) → left (answer.done (between end s.rows) total) y z ≡ deed_leaves s b l used (attributes s turn f xs 0)
      unfolding room layout_so_far part
      done i =
          let (taken, (fits, place, laid), sum, held) = subst (Completes b y l z used (s.start + 4) s.place xs) i c in
          rw (place, laid, sum, held) (sym (leaves_done s b l used (attributes s turn (faulted all) xs 0) e taken fits) ∙ on)

pub returns-in_err-map_err : goal.returns-in_err-map_err
returns-in_err-map_err c =
    let a = c.args in
    let placed : Placed a.from.state.place c.and.result c.map_err.result = search rules in
    refused a.from.state a.buf.now a.book.now a.from.used a.turn (faulted a.fault) a.last.now c.and.result c.in_turn.ensures (faulted_and c.in_turn.result a.fault c.and.ensures)
    placed c.in_err-map_err.was (search rules)

pub overflow_add-start : goal.overflow_add-start
unfolding room
overflow_add-start c =
    let a = c.args in
    let placed : Placed a.from.state.place c.and.result c.map_err.result = search rules in
    let w =
    asked a.from.state a.buf.now a.book.now a.from.used a.turn (faulted a.fault) a.last.now c.and.result c.in_turn.ensures (faulted_and c.in_turn.result a.fault c.and.ensures)
    (ap faulted (placed_ok a.from.state.place c.and.result placed c.in_ok-map_err.was)) c.requires (each_octet a.book.now c.slice_known-2-1.given) in
    omega arith

pub complete-requires : goal.complete-requires
unfolding room
complete-requires c =
    let a = c.args in
    let placed : Placed a.from.state.place c.and.result c.map_err.result = search rules in
    let w =
    asked a.from.state a.buf.now a.book.now a.from.used a.turn (faulted a.fault) a.last.now c.and.result c.in_turn.ensures (faulted_and c.in_turn.result a.fault c.and.ensures)
    (ap faulted (placed_ok a.from.state.place c.and.result placed c.in_ok-map_err.was)) c.requires (each_octet a.book.now c.slice_known-2-1.given) in
    (w.0, omega arith, w.2)

pub returns-in_err-end : goal.returns-in_err-end
returns-in_err-end c =
    let a = c.args in
    let placed : Placed a.from.state.place c.and.result c.map_err.result = search rules in
    let put : Placed a.from.state.place c.complete.result c.map_err-2.result = search rules in
    broken a.from.state a.buf.now a.book.now a.from.used a.turn (faulted a.fault) a.last.now c.and.result c.in_turn.ensures (faulted_and c.in_turn.result a.fault c.and.ensures)
    (ap faulted (placed_ok a.from.state.place c.and.result placed c.in_ok-map_err.was)) c.complete.result c.complete.ensures put c.in_err-end.was (search rules)

pub returns : goal.returns
returns c =
    let a = c.args in
    let placed : Placed a.from.state.place c.and.result c.map_err.result = search rules in
    let put : Placed a.from.state.place c.complete.result c.map_err-2.result = search rules in
    done a.from.state a.buf.now a.book.now a.from.used a.turn (faulted a.fault) a.last.now c.and.result c.in_turn.ensures (faulted_and c.in_turn.result a.fault c.and.ensures)
    (ap faulted (placed_ok a.from.state.place c.and.result placed c.in_ok-map_err.was)) c.complete.result c.complete.ensures
    (placed_ok a.from.state.place c.complete.result put c.in_ok-end.was)
