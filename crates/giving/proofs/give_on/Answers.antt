-- `giving::give_on` meets its contract: a law of what is left for each way out. Assumes nothing.
use borrow.Author.Rules.{rules}
use Prim.Native.Nat.{ℕ}
use mathlib.Core.Path.{◌≡◌, refl, sym, ap, subst}
use mathlib.Core.List.{List, ◌++◌}
use Rattle.std.specs.Prelude.{Option, Some, None, Result, Err}
use Rattle.octets.specs.Faults.{number_of}
use Rattle.octets.specs.declared.Fault as octets
use Rattle.octets.specs.declared.Refused.{Refused}
use Rattle.writing_parts.specs.Answers.{Puts}
use Rattle.writing_parts.specs.Faults.{faulted, fine}
use Rattle.writing_parts.proofs.Placed.{Placed, placed_err, placed_ok}
use Rattle.writer.specs.declared.Wanted.{Wanted}
use Rattle.writer.specs.declared.State.{State}
use Rattle.writer.specs.declared.Standing.{Standing}
use Rattle.writer.specs.Writer.{room, put}
use Rattle.writer.specs.Answers as answer
use Rattle.writer.specs.Answers.{left, rest_leaves}
use Rattle.writer.proofs.Tests.{leaves_fault, leaves_full, leaves_put}
use Rattle.giving.proofs.give_on.Goals as goal

module _ (s : State) (b : List ℕ) (used : ℕ) (f : Result (Unit {0}) octets.Fault) (xs : List ℕ) (next : Wanted) (count start : ℕ) (turn : Wanted) where
  refused : {m : Result (Unit {0}) Refused} {q : Refused} {r : Result Standing Refused} → Placed s.place f m → m ≡ Err q → r ≡ Err q → (l : List ℕ)
      → left r b l ≡ rest_leaves s b l used (put s turn (faulted f) xs next count start)
  refused placed e is l =
      let (k, was, at) = placed_err s.place f placed e in
      rw (is, at) (sym (leaves_fault s b l used (put s turn (faulted f) xs next count start) (number_of k) (ap faulted was)))

  module _ (e : faulted f ≡ fine) {r : Option ℕ} {y : List ℕ} (p : Puts b y s.place xs r) where
    full : r ≡ None → (l : List ℕ) → left (answer.refused 23 s.place) y l ≡ rest_leaves s b l used (put s turn (faulted f) xs next count start)
    unfolding room
    full z l =
        let (no_room, same) = subst (Puts b y s.place xs) z p in
        rw same (sym (leaves_full s b l used (put s turn (faulted f) xs next count start) e refl no_room))

    done : {q : ℕ} → r ≡ Some q → (l : List ℕ)
        → left (answer.done (record { place = q; turn = next; count = count; start = start; rows = s.rows }) used) y l
        ≡ rest_leaves s b l used (put s turn (faulted f) xs next count start)
    unfolding room
    done z l =
        let (fits, place, laid) = subst (Puts b y s.place xs) z p in
        rw (place, laid) (sym (leaves_put s b l used (put s turn (faulted f) xs next count start) e refl fits))

pub returns-in_err-map_err : goal.returns-in_err-map_err
returns-in_err-map_err c =
    let a = c.args in
    let placed : Placed a.from.state.place a.deed.fault c.map_err.result = search rules in
    λ turn. refused a.from.state a.buf.now a.from.used a.deed.fault (a.head.now ++ (a.body.now ++ a.tail.now)) a.deed.next a.deed.count a.deed.start turn placed c.in_err-map_err.was (search rules)

pub put_runs-requires : goal.put_runs-requires
unfolding room
put_runs-requires c =
    let a = c.args in
    let placed : Placed a.from.state.place a.deed.fault c.map_err.result = search rules in
    c.requires (ap faulted (placed_ok a.from.state.place a.deed.fault placed c.in_ok-map_err.was))

pub returns-in_default : goal.returns-in_default
returns-in_default c =
    let a = c.args in
    let placed : Placed a.from.state.place a.deed.fault c.map_err.result = search rules in
    λ turn. full a.from.state a.buf.now a.from.used a.deed.fault (a.head.now ++ (a.body.now ++ a.tail.now)) a.deed.next a.deed.count a.deed.start turn
    (ap faulted (placed_ok a.from.state.place a.deed.fault placed c.in_ok-map_err.was)) c.put_runs.ensures c.in_default.is

pub returns : goal.returns
returns c =
    let a = c.args in
    let placed : Placed a.from.state.place a.deed.fault c.map_err.result = search rules in
    λ turn. done a.from.state a.buf.now a.from.used a.deed.fault (a.head.now ++ (a.body.now ++ a.tail.now)) a.deed.next a.deed.count a.deed.start turn
    (ap faulted (placed_ok a.from.state.place a.deed.fault placed c.in_ok-map_err.was)) c.put_runs.ensures c.in-Some.is
