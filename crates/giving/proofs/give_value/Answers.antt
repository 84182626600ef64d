-- `giving::give_value` meets its contract: 17 and 20 first, then the next field looked up and the value put. Assumes nothing.
use borrow.Author.Rules.{rules}
use native.Mathlib.Omega.{arith}
use Prim.Native.Nat.{ℕ, ◌+◌}
use mathlib.Core.Path.{◌≡◌, refl, sym, ap, ◌∙◌}
use mathlib.Core.Bool.{Bool, true, false}
use mathlib.Core.List.{List, [], ◌++◌, append-nil}
use lib.ListN.{length}
use Rattle.std.specs.Prelude.{Result, Ok, Err}
use Rattle.octets.specs.Reading.{be}
use Rattle.octets.specs.Writing.{Each, Octet}
use Rattle.octets.specs.Faults.{number_of}
use Rattle.octets.specs.declared.Fault as octets
use Rattle.octets.specs.declared.Refused.{Refused}
use Rattle.octets.proofs.Spans.{each_octet}
use Rattle.kinds.specs.declared.Basic.{Basic}
use Rattle.kinds.specs.Kinds.{form_by}
use Rattle.layouts.specs.Book.{find, book_in}
use Rattle.kinds.specs.Forms.{Value, value_image}
use Rattle.writing_parts.specs.Answers.{next_of}
use Rattle.writing_parts.specs.Faults.{Fault, faulted, fine, ◌or◌}
use Rattle.writing_parts.proofs.Faults.{faulted_and}
use Rattle.writing_parts.proofs.Placed.{Placed, placed_err, placed_ok}
use Rattle.writing_parts.specs.declared.Next.{Next}
use Rattle.writer.specs.declared.Wanted.TheVariants as wants
use Rattle.writer.specs.declared.State.{State}
use Rattle.writer.specs.declared.Standing.{Standing}
use Rattle.writer.specs.Writer.{room, same_turn, suits, value_breach, row_layout, put, does, value}
use Rattle.writer.specs.Answers.{Left, left, early, rest_leaves, call_leaves}
use Rattle.writer.specs.Own.{value_fault}
use Rattle.writer.proofs.Tests.{stopped, passed, ready, same_put, same_refused}
use Rattle.writer.proofs.Values.{value_own, unfit}
use Rattle.giving.proofs.Values.{InRow, in_row}
use Rattle.giving.proofs.give_value.Goals as goal

module _ (s : State) (b l : List ℕ) (used : ℕ) (a : Basic) (r : Result (Unit {0}) octets.Fault) (is : faulted r ≡ early s (length b) l used (same_turn s.turn wants.Value))
    {m : Result (Unit {0}) Refused} (placed : Placed s.place r m) where
  first : {q : Refused} {z : Result Standing Refused} → m ≡ Err q → z ≡ Err q → (v : Value) → left z b l ≡ call_leaves s b l used (value a v)
  unfolding call_leaves does
  first e i v =
      let (k, was, at) = placed_err s.place r placed e in
      rw (i, at) (stopped s b l used (does s b (book_in l used) (value a v)) (faulted r) is (number_of k) (ap faulted was))

  module _ {u : Unit {0}} (e : m ≡ Ok u) where
    told : faulted r ≡ fine
    told = ap faulted (placed_ok s.place r placed e)

    inside : Each Octet l → InRow s (length b) l used
    inside o = in_row s (length b) l used o (ready s (length b) l used (same_turn s.turn wants.Value) (sym is ∙ told))

    module _ {x : Next} (f : Fault) {t : Bool} {o : Fault} (j : x ≡ next_of (find (be 4 b (s.start + 4)) (book_in l used)) s.count) (k : f ≡ value_fault x a t or o) (v : Value)
        (g : t ≡ suits (form_by a) v) (own : o ≡ value_breach (form_by a) v) (h xs : List ℕ) (image : t ≡ true → h ++ xs ≡ value_image (form_by a) v) where
      fault : f ≡ (does s b (book_in l used) (value a v)).fault
      unfolding does row_layout
      fault = k ∙ rw (j, g, own) (value_own (find (be 4 b (s.start + 4)) (book_in l used)) s.count a v)

      same : (u : Bool) → t ≡ u
          → rest_leaves s b l used (put s wants.Value f (h ++ (xs ++ [])) wants.Value (s.count + 1) s.start) ≡ rest_leaves s b l used (does s b (book_in l used) (value a v))
      unfolding does
      same true q = ap (rest_leaves s b l used) (same_put s wants.Value s.start fault (rw (append-nil xs) (image q)) refl refl)
      same false q =
          let (m, z) = unfit x a in
          same_refused s b l used (put s wants.Value f (h ++ (xs ++ [])) wants.Value (s.count + 1) s.start) (does s b (book_in l used) (value a v)) m (k ∙ rw (q, z) refl) (sym fault)

      done : {y : Left} → y ≡ rest_leaves s b l used (put s wants.Value f (h ++ (xs ++ [])) wants.Value (s.count + 1) s.start) → y ≡ call_leaves s b l used (value a v)
      unfolding call_leaves does
      done m = m ∙ (same t refl ∙ sym (passed s b l used (does s b (book_in l used) (value a v)) (faulted r) is told))

pub returns-in_err-map_err : goal.returns-in_err-map_err
returns-in_err-map_err c = λ v _ _ _.
    let a = c.args in
    let placed : Placed a.from.state.place c.in_turn.result c.map_err.result = search rules in
    first a.from.state a.buf.now a.book.now a.from.used a.b c.in_turn.result c.in_turn.ensures placed c.in_err-map_err.was (search rules) v

pub row_next-next-requires : goal.row_next-next-requires
unfolding room
row_next-next-requires c =
    let a = c.args in
    let placed : Placed a.from.state.place c.in_turn.result c.map_err.result = search rules in
    let w = inside a.from.state a.buf.now a.book.now a.from.used a.b c.in_turn.result c.in_turn.ensures placed c.in_ok-map_err.was (each_octet a.book.now c.type_inv.book) in
    (omega arith, w.book)

pub overflow_add-deed : goal.overflow_add-deed
overflow_add-deed c =
    let a = c.args in
    let placed : Placed a.from.state.place c.in_turn.result c.map_err.result = search rules in
    let w = inside a.from.state a.buf.now a.book.now a.from.used a.b c.in_turn.result c.in_turn.ensures placed c.in_ok-map_err.was (each_octet a.book.now c.type_inv.book) in
    omega arith

pub give_on-requires : goal.give_on-requires
give_on-requires c = λ _.
    let a = c.args in
    let placed : Placed a.from.state.place c.in_turn.result c.map_err.result = search rules in
    let w = inside a.from.state a.buf.now a.book.now a.from.used a.b c.in_turn.result c.in_turn.ensures placed c.in_ok-map_err.was (each_octet a.book.now c.type_inv.book) in
    w.place

pub returns : goal.returns
returns c = λ v m own image.
    let a = c.args in
    let placed : Placed a.from.state.place c.in_turn.result c.map_err.result = search rules in
    done a.from.state a.buf.now a.book.now a.from.used a.b c.in_turn.result c.in_turn.ensures placed c.in_ok-map_err.was (faulted c.and.result) c.row_next-next.ensures
    (faulted_and c.value_fault.result a.breach c.and.ensures ∙ ap (λ (x : Fault). x or faulted a.breach) c.value_fault.ensures) v m own a.head.now a.body.now image
    (c.give_on.ensures wants.Value a.book.now)
