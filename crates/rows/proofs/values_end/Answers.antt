-- `rows::values_end` meets its contract: by the room that the length gives, which passes the document's end or is filled. Assumes nothing.
use native.Mathlib.Omega.{arith}
use Prim.Native.Nat.{ℕ, ◌+◌, ◌≤◌}
use mathlib.Core.List.{List}
use Rattle.std.specs.Prelude.{Result}
use Rattle.std.proofs.lemmas.Result.{err_from_is_err_and}
use mathlib.Core.Path.{◌≡◌, sym, ap, ◌∙◌, subst}
use lib.ListN.{length}
use Rattle.octets.specs.Reading.{ok, ends, be, reach, run}
use Rattle.octets.specs.Answers.{says, Within}
use Rattle.octets.specs.declared.Room.{Room}
use Rattle.octets.specs.declared.Refused.{Refused}
use Rattle.layouts.specs.Layout.{Attribute, attribute_at}
use Rattle.rows.specs.Row.{fields_in}
use Rattle.rows.specs.Answers.{length_room, fills}
use Rattle.rows.proofs.Lengths.{values_far, values_stopped, values_by, fills_within}
use Rattle.rows.proofs.values_end.Goals as goal
use Rattle.rows.proofs.values_end.Lts
use Rattle.rows.proofs.values_end.Reads
use Rattle.rows.proofs.values_end.Tie

-- The room is the one that the length at the place gives.
is_room : (l : Lts.After-length_room Tie.the-claims Reads.Pre Reads.Post Tie.handed_clauses) → let a = l.args in l.length_room-room.result ≡ length_room a.at (be 4 a.doc.now a.at)
is_room l =
    let a = l.args in
    l.length_room-room.ensures ∙ ap (length_room a.at) l.u32_at.ensures

pub returns-then-doc-reach : goal.returns-then-doc-reach
returns-then-doc-reach c =
    let a = c.args in
    let far = ap (λ (x : Room). reach x a.doc.now) (is_room c.before.before.before) in
    (λ xs last e. sym (ap ends (values_far a.doc.now a.at _ xs (omega (arith, far, c.reach.ensures, c.if-doc-reach.true)))), tt)

-- The fields in the room that the length gives, which reaches no further than the document.
module _ (f : Lts.After-fields_end Tie.the-claims Reads.Pre Reads.Post Tie.handed_clauses) where
  room : f.length_room-room.result ≡ length_room f.args.at (be 4 f.args.doc.now f.args.at)
  room = is_room f.before.before.before

  inside : reach (length_room f.args.at (be 4 f.args.doc.now f.args.at)) f.args.doc.now ≤ length f.args.doc.now
  inside = omega (arith, ap (λ (x : Room). reach x f.args.doc.now) room, f.reach.ensures, f.if-doc-reach.false)

  told : (x : Result ℕ Refused) → f.fields_end.result ≡ x → (xs : List Attribute) (last : ℕ) → run (attribute_at f.args.book.now) f.args.count f.args.first ≡ ok xs last
      → ends (fields_in (length_room f.args.at (be 4 f.args.doc.now f.args.at)) xs f.args.doc.now (f.args.at + 4)) ≡ says x
  told x q xs last e = sym (ap (λ (x : Room). ends (fields_in x xs f.args.doc.now (f.args.at + 4))) room) ∙ (sym (f.fields_end.ensures.0 xs last e) ∙ ap says q)

pub returns-in_err-next : goal.returns-in_err-next
returns-in_err-next c =
    let a = c.args in
    let f = c.before.before.before.before in
    let p = err_from_is_err_and c.from_residual.result c.from_residual.ensures.1 in
    rw (p.1, p.2) (λ xs last e. sym (values_stopped a.doc.now a.at (be 4 a.doc.now a.at) xs _ _ (inside f) (told f _ c.in_err-next.was xs last e)), tt)

pub returns : goal.returns
returns c =
    let a = c.args in
    let doc = a.doc.now in
    let f = c.before.before.before.before in
    let v = c.in_ok-next in
    let w = v.ensures.1 in (
      λ xs last e.
          ap says (c.fill.ensures ∙ ap (λ (x : Room). fills x v.next) (room f))
          ∙ sym (values_by doc a.at (be 4 doc a.at) xs v.next (inside f) (told f _ v.was xs last e)),
      subst (λ (x : Result ℕ Refused). Within a.at x (length doc)) (sym c.fill.ensures)
          (fills_within c.length_room-room.result v.next a.at (a.at + 4) (reach c.length_room-room.result doc) (length doc) (omega arith)
          (omega (arith, c.reach.ensures, c.if-doc-reach.false)) w.0 w.1),
    )
