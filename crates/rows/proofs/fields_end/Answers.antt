-- `rows::fields_end` meets its contract. The invariant: the values of all attributes end where those of the attributes that are left do, from here.
-- Assumes nothing.
use native.Mathlib.Omega.{arith}
use Prim.Native.Nat.{ℕ, ◌+◌, ◌-◌}
use Rattle.std.specs.Prelude.{Result}
use Rattle.std.proofs.lemmas.Result.{err_from_is_err_and}
use mathlib.Core.Path.{◌≡◌, sym, ap, ◌∙◌, subst}
use mathlib.Core.List.{List}
use mathlib.Core.Bool.{true}
use Rattle.octets.specs.Reading.{ok, ends, is_ok, run}
use Rattle.octets.specs.declared.Room.{Room}
use Rattle.octets.proofs.Ends.{left_suc, none_left}
use Rattle.kinds.specs.declared.Form.{Form}
use Rattle.kinds.specs.Kinds.{form_of}
use Rattle.layouts.specs.Layout.{Attribute, attribute_at}
use Rattle.layouts.proofs.Parts.{attribute_fields, attribute_named, attribute_typed}
use Rattle.octets.specs.declared.Refused.{Refused}
use Rattle.kinds.specs.Forms.{value_in}
use Rattle.octets.specs.Answers.{says}
use Rattle.rows.proofs.Values.{Left, Next, left_next, left_none}
use Rattle.rows.proofs.fields_end.Goals as goal
use Rattle.rows.proofs.fields_end.Lts
use Rattle.rows.proofs.fields_end.Reads
use Rattle.rows.proofs.fields_end.Tie

-- The turn by names.
abbrev Turn : Type 0
Turn = Lts.In-loop Tie.the-claims Reads.Pre Reads.Post goal.the-invariant-loop goal.the-decreases-loop Tie.handed_clauses

abbrev Doc : Turn → List ℕ
Doc t = t.args.doc.now

abbrev Book : Turn → List ℕ
Book t = t.args.book.now

abbrev In : Turn → Room
In t = t.args.room

abbrev Pos : Turn → ℕ
Pos t = t.loop.pos

abbrev Place : Turn → ℕ
Place t = t.loop.place

abbrev More : Turn → ℕ
More t = t.args.count - (t.loop.counter + 1)

-- The attribute here, of any that are read and of those that are required.
next_of : (t : Turn) (xs : List Attribute) (last : ℕ) → run (attribute_at (Book t)) t.args.count t.args.first ≡ ok xs last
    → Next (Book t) (Doc t) (In t) xs t.args.at last (More t) (Place t) (Pos t)
next_of t xs last e =
    left_next (Book t) (Doc t) (In t) xs t.args.at last (More t) (Place t) (Pos t)
    (subst (λ (k : ℕ). Left (Book t) (Doc t) (In t) xs t.args.at last k (Place t) (Pos t)) (left_suc t.args.count t.loop.counter t.loop-test.true) (t.loop.invariant.3 xs last e))

accepted : (t : Turn) → is_ok (attribute_at (Book t) (Place t)) ≡ true
accepted t = let r = t.requires.4 in ap is_ok (next_of t r.list r.end r.reads).reads

-- The value here, by the form that was found.
abbrev Answered : Type 0
Answered = Lts.After-value_end Tie.the-claims Reads.Pre Reads.Post goal.the-invariant-loop goal.the-decreases-loop Tie.handed_clauses

answered : (v : Answered) (x : Result ℕ Refused) → v.value_end.result ≡ x → (a : Attribute) (next : ℕ) → attribute_at (Book v.before.before.before) (Place v.before.before.before) ≡ ok a next
    → ends (value_in (In v.before.before.before) (form_of a.kind) (Doc v.before.before.before) (Pos v.before.before.before)) ≡ says x
answered v x e a next r =
    let n = v.text_skip-kind in
    let form = v.form_here-form.ensures.0 a.kind next (attribute_fields (Book v.before.before.before) (Place v.before.before.before) n.result n.ensures.0 r).kind in
    ap (λ (f : Form). ends (value_in (In v.before.before.before) f (Doc v.before.before.before) (Pos v.before.before.before))) (sym form) ∙ (sym v.value_end.ensures.0 ∙ ap says e)

pub loop-preserved : goal.loop-preserved
loop-preserved c =
    let one = c.in_ok-pos in
    let w = one.ensures.1 in (
      omega (arith, c.loop-test.true),
      omega (arith, w, c.loop.invariant.1),
      w.1,
      λ xs last e.
          let t = c.before.before.before.before.before.before in
          let n = next_of t xs last e in
          let m = c.text_skip-kind in
          let place : n.next ≡ m.result + 4 = (attribute_fields (Book t) (Place t) m.result m.ensures.0 n.reads).place in
          subst (λ (p : ℕ). Left (Book t) (Doc t) (In t) xs c.args.at last (More t) p one.pos) place
          (n.on _ (answered c.before.before.before _ one.was n.attribute n.next n.reads)),
    )

pub returns-in_err-pos : goal.returns-in_err-pos
returns-in_err-pos c =
    let p = err_from_is_err_and c.from_residual.result c.from_residual.ensures.1 in
    rw (p.1, p.2) (
      λ xs last e.
          let n = next_of c.before.before.before.before.before.before.before xs last e in
          sym (n.stops _ _ (answered c.before.before.before.before _ c.in_err-pos.was n.attribute n.next n.reads)),
      tt,
    )

pub returns : goal.returns
returns c =
    let l = c.loop in
    let a = c.args in (
      λ xs last e.
          sym (left_none a.book.now a.doc.now a.room xs a.at last l.place l.pos
          (subst (λ (k : ℕ). Left a.book.now a.doc.now a.room xs a.at last k l.place l.pos) (none_left a.count l.counter c.loop-test.false) (l.invariant.3 xs last e))),
      (l.invariant.1, l.invariant.2),
    )

pub text_skip-kind-requires : goal.text_skip-kind-requires
text_skip-kind-requires c = (c.requires.3, attribute_named (Book c.before) (Place c.before) (accepted c.before))

pub form_here-form-requires : goal.form_here-form-requires
form_here-form-requires c = attribute_typed (Book c.before.before) (Place c.before.before) c.text_skip-kind.result c.text_skip-kind.ensures.0 (accepted c.before.before)
