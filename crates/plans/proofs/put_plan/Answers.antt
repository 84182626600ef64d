-- `plans::put_plan` meets its contract. The invariant: the steps that stand, with those of the attributes that are left, are the plan. Assumes nothing.
use native.Mathlib.Omega.{arith}
use Prim.Native.Nat.{ℕ, suc, ◌+◌, ◌-◌, ◌%◌, ◌≤◌}
use mathlib.Core.Path.{◌≡◌, refl, sym, ap, ◌∙◌, subst}
use mathlib.Core.List.{List}
use mathlib.Core.Bool.{true}
use lib.ListN.{set, length-set}
use lib.Seq.{take-set-le}
use Rattle.octets.specs.Reading.{ok, is_ok, run}
use Rattle.octets.proofs.Ends.{left_suc, none_left, sub_none}
use Rattle.kinds.specs.Kinds.{form_of}
use Rattle.layouts.specs.Layout.{Attribute, attribute_at}
use Rattle.layouts.proofs.Parts.{Described, attribute_fields, attribute_named, attribute_typed}
use Rattle.plans.specs.Plan.{mark}
use Rattle.plans.proofs.Making.{Making, making_start, Next, making_next, making_full, making_last}
use Rattle.plans.proofs.put_plan.Goals as goal
use Rattle.plans.proofs.put_plan.Goals.{In-loop, After-mark_of-more, After-loop}

pub loop-init : goal.loop-init
loop-init c =
    let a = c.args in
    let p = c.requires in (
      omega arith,
      p.2,
      omega arith,
      omega arith,
      p.4,
      refl,
      λ xs last e.
          making_start a.doc.now xs last a.from a.steps.now (a.count - 0) a.first (omega (arith, p.2, p.3, p.4))
          (subst (λ (k : ℕ). run (attribute_at a.doc.now) k a.first ≡ ok xs last) (sub_none a.count) e),
    )

abbrev Doc : In-loop → List ℕ
Doc t = t.args.doc.now

abbrev More : In-loop → ℕ
More t = t.args.count - (t.loop.counter + 1)

next_of : (t : In-loop) (xs : List Attribute) (last : ℕ) (e : run (attribute_at (Doc t)) t.args.count t.args.first ≡ ok xs last)
    → (m : Making (Doc t) t.loop.steps xs last t.args.from (suc (More t)) t.loop.place t.loop.j t.loop.sum)
    × Next (Doc t) xs last t.args.from t.loop.steps (More t) t.loop.place t.loop.j t.loop.sum m
next_of t xs last e =
    let m = subst (λ (k : ℕ). Making (Doc t) t.loop.steps xs last t.args.from k t.loop.place t.loop.j t.loop.sum)
    (left_suc t.args.count t.loop.counter t.loop-test.true) (t.loop.invariant.6 xs last e) in
    (m, making_next (Doc t) xs last t.args.from t.loop.steps (More t) t.loop.place t.loop.j t.loop.sum m)

accepted : (t : In-loop) → is_ok (attribute_at (Doc t) t.loop.place) ≡ true
accepted t = let r = t.requires.5 in ap is_ok (next_of t r.list r.end r.reads).1.reads

-- The mark of the attribute here, and the place behind it.
abbrev Kind : After-mark_of-more → ℕ
Kind s = s.text_skip-kind.result

described : (s : After-mark_of-more) (a : Attribute) (next : ℕ) → attribute_at s.args.doc.now s.loop.place ≡ ok a next → Described s.args.doc.now s.loop.place a next (Kind s)
described s a next e = attribute_fields s.args.doc.now s.loop.place (Kind s) s.text_skip-kind.ensures.0 e

is_mark : (s : After-mark_of-more) (a : Attribute) (next : ℕ) → attribute_at s.args.doc.now s.loop.place ≡ ok a next → mark (form_of a.kind) ≡ s.mark_of-more.result
is_mark s a next e = sym (s.mark_of-more.ensures.0 ∙ ap mark (s.form_here-form.ensures.0 a.kind next (described s a next e).kind))

is_place : (s : After-mark_of-more) (a : Attribute) (next : ℕ) → attribute_at s.args.doc.now s.loop.place ≡ ok a next → next ≡ Kind s + 4
is_place s a next e = (described s a next e).place

sum_small : (s : After-mark_of-more) → s.loop.sum + s.mark_of-more.result ≤ 2080
sum_small s =
    let l = s.loop.invariant in
    omega (arith, l.0, l.3, s.requires.1, s.mark_of-more.ensures.1, s.loop-test.true)

pub loop-preserved-then-more-eq0 : goal.loop-preserved-then-more-eq0
loop-preserved-then-more-eq0 c =
    let p = goal.at.loop-preserved-then-more-eq0 c in
    let l = c.loop.invariant in (
      omega (arith, c.loop-test.true),
      l.1,
      l.2,
      omega (arith, l.3, c.mark_of-more.ensures.1),
      l.4,
      l.5,
      λ xs last e.
          let (m, n) = next_of p.In-loop xs last e in
          let q = is_mark p.After-mark_of-more n.attribute n.next n.reads in
          subst (λ (x : ℕ). Making (Doc p.In-loop) c.loop.steps xs last c.args.from (More p.In-loop) (Kind p.After-mark_of-more + 4) c.loop.j (c.loop.sum + x)) q
          (subst (λ (next : ℕ). Making (Doc p.In-loop) c.loop.steps xs last c.args.from (More p.In-loop) next c.loop.j (c.loop.sum + mark (form_of n.attribute.kind)))
          (is_place p.After-mark_of-more n.attribute n.next n.reads) (n.on (ap (λ (x : ℕ). x % 4) q ∙ c.if-more-eq0.true))),
    )

-- The steps do not hold the one that the attribute here closes.
pub returns-then-to-j : goal.returns-then-to-j
returns-then-to-j c =
    let p = goal.at.returns-then-to-j c in
    let l = c.loop in (
      λ xs last e.
          making_full (Doc p.In-loop) xs last c.args.from l.steps (suc (More p.In-loop)) l.place l.j l.sum c.args.to (next_of p.In-loop xs last e).0 c.if-to-j.true,
      l.invariant.5,
      l.invariant.4,
    )

pub loop-preserved : goal.loop-preserved
loop-preserved c =
    let p = goal.at.loop-preserved c in
    let l = c.loop.invariant in (
      omega (arith, c.loop-test.true),
      omega (arith, c.if-to-j.false),
      omega (arith, l.2),
      omega arith,
      simp length-set l.4,
      take-set-le c.args.from c.loop.steps c.loop.j (c.loop.sum + c.mark_of-more.result) l.2 ∙ l.5,
      λ xs last e.
          let (m, n) = next_of p.In-loop xs last e in
          let q = is_mark p.After-mark_of-more n.attribute n.next n.reads in
          subst (λ (x : ℕ). Making (Doc p.In-loop) (set c.loop.steps c.loop.j (c.loop.sum + x)) xs last c.args.from (More p.In-loop) (Kind p.After-mark_of-more + 4) (c.loop.j + 1) 0) q
          (subst (λ (next : ℕ). Making (Doc p.In-loop) (set c.loop.steps c.loop.j (c.loop.sum + mark (form_of n.attribute.kind))) xs last c.args.from (More p.In-loop) next (c.loop.j + 1) 0)
          (is_place p.After-mark_of-more n.attribute n.next n.reads) (n.close (λ z. c.if-more-eq0.false (sym (ap (λ (x : ℕ). x % 4) q) ∙ z)) (omega (arith, c.if-to-j.false, l.4, c.requires.3)))),
    )

-- Behind the last attribute.
made_all : (c : After-loop) (xs : List Attribute) (last : ℕ) → run (attribute_at c.args.doc.now) c.args.count c.args.first ≡ ok xs last
    → Making c.args.doc.now c.loop.steps xs last c.args.from 0 c.loop.place c.loop.j c.loop.sum
made_all c xs last e =
    let l = c.loop in
    let a = c.args in
    subst (λ (k : ℕ). Making a.doc.now l.steps xs last a.from k l.place l.j l.sum) (none_left a.count l.counter c.loop-test.false) (l.invariant.6 xs last e)

pub returns-then-to-j-2 : goal.returns-then-to-j-2
returns-then-to-j-2 c =
    let p = goal.at.returns-then-to-j-2 c in
    let l = c.loop in
    let a = c.args in (
      λ xs last e. making_full a.doc.now xs last a.from l.steps 0 l.place l.j l.sum a.to (made_all p.After-loop xs last e) c.if-to-j-2.true,
      l.invariant.5,
      l.invariant.4,
    )

pub returns : goal.returns
returns c =
    let p = goal.at.returns c in
    let l = c.loop in
    let a = c.args in (
      λ xs last e.
          let (ends, stands) = making_last a.doc.now xs last a.from l.steps l.place l.j l.sum (made_all p.After-loop xs last e) (omega (arith, c.if-to-j-2.false, l.invariant.4, c.requires.3)) in
          (ends, omega (arith, c.if-to-j-2.false), stands),
      take-set-le a.from l.steps l.j l.sum l.invariant.2 ∙ l.invariant.5,
      simp length-set l.invariant.4,
    )

pub text_skip-kind-requires : goal.text_skip-kind-requires
text_skip-kind-requires c =
    let p = goal.at.text_skip-kind-requires c in
    (c.requires.0, attribute_named (Doc p.In-loop) c.loop.place (accepted p.In-loop))

pub form_here-form-requires : goal.form_here-form-requires
form_here-form-requires c =
    let p = goal.at.form_here-form-requires c in
    attribute_typed (Doc p.In-loop) c.loop.place c.text_skip-kind.result c.text_skip-kind.ensures.0 (accepted p.In-loop)
