-- `plans::follow` meets its contract. The invariant: the values of all attributes end where those of the attributes whose plan stands here do, from here.
-- The measure is the steps to come. Assumes nothing.
use native.Mathlib.Omega.{arith}
use Prim.Native.Nat.{◌<◌}
use Rattle.plans.proofs.Walking.{onward_room, onward_last, onward_on}
use Rattle.plans.proofs.follow.Goals as goal
use Rattle.plans.proofs.follow.Goals.{At-loop-at}

room : (t : At-loop-at) → t.loop-at.j < 1216
room t =
    let a = t.args in
    let p = t.requires.3 in
    let h = onward_room a.doc.now a.steps.now a.end p.attributes a.at t.loop-at.pos t.loop-at.j (t.loop-at.invariant.2 p.attributes p.stands) in
    omega (arith, p.long)

pub returns-then-end-place : goal.returns-then-end-place
returns-then-end-place c = λ xs b q h.
    let a = c.args in
    (onward_last a.doc.now a.steps.now a.end xs a.at c.loop-at.pos c.loop-at.j (c.loop-at.invariant.2 xs b) c.from-step.result c.from-step.ensures c.if-kind-eq0.true q h).1
    c.loop-at.invariant.1 c.if-end-place.true

pub returns-then-kind-eq0 : goal.returns-then-kind-eq0
returns-then-kind-eq0 c =
    let a = c.args in (
      omega (arith, c.loop-at.invariant.0),
      c.if-end-place.false,
      λ xs b q h.
          (onward_last a.doc.now a.steps.now a.end xs a.at c.loop-at.pos c.loop-at.j (c.loop-at.invariant.2 xs b) c.from-step.result c.from-step.ensures c.if-kind-eq0.true q h).0
          c.if-end-place.false,
    )

pub returns-in_err-pos : goal.returns-in_err-pos
returns-in_err-pos c =
    let a = c.args in
    rw c.from_residual.ensures λ xs b q h.
    (onward_on a.doc.now a.steps.now a.end xs a.at c.loop-at.pos c.loop-at.j (c.loop-at.invariant.2 xs b) c.from-step.result c.from-step.ensures c.if-kind-eq0.false).1 q h
    (c.in_err-pos.ensures q h)

pub loop-at-preserved : goal.loop-at-preserved
loop-at-preserved c =
    let a = c.args in
    let w = c.in_ok-pos.ensures in (
      omega (arith, w.0, c.loop-at.invariant.0),
      w.1,
      λ xs b.
          (onward_on a.doc.now a.steps.now a.end xs a.at c.loop-at.pos c.loop-at.j (c.loop-at.invariant.2 xs b) c.from-step.result c.from-step.ensures c.if-kind-eq0.false).0 _
          (omega (arith, w.0, w.1)) w.2,
    )

pub bounds-steps-j : goal.bounds-steps-j
bounds-steps-j c = room (goal.at.bounds-steps-j c).At-loop-at
