-- `layouts::attributes_skip` meets its contract. The invariant: the run ends where what is left of it ends. Assumes nothing.
use native.Mathlib.Omega.{arith}
use Prim.Native.Nat.{ℕ, suc, ◌+◌, ◌-◌}
use mathlib.Core.Path.{◌≡◌, sym, ◌∙◌, ap}
use mathlib.Core.List.{List}
use mathlib.Core.Bool.{true}
use Rattle.octets.specs.Reading.{run, ends, is_ok}
use Rattle.octets.proofs.Ends.{run_on, run_none, run_first, ok_alike, left_suc, none_left}
use Rattle.layouts.specs.Layout.{attribute_at}
use Rattle.layouts.proofs.attributes_skip.Goals as goal
use Rattle.layouts.proofs.attributes_skip.Lts
use Rattle.layouts.proofs.attributes_skip.Reads
use Rattle.layouts.proofs.attributes_skip.Tie

-- The turn by names.
abbrev Turn : Type 0
Turn = Lts.In-loop Tie.the-claims Reads.Pre Reads.Post goal.the-invariant-loop goal.the-decreases-loop

abbrev S : Turn → List ℕ
S t = t.args.s.now

abbrev Pos : Turn → ℕ
Pos t = t.loop.pos

abbrev Left : Turn → ℕ
Left t = t.args.count - (t.loop.counter + 1)

run_from : (t : Turn) → ends (run (attribute_at (S t)) t.args.count t.args.at) ≡ ends (run (attribute_at (S t)) (suc (Left t)) (Pos t))
run_from t = t.loop.invariant.1 ∙ ap (λ (n : ℕ). ends (run (attribute_at (S t)) n (Pos t))) (left_suc t.args.count t.loop.counter t.loop-test.true)

accepted : (t : Turn) → is_ok (attribute_at (S t) (Pos t)) ≡ true
accepted t =
    run_first (attribute_at (S t)) (Pos t) (Left t)
    (sym (ok_alike (run (attribute_at (S t)) t.args.count t.args.at) (run (attribute_at (S t)) (suc (Left t)) (Pos t)) (run_from t)) ∙ t.requires.1)

pub attribute_skip-pos-requires : goal.attribute_skip-pos-requires
attribute_skip-pos-requires c = (c.requires.0, accepted c.before)

pub loop-preserved : goal.loop-preserved
loop-preserved c =
    let t = c.before.before in
    (omega (arith, c.loop-test.true), run_from t ∙ run_on (attribute_at (S t)) (Pos t) (Left t) c.attribute_skip-pos.result c.attribute_skip-pos.ensures)

pub returns : goal.returns
returns c =
    let l = c.loop in
    let s = c.args.s.now in
    l.invariant.1 ∙ ap (λ (n : ℕ). ends (run (attribute_at s) n l.pos)) (none_left c.args.count l.counter c.loop-test.false)
    ∙ run_none (attribute_at s) l.pos
