-- `octets::run_end` meets its contract: each step and each stop by a law of `run`. Assumes nothing.
use native.Mathlib.Omega.{arith}
use Rattle.std.proofs.Common.{ℕ, ◌+◌, ◌-◌, sym, ap, ◌∙◌}
use Rattle.std.proofs.lemmas.Result.{err_from_is_err_and}
use Rattle.octets.specs.Reading.{run, ends}
use Rattle.octets.proofs.Ends.{run_on, run_stop, run_none, left_suc, none_left}
use Rattle.octets.proofs.run_end.Goals as goal

pub returns-in_err-pos : goal.returns-in_err-pos
returns-in_err-pos g c =
    let a = c.args in
    let l = c.loop in
    let q = err_from_is_err_and c.from_residual.result c.from_residual.ensures.1 in λ end f h k.
    let v = l.invariant.1 end f h k in
    let w = k.finds l.pos _ v.1 c.in_err-pos.ensures in
    rw (q.1, q.2) (
      sym (v.2 ∙ ap (λ (n : ℕ). ends (run f n l.pos)) (left_suc a.count l.counter (omega arith)) ∙ run_stop f l.pos _ _ _ (ap ends (sym w.0))),
      tt,
    )

pub loop-preserved : goal.loop-preserved
loop-preserved g c =
    let a = c.args in
    let l = c.loop in (
      omega arith,
      λ end f h k.
          let v = l.invariant.1 end f h k in
          let w = k.finds l.pos _ v.1 (c.in_ok-pos.ensures) in (
            omega (arith, w.1.0),
            w.1.1,
            v.2 ∙ ap (λ (n : ℕ). ends (run f n l.pos)) (left_suc a.count l.counter (omega arith)) ∙ run_on f l.pos (a.count - (l.counter + 1)) _ (ap ends (sym w.0)),
          ),
    )

pub returns : goal.returns
returns g c =
    let a = c.args in
    let l = c.loop in λ end f h k.
    let v = l.invariant.1 end f h k in
    (sym (v.2 ∙ ap (λ (n : ℕ). ends (run f n l.pos)) (none_left a.count l.counter c.loop-test.false) ∙ run_none f l.pos), (v.0, v.1))
