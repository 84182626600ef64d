-- `layouts::layout_end` meets its contract, by what each callee answered and a law of `layout_at`. Assumes nothing.
use native.Mathlib.Omega.{arith}
use mathlib.Core.Path.{sym, ◌∙◌}
use Prim.Native.Nat.{ℕ}
use lib.ListN.{length}
use Rattle.std.proofs.Common.{of_calls}
use Rattle.std.proofs.lemmas.Result.{err_from_is_err_and}
use Rattle.octets.proofs.Ends.{behind, run_ends}
use Rattle.octets.specs.Reading.{ends}
use Rattle.layouts.specs.Layout.{attribute_at}
use Rattle.layouts.proofs.Places.{layout_no, layout_unnamed, layout_uncounted, layout_on}
use Rattle.layouts.proofs.layout_end.Goals as goal

pub returns-then-s-at : goal.returns-then-s-at
returns-then-s-at c = (sym (layout_no c.args.s.now c.args.at c.if-s-at.true), tt)

pub run_end-requires : goal.run_end-requires
run_end-requires c =
    record {
      end = length c.args.s.now;
      reading = λ p. ends (attribute_at c.args.s.now p);
      inside = c.in_ok-count.ensures.1.1;
      finds = record { takes = λ p h. search of_calls; finds = λ p r h e. search of_calls };
    }

pub returns-in_err-counted : goal.returns-in_err-counted
returns-in_err-counted c =
    let a = c.args in
    let p = err_from_is_err_and c.from_residual.result c.from_residual.ensures.1 in
    rw (p.1, p.2) (sym (layout_unnamed a.s.now a.at _ _ (omega arith) (sym c.in_err-counted.ensures.0)), tt)

pub returns-in_err-count : goal.returns-in_err-count
returns-in_err-count c =
    let a = c.args in
    let p = err_from_is_err_and c.from_residual-in_err-count.result c.from_residual-in_err-count.ensures.1 in
    rw (p.1, p.2) (sym (layout_uncounted a.s.now a.at _ _ _ (omega arith) (sym c.in_ok-counted.ensures.0) (sym c.in_err-count.ensures.0)), tt)

pub returns : goal.returns
returns c =
    let a = c.args in
    let t = c.in_ok-counted in
    let k = c.in_ok-count in
    let w = t.ensures.1 in
    let v = k.ensures.1 in
    let f = λ (p : ℕ). ends (attribute_at a.s.now p) in
    let r = c.run_end.ensures (length a.s.now) f v.1 (record { takes = λ p h. search of_calls; finds = λ p r h e. search of_calls }) in (
      r.0 ∙ (sym (run_ends (attribute_at a.s.now) k.count k.first) ∙ sym (layout_on a.s.now a.at _ _ _ (omega arith) (sym t.ensures.0) (sym k.ensures.0))),
      behind a.at _ c.run_end.result (length a.s.now) (omega arith) r.1,
    )
