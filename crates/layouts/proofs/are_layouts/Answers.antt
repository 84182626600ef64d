-- `layouts::are_layouts` meets its contract. The invariant: the numbers kept are those of the layouts met, and reading on behind these is reading all. Assumes nothing.
use native.Mathlib.Omega.{arith}
use mathlib.Core.Path.{sym, ◌∙◌, ap}
use lib.ListN.{take, length-set}
use Rattle.octets.specs.Answers.{says}
use Rattle.octets.proofs.Ends.{ended}
use Rattle.layouts.specs.Layout.{layout_at}
use Rattle.layouts.proofs.Parts.{layout_number}
use Rattle.layouts.proofs.Checks.{among_any, met_end, met_refused, met_again, met_on, met_last}
use Rattle.layouts.proofs.are_layouts.Goals as goal

pub returns-then-pos-s : goal.returns-then-pos-s
returns-then-pos-s c =
    let l = c.loop-k in
    sym (met_end c.args.s.now l.met l.k l.pos l.invariant.3 c.if-pos-s.true)

pub returns-in_default : goal.returns-in_default
returns-in_default c =
    let l = c.loop-k in
    sym (met_refused c.args.s.now l.met l.k l.pos l.invariant.3 (omega arith) (omega arith) _ _ (sym c.layout_end.ensures.0 ∙ ap says c.in_default.is))

pub u32_at-number-requires : goal.u32_at-number-requires
u32_at-number-requires c =
    let l = c.loop-k in
    (layout_number c.args.s.now l.pos (ended (layout_at c.args.s.now l.pos) _ (sym c.in-Ok.ensures.0)).1).0

pub returns-then-contains : goal.returns-then-contains
returns-then-contains c =
    let l = c.loop-k in
    sym
    (met_again c.args.s.now l.met l.k l.pos l.invariant.3 (omega arith) (omega arith) _ c.u32_at-number.result (sym c.in-Ok.ensures.0) c.u32_at-number.ensures
    (sym (among_any c.u32_at-number.result (take l.k l.met)) ∙ (sym c.contains.ensures.value ∙ c.if-contains.true)))

pub loop-k-preserved : goal.loop-k-preserved
loop-k-preserved c =
    let l = c.loop-k in
    let long = l.invariant.2 in (
      c.in-Ok.ensures.1.1,
      omega arith,
      simp length-set long,
      met_on c.args.s.now l.met l.k l.pos l.invariant.3 (omega arith) (omega arith) _ c.u32_at-number.result (sym c.in-Ok.ensures.0) c.u32_at-number.ensures (omega arith)
          (sym (among_any c.u32_at-number.result (take l.k l.met)) ∙ (sym c.contains.ensures.value ∙ c.if-contains.false)),
    )

pub returns : goal.returns
returns c = let l = c.loop-k in met_last c.args.s.now l.met l.k l.pos l.invariant.3 (omega arith)
