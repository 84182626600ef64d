-- `walks::Known::keep` meets its contract: the plan of the layout's attributes is put behind the others, which stay, where there is room for it. Assumes nothing.
use native.Mathlib.Omega.{arith}
use Prim.Native.Nat.{ℕ, ◌+◌, ◌*◌}
use mathlib.Core.Path.{◌≡◌, refl, sym, ap, ◌∙◌, subst}
use mathlib.Core.Bool.{true, false}
use borrow.Author.Tests.{le-leb, lt-leb}
use lib.ListN.{length, set, length-set}
use Rattle.octets.specs.Reading.{ok, run}
use Rattle.octets.proofs.Ends.{value_is}
use Rattle.layouts.specs.Layout.{Layout, attribute_at, layout_at}
use Rattle.layouts.proofs.Parts.{layout_fields}
use Rattle.plans.specs.Plan.{plan_for}
use Rattle.walks.specs.Kept.{tally_of, holds}
use Rattle.walks.proofs.Keeping.{plans_full, plans_put}
use Rattle.walks.proofs.Known.keep.Goals as goal
use Rattle.walks.proofs.Known.keep.Goals.{After-u32_at-count}

-- The count that was read is that of the attributes behind it.
attributes : (u : After-u32_at-count) (l : Layout) (end : ℕ) → layout_at u.args.doc.now u.args.at ≡ ok l end
    → run (attribute_at u.args.doc.now) u.u32_at-count.result (u.attributes_at-counted.result + 4) ≡ ok l.attributes end
attributes u l end e =
    subst (λ (k : ℕ). run (attribute_at u.args.doc.now) k (u.attributes_at-counted.result + 4) ≡ ok l.attributes end) (sym u.u32_at-count.ensures)
    (layout_fields u.args.doc.now u.args.at u.attributes_at-counted.result u.attributes_at-counted.ensures.0 e).attributes

pub put_plan-requires : goal.put_plan-requires
put_plan-requires c =
    let (l, end, e) = value_is (layout_at c.args.doc.now c.args.at) c.requires.1 in
    let few = (layout_fields c.args.doc.now c.args.at c.attributes_at-counted.result c.attributes_at-counted.ensures.0 e).few in (
      c.requires.0,
      omega (arith, few, c.u32_at-count.ensures),
      omega (arith, c.requires.5),
      omega (arith, c.requires.3),
      c.requires.2,
      record { list = l.attributes; end = end; reads = attributes (goal.at.put_plan-requires c).After-u32_at-count l end e },
    )

pub returns-in-None : goal.returns-in-None
returns-in-None c = λ l end e.
    let k = c.args.self.now in
    let u = (goal.at.returns-in-None c).After-u32_at-count in
    let p = c.put_plan.ensures in
    let full : holds (tally_of k) l ≡ false = lt-leb _ _ (c.in-None.ensures.0 l.attributes end (attributes u l end e)) in
    record {
      number = rw full (ap (λ (n : ℕ). set k.numbers k.count (n + 4294967296)) (c.from-number.ensures ∙ c.layout_number.ensures l end e));
      place_is = refl;
      tally = rw full refl;
      long = p.2;
      plans = plans_full k.steps c.put_plan.new.steps (tally_of k) l c.requires.3 c.requires.4 c.requires.2 (omega (arith, c.requires.3, c.requires.5)) p.1 p.2 full;
    }

pub returns-in-Some : goal.returns-in-Some
returns-in-Some c = λ l end e.
    let k = c.args.self.now in
    let u = (goal.at.returns-in-Some c).After-u32_at-count in
    let p = c.put_plan.ensures in
    let (ends, inside, stands) = c.in-Some.ensures.0 l.attributes end (attributes u l end e) in
    let held : holds (tally_of k) l ≡ true = le-leb (k.filled + length (plan_for l)) (712 + k.count * 8) (omega (arith, ends, inside)) in
    record {
      number = rw held (ap (set k.numbers k.count) (c.from-number.ensures ∙ c.layout_number.ensures l end e));
      place_is = refl;
      tally = rw (held, ends) refl;
      long = length-set c.put_plan.new.steps k.count k.filled ∙ p.2;
      plans = plans_put k.steps c.put_plan.new.steps (tally_of k) l c.requires.3 c.requires.4 c.requires.2 (omega (arith, c.requires.3, c.requires.5)) p.1 p.2 stands;
    }
