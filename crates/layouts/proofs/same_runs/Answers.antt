-- `layouts::same_runs` meets its contract: the layout's octets, cut where the first run ends, are the two runs. Assumes nothing.
use native.Mathlib.Omega.{arith}
use Prim.Native.Nat.{ℕ, ◌+◌, ◌≤◌}
use mathlib.Core.Path.{◌≡◌, refl, sym, ap, ◌∙◌}
use lib.ListN.{length}
use Rattle.octets.specs.Reading.{ok}
use Rattle.octets.proofs.Spans.{each_octet}
use Rattle.layouts.specs.Layout.{Layout, layout_at}
use Rattle.octets.proofs.Ends.{one_end}
use Rattle.layouts.proofs.Judging.{stands_inside, too_short, two_runs}
use Rattle.layouts.proofs.same_runs.Goals as goal
use Rattle.layouts.proofs.same_runs.Lts
use Rattle.layouts.proofs.same_runs.Reads
use Rattle.layouts.proofs.same_runs.Tie

-- The layout ends where the skip says.
reads : (f : Lts.After-layout_skip Tie.the-claims Reads.Pre Reads.Post) (m : Layout) (end : ℕ) → layout_at f.args.s.now f.args.at ≡ ok m end
    → layout_at f.args.s.now f.args.at ≡ ok m f.layout_skip-end.result
reads f m end e = e ∙ ap (ok m) (sym (one_end _ e f.layout_skip-end.ensures))

inside : (f : Lts.After-layout_skip Tie.the-claims Reads.Pre Reads.Post) → (f.args.at ≤ f.layout_skip-end.result) × (f.layout_skip-end.result ≤ length f.args.s.now)
inside f =
    let a = f.args in
    let r = f.requires.1 in
    stands_inside a.s.now a.at f.layout_skip-end.result r.layout (each_octet a.s.now f.shared_slice_known-1.given) (reads f r.layout r.next r.reads)
    a.front.now a.last.now

pub returns-then-end-at : goal.returns-then-end-at
returns-then-end-at c = λ m end e.
    let a = c.args in
    sym (too_short a.s.now a.at c.layout_skip-end.result m (each_octet a.s.now c.type_inv.s) (reads c.before.before m end e) a.front.now a.last.now c.if-end-at.true)

pub returns-else-octets_same : goal.returns-else-octets_same
returns-else-octets_same c = λ m end e.
    let a = c.args in
    c.if-octets_same.false ∙ sym (two_runs a.s.now a.at c.layout_skip-end.result m (each_octet a.s.now c.type_inv.s) (reads c.before.before.before.before.before m end e) a.front.now a.last.now c.if-end-at.false
    (a.at + length a.front.now) refl ∙ rw (sym c.octets_same.ensures ∙ c.if-octets_same.false) refl)

pub returns-then-octets_same : goal.returns-then-octets_same
returns-then-octets_same c = λ m end e.
    let a = c.args in
    c.octets_same-then-octets_same.ensures
    ∙ sym (two_runs a.s.now a.at c.layout_skip-end.result m (each_octet a.s.now c.type_inv.s) (reads c.before.before.before.before.before.before.before m end e) a.front.now a.last.now c.if-end-at.false
    (a.at + length a.front.now) refl ∙ rw (sym c.octets_same.ensures ∙ c.if-octets_same.true) refl)

pub overflow_sub-end : goal.overflow_sub-end
overflow_sub-end c = (inside c.before).0

pub slice_bounds-octets_same-end : goal.slice_bounds-octets_same-end
slice_bounds-octets_same-end c = let i = inside c.before.before in omega arith

pub slice_bounds-octets_same-count-then-octets_same : goal.slice_bounds-octets_same-count-then-octets_same
slice_bounds-octets_same-count-then-octets_same c = let i = inside c.before.before.before.before.before in omega arith

pub slice_bounds-octets_same-start-then-octets_same : goal.slice_bounds-octets_same-start-then-octets_same
slice_bounds-octets_same-start-then-octets_same c = let i = inside c.before.before.before.before.before in omega arith

pub slice_bounds-octets_same-end-then-octets_same : goal.slice_bounds-octets_same-end-then-octets_same
slice_bounds-octets_same-end-then-octets_same c = let i = inside c.before.before.before.before.before in omega arith
