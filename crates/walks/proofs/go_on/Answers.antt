-- `walks::go_on` meets its contract: over rows by plans; where none was passed, the number behind the kind is looked up by its position, and the element is read over the layout that stands there.
-- Assumes nothing.
use native.Mathlib.Omega.{arith}
use Prim.Native.Nat.{ℕ, ◌+◌, ◌≤◌}
use mathlib.Core.Path.{◌≡◌, refl, sym, ap, ◌∙◌, subst}
use mathlib.Core.List.{List}
use lib.ListN.{length}
use Rattle.octets.specs.Limits.{most_layouts}
use Rattle.layouts.specs.Book.{Book}
use Rattle.layouts.specs.Answers.{Looks}
use Rattle.layouts.proofs.Lends.{stood}
use Rattle.elements.specs.Element.{element_at}
use Rattle.octets.proofs.Passed.{handed_on}
use Rattle.elements.specs.Answers.{step_of, Over}
use Rattle.elements.specs.Walk.{spot_at, spot_of, turn_at}
use Rattle.elements.specs.declared.Step.{Step}
use Rattle.elements.proofs.Told.{told, refusing}
use Rattle.elements.proofs.Turns.{turn_no}
use Rattle.walks.specs.Rows.{Refuses, Strides}
use Rattle.walks.specs.Answers.{moved_of, step_moved, Bears, ByTurn, GoesOn}
use Rattle.walks.specs.declared.Known.{Known}
use Rattle.walks.specs.declared.Moved.{Moved}
use Rattle.octets.specs.declared.Refused.{Refused}
use Rattle.std.specs.Prelude.{Result, Ok, Err}
use Rattle.walks.proofs.Rows.{passage_still}
use Rattle.walks.proofs.Moves.{step_moved_lem, turned_on}
use Rattle.walks.proofs.go_on.Goals as goal
use Rattle.walks.proofs.go_on.Goals.{After-rows_on-stretch, Else-stretch-gt0, After-looked_at-looked}

-- Behind the rows that plans passed, by names.
module _ (q : After-rows_on-stretch) where
  abbrev doc : List ℕ
  doc = q.args.doc.now

  abbrev here : ℕ
  here = q.rows_on-stretch.result.next

  abbrev known : Known
  known = q.args.known.now

  abbrev Kept : Book → Type 0
  Kept book = Bears q.args.shelf.now q.args.used known book

  strides : (book : Book) → Kept book → Strides doc (spot_at q.args.at q.args.rows book) known q.args.labels.now q.args.most q.args.words.now q.rows_on-stretch.new.words here q.rows_on-stretch.result.count
  strides book b = q.rows_on-stretch.ensures q.args.rows book b.planned

  inside : here ≤ length doc
  inside = let k = q.requires.4 in (strides k.book k.bears).inside

  few : known.count ≤ most_layouts
  few = let n = q.requires.4.bears.planned.numbered in omega (arith, n.count, n.good.few)

pub returns-then-stretch-gt0 : goal.returns-then-stretch-gt0
returns-then-stretch-gt0 c = λ book b. (c.if-stretch-gt0.true, strides (goal.at.returns-then-stretch-gt0 c).After-rows_on-stretch book b)

-- No row was passed: by the turn here, whatever it told.
by_turn : (e : Else-stretch-gt0) (book : Book) → Bears e.args.shelf.now e.args.used e.args.known.now book → (r : Result Moved Refused)
    → r ≡ moved_of (turn_at e.args.doc.now (spot_at e.rows_on-stretch.result.next e.args.rows book))
    → ByTurn e.args.doc.now (spot_at e.args.at e.args.rows book) e.args.known.now e.args.most e.args.words.now e.rows_on-stretch.new.words r
by_turn e book b r is =
    let a = e.args in
    let x = e.rows_on-stretch in
    let none : x.result.count ≡ 0 = omega (arith, e.if-stretch-gt0.false) in
    let h = subst (λ (n : ℕ). Strides a.doc.now (spot_at a.at a.rows book) a.known.now a.labels.now a.most a.words.now x.new.words x.result.next n) none (x.ensures a.rows book b.planned) in
    let (same, kept) = passage_still a.doc.now a.at a.rows book a.known.now a.labels.now a.words.now h.passage in
    record {
      is = is ∙ ap (λ (k : ℕ). moved_of (turn_at a.doc.now (spot_at k a.rows book))) same;
      kept = kept;
      stops = λ some. subst (λ (k : ℕ). Refuses a.doc.now k book a.known.now) same (h.stops some);
    }

pub number_behind-requires : goal.number_behind-requires
number_behind-requires c = (inside (goal.at.number_behind-requires c).After-rows_on-stretch, c.requires.1)

-- Where the number behind the kind was looked up.
looks : (l : After-looked_at-looked) (book : Book) → Bears l.args.shelf.now l.args.used l.args.known.now book
    → Looks l.args.shelf.now l.number_behind.result book l.looked_at-looked.result
looks l book b =
    l.looked_at-looked.ensures l.args.shelf.now l.number_behind.result book b.planned.numbered.count b.shelved (l.position_of-position.ensures book b.planned.numbered)

over : (l : After-looked_at-looked) (book : Book) → Bears l.args.shelf.now l.args.used l.args.known.now book
    → Over l.args.doc.now (l.rows_on-stretch.result.next + 4) l.args.shelf.now l.looked_at-looked.result l.args.used book
over l book b = record { number = l.number_behind.result; is = l.number_behind.ensures.0; looks = looks l book b; size = b.size }

pub element_over-requires : goal.element_over-requires
element_over-requires c =
    let l = (goal.at.element_over-requires c).After-looked_at-looked in
    let p = c.requires in
    let k = p.4 in (
      inside (goal.at.element_over-requires c).After-rows_on-stretch,
      p.1,
      p.2,
      p.3,
      omega (arith, k.bears.size, k.bears.planned.numbered.good.small),
      stood c.args.shelf.now _ k.book c.looked_at-looked.result (looks l k.book k.bears),
    )

pub returns-in_err-step : goal.returns-in_err-step
returns-in_err-step c = λ book b.
    let p = goal.at.returns-in_err-step c in
    let a = c.args in
    let here = c.rows_on-stretch.result.next in
    let r = c.in_err-step.field-0.0 in
    let e = refusing (element_at a.doc.now here a.rows book) r (sym (c.in_err-step.ensures book (over p.After-looked_at-looked book b))) in
    rw (handed_on c.from_residual.result r c.from_residual.ensures.1)
    (by_turn p.Else-stretch-gt0 book b (Err r) (sym (ap moved_of (turn_no spot_of here (element_at a.doc.now here a.rows book) r.number r.place e))))

pub returns : goal.returns
returns c = λ book b.
    let p = goal.at.returns c in
    let a = c.args in
    let here = c.rows_on-stretch.result.next in
    let x = told (element_at a.doc.now here a.rows book) c.in_ok-step.step (sym (c.in_ok-step.ensures book (over p.After-looked_at-looked book b))) in
    let is : Ok c.step_moved.result ≡ moved_of (turn_at a.doc.now (spot_at here a.rows book)) =
    ap Ok
    (c.step_moved.ensures
    ∙ (ap (λ (s : Step). step_moved s c.position_of-position.result) (sym x.is)
    ∙ ap (step_moved (step_of x.stepped x.next)) (c.position_of-position.ensures book b.planned.numbered)))
    ∙ step_moved_lem a.doc.now here a.rows book c.number_behind.result c.number_behind.ensures.0 x.stepped x.next x.reads in
    subst (GoesOn a.doc.now (spot_at a.at a.rows book) a.known.now a.labels.now a.most a.words.now c.rows_on-stretch.new.words) (sym is)
    (turned_on a.labels.now (turn_at a.doc.now (spot_at here a.rows book)) (by_turn p.Else-stretch-gt0 book b _ refl))
