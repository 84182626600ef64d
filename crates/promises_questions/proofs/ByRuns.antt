-- Reading by runs is reading by steps: what a run passes is the beginning of the walk by steps, and both go on from where it stands. Assumes nothing.
use Prim.Native.Nat.{ℕ, zero, suc, ◌+◌, ◌-◌, ◌≤◌, ◌<◌}
use mathlib.Core.Path.{◌≡◌, refl, ap, ◌∙◌}
use mathlib.Core.List.{List, [], ◌∷◌, ◌++◌}
use mathlib.Core.Option.{Option, some, none}
use native.Mathlib.Omega.{arith}
use lib.ListN.{length}
use Rattle.octets.specs.Reading.{Read, ok, no, ◌then◌}
use Rattle.octets.specs.Writing.{Each, Octet}
use Rattle.octets.proofs.Inverse.{no_ok, ok_value}
use Rattle.elements.specs.Element.{Element, item, finish, Stepped}
use Rattle.elements.specs.Steps.{step_at}
use Rattle.elements.specs.Walk.{Stop, Seen, Turn, goes, stops, Walk, onward, walk, Path, Lent, lent_of, turn_over, through_over}
use Rattle.elements.specs.Walk as walk
use Rattle.elements.specs.Reading.{Placed, placed_all, elements_of}
use Rattle.elements.proofs.Walks.{walk_goes, walk_path, walk_at_stop}
use Rattle.elements.proofs.Turns.{turn_item, turn_end, turn_no, over_moves}
use Rattle.elements.proofs.Through.{over_stops, over_path}
use Rattle.elements.proofs.Readings.{elements_behind}
use Rattle.runs.specs.Runs.{run_asked}
use Rattle.promises.specs.BySteps.{Ending, refused, ending_of, BySteps}
use Rattle.promises.proofs.Over.{once}
use Rattle.promises_questions.specs.ByRuns.{ByRuns, refuse, end, go, ReadByRuns}

-- A walk that paused met as many items as it had turns.
paused : {X : Type 0} (turn : X → Turn X) (k : ℕ) (x : X) → (walk turn k x).stop ≡ none → length (walk turn k x).seen ≡ k
unfolding walk
paused turn zero x h = refl
paused turn (suc k) x h = by (turn x) h (λ y. paused turn k y)
  where
    by : (t : Turn _) → (onward x t (walk turn k)).stop ≡ none → ((y : _) → (walk turn k y).stop ≡ none → length (walk turn k y).seen ≡ k) → length (onward x t (walk turn k)).seen ≡ suc k
    by (goes p y) h again = ap (λ (n : ℕ). suc n) (again y h)
    by (stops e) h again = absurd (let z : ◌≡◌ {A = ℕ} 0 1 = cc in omega arith)

-- What a run is asked.
module _ (s : List ℕ) (x : Lent) where
  abbrev step : Read Stepped
  step = step_at s x.at x.rows x.octets x.used

  asked_first : {n p : ℕ} → run_asked s x ≡ no n p → step ≡ no n p
  unfolding run_asked
  asked_first {n} {p} e = by step e
    where
      by : (r : Read Stepped) → (r then λ _ _. ok (walk (turn_over s) 4096 x) (walk (turn_over s) 4096 x).spot.at) ≡ no n p → r ≡ no n p
      by (no m q) e = let a : m ≡ n = cc in let b : q ≡ p = cc in cc
      by (ok st next) e = absurd (no_ok e refl)

  asked_is : {w : Walk Lent} {k : ℕ} → run_asked s x ≡ ok w k → (w ≡ walk (turn_over s) 4096 x) × ((st : Stepped) × (next : ℕ) × (step ≡ ok st next))
  unfolding run_asked
  asked_is {w} {k} e = by step refl e
    where
      by : (r : Read Stepped) → step ≡ r → (r then λ _ _. ok (walk (turn_over s) 4096 x) (walk (turn_over s) 4096 x).spot.at) ≡ ok w k
          → (w ≡ walk (turn_over s) 4096 x) × ((st : Stepped) × (next : ℕ) × (step ≡ ok st next))
      by (no m q) f e = absurd (no_ok refl e)
      by (ok st next) f e = (ok_value e refl, (st, next, f))

  asked_way : {w : Walk Lent} {k : ℕ} → run_asked s x ≡ ok w k → Path (turn_over s) x w.seen w.spot
  asked_way e = rw (asked_is e).0 (walk_path (turn_over s) 4096 x)

module _ (s : List ℕ) (o : Each Octet s) where
  -- Steps behind a way.
  onto : (seen : List Seen) (x y : Lent) {rest : List Placed} {e : Ending} → Path (turn_over s) x seen y → BySteps s y rest e → BySteps s x (placed_all seen ++ rest) e
  onto seen x y h d =
      let all = over_path s o seen x y h in
      record {
        stop = d.stop;
        comes = ap (λ (w : Walk Lent). w.stop) all ∙ d.comes;
        gives =
            ap (λ (w : Walk Lent). elements_of w.seen w.spot.at (some d.stop)) all
            ∙ (elements_behind seen (through_over s y).seen (through_over s y).spot.at (some d.stop) ∙ ap (λ (ps : List Placed). placed_all seen ++ ps) d.gives);
        ends = d.ends;
      }

  -- Steps that stop at once.
  at_once : (x : Lent) (e : Stop) → turn_over s x ≡ stops e → BySteps s x (elements_of [] x.at (some e)) (ending_of e)
  at_once x e h =
      let all = over_stops s o x e h in
      record { stop = e; comes = ap (λ (w : Walk Lent). w.stop) all; gives = ap (λ (w : Walk Lent). elements_of w.seen w.spot.at (some e)) all; ends = refl }

  -- A run that passed none stands at the end.
  at_end : (x : Lent) {w : Walk Lent} {k next : ℕ} {st : Stepped} → run_asked s x ≡ ok w k → length w.seen ≡ 0 → step s x ≡ ok st next
      → BySteps s x (record { place = x.at; element = st.element } ∷ []) (ending_of (walk.ended 0 0 next))
  at_end x {w} {k} {next} {st} e empty f = by st.element refl
    where
      by : (d : Element) → st.element ≡ d → BySteps s x (record { place = x.at; element = st.element } ∷ []) (ending_of (walk.ended 0 0 next))
      by (item i) q =
          let more = walk_goes (turn_over s) 4095 x _ _ (turn_item (lent_of x.octets) x.at (step s x) st next i f q) in
          absurd (omega (arith, empty, ap (λ (v : Walk Lent). length v.seen) ((asked_is s x e).0 ∙ more)))
      by (finish n t) q = rw q (at_once x (walk.ended n t next) (turn_end (lent_of x.octets) x.at (step s x) st next n t f q))

  steps_of : {x : Lent} {ps : List Placed} {e : Ending} → ByRuns s x ps e → BySteps s x ps e
  steps_of {x} (refuse {n = n} {p} e) = at_once x (walk.refused n p) (turn_no (lent_of x.octets) x.at (step s x) n p (asked_first s x e))
  steps_of {x} (end e empty f) = at_end x e empty f
  steps_of {x} (go {w = w} e some_passed d) = onto w.seen x w.spot (asked_way s x e) (steps_of d)

  -- There is a reading by runs from every spot: each run that goes on comes further.
  further : (seen : List Seen) (x y : Lent) → Path (turn_over s) x seen y → 0 < length seen → (x.at < y.at) × (y.at ≤ length s)
  further [] x y h some_passed = absurd (omega arith)
  further (p ∷ []) x y h some_passed = let m = over_moves s x o p h.0 h.1 in rw (← h.2) (omega arith, m.1)
  further (p ∷ q ∷ ps) x y h some_passed = let m = over_moves s x o p h.0 h.1 in let n = further (q ∷ ps) h.0 y h.2 (omega arith) in (omega arith, n.1)

  abbrev ReadOn : Lent → Type 0
  ReadOn x = (ps : List Placed) × (e : Ending) × ByRuns s x ps e

  reads : (k : ℕ) (x : Lent) → length s - x.at < k → ReadOn x
  reads zero x h = absurd (omega arith)
  reads (suc k) x h = by (run_asked s x) refl (λ y. reads k y)
    where
      by : (r : Read (Walk Lent)) → run_asked s x ≡ r → ((y : Lent) → length s - y.at < k → ReadOn y) → ReadOn x
      by (no n p) e again = ([], refused n p, refuse e)
      by (ok w j) e again = of (length w.seen) refl
        where
          of : (m : ℕ) → length w.seen ≡ m → ReadOn x
          of zero empty = let (st, next, f) = (asked_is s x e).1 in (_, _, end e empty f)
          of (suc m) q =
              let more : 0 < length w.seen = omega arith in
              let on = further w.seen x w.spot (asked_way s x e) more in
              let (ps, f, d) = again w.spot (omega arith) in
              (placed_all w.seen ++ ps, f, go e more d)

  runs_of : {x : Lent} {ps : List Placed} {e : Ending} → BySteps s x ps e → ByRuns s x ps e
  runs_of {x} {ps} {e} d =
      let (qs, f, r) = reads (length s + 1) x (omega arith) in
      let (a, b) = once (steps_of r) ps e d in
      rw (a, b) r

  pub read_by_runs : ReadByRuns s
  read_by_runs = record { steps = steps_of; runs = runs_of; stands = stands }
    where
      stands : (x : Lent) (w : Walk Lent) (k : ℕ) → run_asked s x ≡ ok w k → length w.seen < 4096 → (e : Stop) × (turn_over s w.spot ≡ stops e)
      stands x w k e few =
          let is = (asked_is s x e).0 in
          rw is (by (walk (turn_over s) 4096 x).stop refl)
        where
          by : (d : Option Stop) → (walk (turn_over s) 4096 x).stop ≡ d → (e : Stop) × (turn_over s (walk (turn_over s) 4096 x).spot ≡ stops e)
          by (some d) q = (d, walk_at_stop (turn_over s) 4096 x d q)
          by none q = absurd (omega (arith, few, paused (turn_over s) 4096 x q, ap (λ (v : Walk Lent). length v.seen) (asked_is s x e).0))
