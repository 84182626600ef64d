-- Reading by runs: each run is given the place, the rows, the lent octets and the used count that the run before left; a step reads the end.
use Rattle.std.specs.Prelude.{ℕ, ◌<◌, ◌≡◌, List, [], ◌∷◌, ◌++◌, length}
use Rattle.octets.specs.Reading.{ok, no}
use Rattle.elements.specs.Element.{Stepped}
use Rattle.elements.specs.Steps.{step_at}
use Rattle.elements.specs.Walk.{Stop, stops, Walk, Lent, turn_over}
use Rattle.elements.specs.Reading.{Placed, placed_all}
use Rattle.runs.specs.Runs.{run_asked}
use Rattle.promises.specs.BySteps.{Ending, ended, refused, BySteps}

-- The reading by runs from a spot on: it goes on behind every run that passed an item, to a run that is refused or that passed none. Its elements are the items that the runs passed, and the end.
pub data ByRuns (s : List ℕ) : Lent → List Placed → Ending → Type 0 where
  refuse : {x : Lent} {n p : ℕ} → run_asked s x ≡ no n p → ByRuns s x [] (refused n p)
  end : {x : Lent} {k next : ℕ} {w : Walk Lent} {st : Stepped} → run_asked s x ≡ ok w k → length w.seen ≡ 0
      → step_at s x.at x.rows x.octets x.used ≡ ok st next → ByRuns s x (record { place = x.at; element = st.element } ∷ []) (ended next)
  go : {x : Lent} {k : ℕ} {w : Walk Lent} {rest : List Placed} {e : Ending} → run_asked s x ≡ ok w k → 0 < length w.seen
      → ByRuns s w.spot rest e → ByRuns s x (placed_all w.seen ++ rest) e

-- What is promised of runs over octets.
pub record ReadByRuns (s : List ℕ) : Type 0 where
  -- What runs read, steps read, and what steps read, runs read: the same elements, to the same end or refusal.
  pub steps : {x : Lent} {ps : List Placed} {e : Ending} → ByRuns s x ps e → BySteps s x ps e
  pub runs : {x : Lent} {ps : List Placed} {e : Ending} → BySteps s x ps e → ByRuns s x ps e
  -- Behind a run of fewer than 4,096 items the step reads the end or is refused.
  pub stands : (x : Lent) (w : Walk Lent) (k : ℕ) → run_asked s x ≡ ok w k → length w.seen < 4096 → (e : Stop) × (turn_over s w.spot ≡ stops e)
