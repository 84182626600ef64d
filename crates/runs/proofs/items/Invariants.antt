-- `runs::items` meets its contract. The invariant: the run's way over the lent octets and its words, with the book in them kept.
-- The measure is the items to come. Assumes nothing.
use Prim.Native.Nat.{ℕ, ◌+◌, ◌-◌, ◌≤◌}
use mathlib.Core.Path.{◌≡◌}
use mathlib.Core.List.{List}
use lib.ListN.{length}
use Rattle.octets.specs.Limits.{most_rows}
use Rattle.elements.specs.Walk.{lent_at}
use Rattle.walks.specs.declared.Known.{Known}
use Rattle.walks.proofs.Lents.{Carried}
use Rattle.runs.specs.declared.Went.{Went}
use Rattle.runs.proofs.Runs.{OnRun}
use Rattle.runs.proofs.items.Given as goal

-- The run's way and words, and what is carried with the lent octets.
pub record Going (doc : List ℕ) (at rows : ℕ) (entry : List ℕ) (used : ℕ) (lent book words : List ℕ) (known : Known) (went : Went) : Type 0 where
  pub run : OnRun doc (lent_at at rows entry used) lent words went.count (lent_at went.next went.rows book went.used)
  pub carried : Carried book went.used known
  pub inside : went.next ≤ length doc
  pub few : went.rows ≤ most_rows + 1
  pub book_long : length book ≡ length entry
  pub words_long : length words ≡ length lent

abbrev pub invariant-loop-went : goal.invariant-loop-went
invariant-loop-went l = Going l.doc l.at l.rows l.initial.book l.used l.initial.words l.book l.words l.known l.went

abbrev pub decreases-loop-went : goal.decreases-loop-went
decreases-loop-went l = 4096 - l.went.count
