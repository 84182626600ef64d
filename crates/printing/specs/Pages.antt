-- What it is to print a text on a page: what Text says of a lent buffer and of how much waits in it.
use Rattle.std.specs.Prelude.{ℕ, List, ◌≡◌}
use Rattle.printing.specs.Text.{Prints}
use Rattle.printing.specs.declared.Page.{Page}

-- The text is printed, and the page stands over the same lent buffer.
pub record Shows (before : Page) (text : List ℕ) (after : Page) : Type 0 where
  pub prints : Prints before.out.now before.n text after.out.now after.n
  pub same : after.out ≡ record before.out { now = after.out.now }
