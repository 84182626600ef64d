-- What is told of a turn, and how a walk goes on.
use Rattle.std.specs.Prelude.{ℕ, ◌<◌, ◌≡◌, List, length, Result, Ok, Err}
use Rattle.octets.specs.declared.Refused.{Refused}
use Rattle.kinds.specs.Kinds.{signed}
use Rattle.layouts.specs.Book.{Book, book_image}
use Rattle.elements.specs.Element.{item}
use Rattle.elements.specs.Answers.{met_of}
use Rattle.elements.specs.declared.Met.{Met}
use Rattle.elements.specs.declared.Met.TheVariants as met
use Rattle.elements.specs.declared.Step.{Step}
use Rattle.elements.specs.Walk.{ended, refused, Seen, Turn, goes, stops, Spot, turn_at}
use Rattle.walks.specs.Kept.{Shelved, Planned}
use Rattle.walks.specs.Rows.{Refuses, Strides}
use Rattle.walks.specs.declared.Known.{Known}
use Rattle.walks.specs.declared.Gone.{Gone}
use Rattle.walks.specs.declared.Moved.{Moved}
use Rattle.walks.specs.declared.Moved.TheVariants as moved

-- An item and the spot behind it.
abbrev pub gone_of : Seen → Spot → Gone
gone_of p y = record { met = met_of (item p.which); position = p.position; next = p.next; rows = y.rows; used = length (book_image y.book) }

-- The one answer to a turn.
abbrev pub moved_of : Turn Spot → Result Moved Refused
moved_of (goes p y) = Ok (moved.Item (gone_of p y))
moved_of (stops (ended n t next)) = Ok (moved.End n (signed 8 t) next)
moved_of (stops (refused n p)) = Err (record { number = n; place = p })

-- The same by what a step says and the position of its layout.
abbrev pub met_moved : Met → Step → ℕ → Moved
met_moved (met.End n t) step i = moved.End n t step.next
met_moved (met.Layout n k) step i = moved.Item (record { met = step.met; position = i; next = step.next; rows = step.rows; used = step.used })
met_moved (met.Row n stated k) step i = moved.Item (record { met = step.met; position = i; next = step.next; rows = step.rows; used = step.used })

abbrev pub step_moved : Step → ℕ → Moved
step_moved step i = met_moved step.met step i

-- A book that uses so many octets, whose layouts are kept by their numbers and plans and by their places in a shelf.
pub record Bears (shelf : List ℕ) (used : ℕ) (k : Known) (book : Book) : Type 0 where
  pub planned : Planned k book
  pub shelved : Shelved shelf k book
  pub size : length (book_image book) ≡ used

pub record Borne (shelf : List ℕ) (used : ℕ) (k : Known) : Type 0 where
  pub book : Book
  pub bears : Bears shelf used k book

-- By one turn, where no row is passed by a plan: no word is put.
pub record ByTurn (s : List ℕ) (x : Spot) (k : Known) (most : ℕ) (entry exit : List ℕ) (r : Result Moved Refused) : Type 0 where
  pub is : r ≡ moved_of (turn_at s x)
  pub kept : exit ≡ entry
  pub stops : 0 < most → Refuses s x.at x.book k

-- How a walk goes on from a spot: over rows as far as they go, if there is one, else by one turn.
abbrev pub GoesOn : List ℕ → Spot → Known → List ℕ → ℕ → List ℕ → List ℕ → Result Moved Refused → Type 0
GoesOn s x k labels most entry exit (Ok (moved.Rows next count)) = (0 < count) × Strides s x k labels most entry exit next count
GoesOn s x k labels most entry exit (Ok (moved.Item g)) = ByTurn s x k most entry exit (Ok (moved.Item g))
GoesOn s x k labels most entry exit (Ok (moved.End n t next)) = ByTurn s x k most entry exit (Ok (moved.End n t next))
GoesOn s x k labels most entry exit (Err r) = ByTurn s x k most entry exit (Err r)
