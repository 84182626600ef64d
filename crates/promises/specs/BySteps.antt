-- Reading by steps: a walk over lent octets, each step given the place, the rows, the octets and the used count that the step before answered and left.
use Rattle.std.specs.Prelude.{ℕ, ◌+◌, ◌-◌, ◌≤◌, ◌≡◌, List, ◌⊎◌, length, take}
use Rattle.std.proofs.Math.Option.{some}
use Rattle.octets.specs.Limits.{most_rows, book_room}
use Rattle.octets.specs.Reading.{Read, ok, no, ◌then◌}
use Rattle.octets.specs.Writing.{over}
use Rattle.layouts.specs.Layout.{Layout, layout_image}
use Rattle.layouts.specs.Book.{Book, book_image}
use Rattle.headers.specs.Header.{Header, header_at}
use Rattle.elements.specs.Element.{layout, item, Stepped}
use Rattle.elements.specs.Steps.{holding, step_at}
use Rattle.elements.specs.Walk.{Stop, walk, Lent, lent_at, turn_over, through_over}
use Rattle.elements.specs.Walk as walk
use Rattle.elements.specs.Reading.{Placed, placed_all, elements_of, reading_from, Reading, headed, reading, as_row, rows_of, whole}

-- How a reading ends: behind the end element, or by a refusal's number and place.
pub data Ending : Type 0 where
  ended : ℕ → Ending
  refused : ℕ → ℕ → Ending

abbrev pub ending_of : Stop → Ending
ending_of (walk.ended n t next) = ended next
ending_of (walk.refused n p) = refused n p

-- The reading by steps from a spot on: it comes to a stop, and these are the elements that it gives before its refusal or up to its end.
pub record BySteps (s : List ℕ) (x : Lent) (elements : List Placed) (ending : Ending) : Type 0 where
  pub stop : Stop
  pub comes : (through_over s x).stop ≡ some stop
  pub gives : elements_of (through_over s x).seen (through_over s x).spot.at (some stop) ≡ elements
  pub ends : ending_of stop ≡ ending

-- What such a reading answers.
abbrev pub answer : List Placed → Ending → Read (List Placed)
answer elements (ended p) = ok elements p
answer elements (refused n p) = no n p

-- A first-octet reading over lent octets: the header, then steps from an empty book.
pub data FromFirst (s octets : List ℕ) : Read Reading → Type 0 where
  no_header : {n p : ℕ} → header_at s ≡ no n p → FromFirst s octets (no n p)
  then_steps : {h : Header} {next : ℕ} {elements : List Placed} {e : Ending} {r : Read Reading} → header_at s ≡ ok h next
      → BySteps s (lent_at next 0 octets 0) elements e → r ≡ headed h (answer elements e) → FromFirst s octets r

-- Lent octets that carry a book: at least 32,768 of them, the used ones its layouts one after another.
pub record Carries (octets : List ℕ) (used : ℕ) (book : Book) : Type 0 where
  pub room : book_room ≤ length octets
  pub size : used ≡ length (book_image book)
  pub held : take used octets ≡ book_image book

-- The rows passed and the octets left are together within the limit of rows. So it is wherever a document's own rows are told, and so it stays, since every row takes more than one octet; where it is not, a later step may be told rows over the limit, which is 17.
abbrev pub Few : List ℕ → ℕ → ℕ → Type 0
Few s at rows = rows + (length s - at) ≤ most_rows

-- What is promised of steps from a spot over lent octets: they come to an end or a refusal, in one way alone, and that answer is the reading from there.
pub record OneReading (s : List ℕ) (x : Lent) : Type 0 where
  pub elements : List Placed
  pub ending : Ending
  pub steps : BySteps s x elements ending
  pub only : (others : List Placed) (e : Ending) → BySteps s x others e → (others ≡ elements) × (e ≡ ending)
  pub answers : reading_from s x.at x.rows x.octets x.used ≡ answer elements ending

-- What is promised of a first-octet reading over lent octets: the steps answer the reading, and nothing else; the whole check answers its rows or its refusal.
pub record OneFirst (s octets : List ℕ) : Type 0 where
  pub steps : FromFirst s octets (reading s)
  pub only : (r : Read Reading) → FromFirst s octets r → r ≡ reading s
  pub whole_is : (r : Read Reading) → FromFirst s octets r → whole s ≡ (r then λ x end. ok (rows_of x.elements) end)

-- What is promised of the lent octets behind an accepted step: they are as they were; or the layout read is new and stands at the end of the used ones, and nothing else moved.
abbrev pub Appends : List ℕ → ℕ → Stepped → Type 0
Appends octets used st =
    ((holding st.book octets ≡ octets) × (length (book_image st.book) ≡ used))
    ⊎ ((m : Layout) × (st.element ≡ item (layout m)) × (holding st.book octets ≡ over octets used (layout_image m)) × (length (book_image st.book) ≡ used + length (layout_image m)))

-- Behind some elements a reading by steps stands at a spot: what its next step is given is just what the steps over those have left.
pub record Comes (s : List ℕ) (x : Lent) (before : List Placed) (given : Lent) : Type 0 where
  pub passes : placed_all (walk (turn_over s) (length before) x).seen ≡ before
  pub stands : (walk (turn_over s) (length before) x).spot ≡ given

-- What is promised of each element of a reading by steps: its step is given what the steps over the elements before it have left, and reads it. It is told the rows before it, and answers one more behind a row.
pub record Meets (s : List ℕ) (x : Lent) (before : List Placed) (p : Placed) : Type 0 where
  pub given : Lent
  pub stepped : Stepped
  pub next : ℕ
  pub comes : Comes s x before given
  pub there : given.at ≡ p.place
  pub steps : step_at s given.at given.rows given.octets given.used ≡ ok stepped next
  pub element : stepped.element ≡ p.element
  pub rows_told : given.rows ≡ x.rows + rows_of before
  pub counts : stepped.rows ≡ given.rows + as_row p.element

-- The step at a place, behind some elements, is refused.
pub record Stops (s : List ℕ) (x : Lent) (before : List Placed) (place n p : ℕ) : Type 0 where
  pub given : Lent
  pub comes : Comes s x before given
  pub there : given.at ≡ place
  pub refuses : step_at s given.at given.rows given.octets given.used ≡ no n p
