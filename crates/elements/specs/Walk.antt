-- Going through elements: turn after turn from a spot, over any kind of spot that a turn leads from and to.
use Rattle.std.specs.Prelude.{ℕ, zero, suc, ◌+◌, ◌≡◌, List, [], ◌∷◌, ◌++◌, length}
use Rattle.std.proofs.Math.Option.{Option, some, none}
use Rattle.octets.specs.Reading.{Read, ok, no}
use Rattle.layouts.specs.Book.{Book, book_image, position}
use Rattle.elements.specs.Element.{Item, layout, row, Element, item, finish, Stepped, element_at}
use Rattle.elements.specs.Steps.{holding, step_at}

-- Why a walk stops: at the end, with its count, the bits of its time and the place behind it; or at a refusal, by its number and place.
pub data Stop : Type 0 where
  ended : ℕ → ℕ → ℕ → Stop
  refused : ℕ → ℕ → Stop

-- An item met: its place, the place behind it, and the position of its layout in the book behind it.
pub record Seen : Type 0 where
  pub which : Item
  pub place : ℕ
  pub next : ℕ
  pub position : ℕ

-- One turn from a spot: an item and the spot behind it, or a stop.
pub data Turn (X : Type 0) : Type 0 where
  goes : Seen → X → Turn X
  stops : Stop → Turn X

-- A walk: the items met in their order, the spot behind them, and why it stopped there; nothing where it paused behind as many as were asked for.
pub record Walk (X : Type 0) : Type 0 where
  pub seen : List Seen
  pub spot : X
  pub stop : Option Stop

abbrev pub standing : {X : Type 0} → X → Option Stop → Walk X
standing x e = record { seen = []; spot = x; stop = e }

abbrev pub behind : {X : Type 0} → List Seen → Walk X → Walk X
behind ps w = record { seen = ps ++ w.seen; spot = w.spot; stop = w.stop }

abbrev pub onward : {X : Type 0} → X → Turn X → (X → Walk X) → Walk X
onward x (goes p y) more = behind (p ∷ []) (more y)
onward x (stops e) more = standing x (some e)

-- Turn after turn from a spot, k at most.
unfoldable pub walk : {X : Type 0} → (X → Turn X) → ℕ → X → Walk X
walk turn zero x = standing x none
walk turn (suc k) x = onward x (turn x) (walk turn k)

-- The items of a way from one spot to another.
abbrev pub Path : {X : Type 0} → (X → Turn X) → X → List Seen → X → Type 0
Path turn x [] y = x ≡ y
Path {X} turn x (p ∷ ps) y = (z : X) × (turn x ≡ goes p z) × Path turn z ps y

-- A turn by what is read: an item goes on, the end and a refusal stop.
abbrev pub number_of : Item → ℕ
number_of (layout l) = l.number
number_of (row r) = r.number

abbrev pub seen_at : ℕ → Item → Stepped → ℕ → Seen
seen_at at i st next = record { which = i; place = at; next = next; position = position (number_of i) st.book }

abbrev pub turn_by : {X : Type 0} → (Stepped → ℕ → X) → ℕ → Stepped → ℕ → Element → Turn X
turn_by to at st next (item i) = goes (seen_at at i st next) (to st next)
turn_by to at st next (finish n t) = stops (ended n t next)

abbrev pub turn_of : {X : Type 0} → (Stepped → ℕ → X) → ℕ → Read Stepped → Turn X
turn_of to at (ok st next) = turn_by to at st next st.element
turn_of to at (no n p) = stops (refused n p)

-- A spot over a book in hand: the place, the rows passed, the book. Its turn reads the element there.
pub record Spot : Type 0 where
  pub at : ℕ
  pub rows : ℕ
  pub book : Book

abbrev pub spot_at : ℕ → ℕ → Book → Spot
spot_at at rows book = record { at = at; rows = rows; book = book }

abbrev pub spot_of : Stepped → ℕ → Spot
spot_of st next = spot_at next st.rows st.book

abbrev pub turn_at : List ℕ → Spot → Turn Spot
turn_at s x = turn_of spot_of x.at (element_at s x.at x.rows x.book)

-- A spot over lent octets, of which so many are used. Its turn is a step, and leaves its book in them.
pub record Lent : Type 0 where
  pub at : ℕ
  pub rows : ℕ
  pub octets : List ℕ
  pub used : ℕ

abbrev pub lent_at : ℕ → ℕ → List ℕ → ℕ → Lent
lent_at at rows octets used = record { at = at; rows = rows; octets = octets; used = used }

abbrev pub lent_of : List ℕ → Stepped → ℕ → Lent
lent_of octets st next = lent_at next st.rows (holding st.book octets) (length (book_image st.book))

abbrev pub turn_over : List ℕ → Lent → Turn Lent
turn_over s x = turn_of (lent_of x.octets) x.at (step_at s x.at x.rows x.octets x.used)

-- The walk to its end or refusal: no document has more elements than octets.
unfoldable pub through : List ℕ → Spot → Walk Spot
through s x = walk (turn_at s) (length s + 1) x

-- The same over lent octets.
unfoldable pub through_over : List ℕ → Lent → Walk Lent
through_over s x = walk (turn_over s) (length s + 1) x
