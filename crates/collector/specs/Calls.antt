-- What the calls for C answer and leave: a reading as one number, and its words.
use Rattle.std.specs.Prelude.{ℕ, ◌+◌, ◌*◌, ◌<◌, List, [], ◌∷◌, Bool, true, false, length, set}
use Rattle.octets.specs.Reading.{Read, ok, no}
use Rattle.kinds.specs.Kinds.{unsigned}
use Rattle.layouts.specs.Book.{book_image}
use Rattle.headers.specs.Header.{Header}
use Rattle.elements.specs.Element.{Element, item, layout, row, finish, Stepped}
use Rattle.elements.specs.declared.Met.{Met}
use Rattle.elements.specs.declared.Met.TheVariants as met
use Rattle.elements.specs.Walk.{Walk, Lent}

-- A refusal as one number: its number times 2^32, and its place.
abbrev pub packed : ℕ → ℕ → ℕ
packed n p = n * 4294967296 + p

-- A refusal that can be told from acceptance and taken apart again: its number is not 0, and its place fits 32 bits.
abbrev pub Packs : {A : Type 0} → Read A → Type 0
Packs (ok a next) = Unit {0}
Packs (no n p) = (0 < n) × (p < 4294967296)

-- What a call answers: 0 where the reading is accepted, else its refusal.
abbrev pub answered : {A : Type 0} → Read A → ℕ
answered (ok a next) = 0
answered (no n p) = packed n p

-- What the header check leaves in the lent words: the bits of the start time, the counts of both lists and the place behind the header in the first four, the others as they were.
abbrev pub head_leaves : List ℕ → Read Header → List ℕ
head_leaves words (ok h next) = set (set (set (set words 0 h.start) 1 (length h.others)) 2 (length h.services)) 3 next
head_leaves words (no n p) = words

abbrev pub bit : Bool → ℕ
bit true = 1
bit false = 0

-- A step's words: the kind, the next place, the new row count, the new used count; then the number, the count of attributes or fields and whether the length is stated, or the end's count and the bits of its time.
abbrev pub step_words : Element → ℕ → ℕ → ℕ → List ℕ
step_words (item (layout l)) next rows used = 1 ∷ next ∷ rows ∷ used ∷ l.number ∷ length l.attributes ∷ 0 ∷ 0 ∷ []
step_words (item (row r)) next rows used = 2 ∷ next ∷ rows ∷ used ∷ r.number ∷ length r.fields ∷ bit r.is_stated ∷ 0 ∷ []
step_words (finish n t) next rows used = 3 ∷ next ∷ rows ∷ used ∷ n ∷ t ∷ 0 ∷ 0 ∷ []

abbrev pub step_leaves : List ℕ → Read Stepped → List ℕ
step_leaves words (ok st next) = step_words st.element next st.rows (length (book_image st.book))
step_leaves words (no n p) = words

-- The same words by what reading answers of an element.
abbrev pub met_words : Met → ℕ → ℕ → ℕ → List ℕ
met_words (met.Layout number count) next rows used = 1 ∷ next ∷ rows ∷ used ∷ number ∷ count ∷ 0 ∷ 0 ∷ []
met_words (met.Row number stated count) next rows used = 2 ∷ next ∷ rows ∷ used ∷ number ∷ count ∷ bit stated ∷ 0 ∷ []
met_words (met.End count time) next rows used = 3 ∷ next ∷ rows ∷ used ∷ count ∷ unsigned 8 time ∷ 0 ∷ 0 ∷ []

-- What a run leaves: how many items it has passed, the place, the row count and the used count behind them.
abbrev pub run_leaves : List ℕ → Read (Walk Lent) → List ℕ
run_leaves words (ok w next) = length w.seen ∷ w.spot.at ∷ w.spot.rows ∷ w.spot.used ∷ 0 ∷ 0 ∷ 0 ∷ 0 ∷ []
run_leaves words (no n q) = words

-- What the whole check leaves of the lent row count.
abbrev pub count_leaves : ℕ → Read ℕ → ℕ
count_leaves lent (ok n end) = n
count_leaves lent (no n p) = lent
