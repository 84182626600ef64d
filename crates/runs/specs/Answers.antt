-- What the answers of a run say.
use Rattle.std.specs.Prelude.{ℕ, ◌≡◌, List, length, Result, Ok, Err}
use Rattle.octets.specs.Reading.{Read, ok, no}
use Rattle.octets.specs.declared.Refused.{Refused}
use Rattle.elements.specs.declared.Met.{Met}
use Rattle.elements.specs.declared.Met.TheVariants as met
use Rattle.elements.specs.Walk.{Walk, Lent}
use Rattle.walks.specs.Rows.{row_word, laid}
use Rattle.runs.specs.Runs.{layout_word, words_of}
use Rattle.runs.specs.declared.Went.{Went}

-- An item's word, by what is told of it; the end has none.
abbrev pub met_word : Met → ℕ → ℕ
met_word (met.Layout number count) next = layout_word number next
met_word (met.Row number stated count) next = row_word number stated next
met_word (met.End count time) next = 0

-- How many items were passed, and where the run stands then.
abbrev pub went_of : Walk Lent → Went
went_of w = record { count = length w.seen; next = w.spot.at; rows = w.spot.rows; used = w.spot.used }

-- The run's refusal, or what was passed.
abbrev pub run_tells : Read (Walk Lent) → Result Went Refused
run_tells (ok w next) = Ok (went_of w)
run_tells (no n q) = Err (record { number = n; place = q })

-- The lent book and the lent words behind a run: a refusal leaves both as they were.
abbrev pub book_left : List ℕ → Read (Walk Lent) → List ℕ
book_left octets (ok w next) = w.spot.octets
book_left octets (no n q) = octets

abbrev pub words_left : List ℕ → Read (Walk Lent) → List ℕ
words_left words (ok w next) = laid 0 (words_of w.seen) words
words_left words (no n q) = words

-- What a run answers and leaves, all by what it is.
abbrev pub Ran : List ℕ → List ℕ → Read (Walk Lent) → List ℕ → List ℕ → Result Went Refused → Type 0
Ran octets words asked book items r = (r ≡ run_tells asked) × (book ≡ book_left octets asked) × (items ≡ words_left words asked)

-- A run that is refused.
abbrev pub Refuses : Result Went Refused → Type 0
Refuses (Ok w) = ⊥
Refuses (Err r) = Unit {0}
