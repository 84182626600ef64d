-- A run of steps: a walk over lent octets of at most 4,096 items, each told in one number.
use Rattle.std.specs.Prelude.{ℕ, ◌+◌, ◌-◌, min, List, [], ◌∷◌}
use Rattle.octets.specs.Limits.{most_rows}
use Rattle.octets.specs.Reading.{Read, ok, ◌then◌}
use Rattle.elements.specs.Element.{Item, layout, row}
use Rattle.elements.specs.Steps.{step_at}
use Rattle.elements.specs.Walk.{Seen, Walk, walk, Lent, turn_over}
use Rattle.walks.specs.Rows.{packed, row_word}

-- A layout in one number, labelled by its own: it is no row, and has no length to state.
abbrev pub layout_word : ℕ → ℕ → ℕ
layout_word number next = packed number 0 0 next

abbrev pub item_word : Item → ℕ → ℕ
item_word (layout l) next = layout_word l.number next
item_word (row r) next = row_word r.number r.is_stated next

abbrev pub words_of : List Seen → List ℕ
words_of [] = []
words_of (p ∷ ps) = item_word p.which p.next ∷ words_of ps

-- What a run is: refused exactly as its first step is, else the walk, of at most 4,096 turns. It passes no item where that step reads the end, and nowhere else.
unfoldable pub run_asked : List ℕ → Lent → Read (Walk Lent)
run_asked s x =
    step_at s x.at x.rows x.octets x.used then λ _ _. ok (walk (turn_over s) 4096 x) (walk (turn_over s) 4096 x).spot.at

-- How many rows may follow one another behind n items and so many rows: no step is told more than 1,048,576 rows.
abbrev pub reach_of : ℕ → ℕ → ℕ
reach_of n rows = min (4096 - n) (most_rows + 1 - rows)
