-- The limits that the scope sets, each named once.
use Rattle.std.specs.Prelude.{ℕ}

-- The most octets of a document.
abbrev pub longest : ℕ
longest = 1048576

-- The most rows that a step may be told.
abbrev pub most_rows : ℕ
most_rows = 1048576

-- A book: at least so many octets are lent for it, and at most so many used; the most layouts in it.
abbrev pub book_room : ℕ
book_room = 32768

abbrev pub most_layouts : ℕ
most_layouts = 64

-- The most attributes of a layout.
abbrev pub most_attributes : ℕ
most_attributes = 64

-- The most items of each of the header's lists.
abbrev pub most_listed : ℕ
most_listed = 16
