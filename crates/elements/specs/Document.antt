-- The meaning of a document, its one image, and the limits.
use Rattle.std.specs.Prelude.{ℕ, ◌+◌, ◌^◌, ◌<◌, ◌≤◌, ◌≡◌, List, [], ◌∷◌, ◌++◌, length}
use Rattle.std.proofs.Math.Option.{some}
use Rattle.octets.specs.Limits.{longest}
use Rattle.octets.specs.Reading.{ok}
use Rattle.octets.specs.Writing.{word, images}
use Rattle.layouts.specs.Layout.{Layout, layout_image, GoodLayout}
use Rattle.layouts.specs.Book.{Book, find, learn}
use Rattle.rows.specs.Row.{row_image, FieldsOf}
use Rattle.headers.specs.Header.{Header, header_image, GoodHeader}
use Rattle.elements.specs.Element.{Item, layout, row, item, finish}
use Rattle.elements.specs.Reading.{Placed, Reading}

-- What a document means: a header, layouts and rows in their order, and the bits of the end time. The end count is that of the rows.
pub record Document : Type 0 where
  pub header : Header
  pub items : List Item
  pub end : ℕ

-- Kind 1 and a layout, or kind 2 and a row.
abbrev pub item_image : Item → List ℕ
item_image (layout l) = word 4 1 ++ layout_image l
item_image (row r) = word 4 2 ++ row_image r

abbrev pub row_count : List Item → ℕ
row_count [] = 0
row_count (layout l ∷ rest) = row_count rest
row_count (row r ∷ rest) = 1 + row_count rest

-- The one image: the header, the items, and kind 3 with the count of rows and the end time.
unfoldable pub image : Document → List ℕ
image d = header_image d.header ++ images item_image d.items ++ word 4 3 ++ word 4 (row_count d.items) ++ word 8 d.end

-- Items that may stand behind a book: each layout can be learnt, each row has its layout before it and that layout's fields.
abbrev pub GoodItems : Book → List Item → Type 0
GoodItems book [] = Unit {0}
GoodItems book (layout l ∷ rest) = GoodLayout l × ((next : Book) × (learn book l 0 ≡ ok next 0) × GoodItems next rest)
GoodItems book (row r ∷ rest) =
    (r.number < 2 ^ 32) × ((l : Layout) × (find r.number book ≡ some l) × FieldsOf l.attributes r.fields) × GoodItems book rest

-- A meaning inside the limits.
pub record Good (d : Document) : Type 0 where
  pub header : GoodHeader d.header
  pub items : GoodItems [] d.items
  pub end : d.end < 2 ^ 64
  pub fits : length (image d) ≤ longest

-- The items with their places, and the end behind them.
abbrev pub placed_from : ℕ → ℕ → ℕ → List Item → List Placed
placed_from at rows end [] = record { place = at; element = finish rows end } ∷ []
placed_from at rows end (i ∷ rest) = record { place = at; element = item i } ∷ placed_from (at + length (item_image i)) rows end rest

-- What reading a document's image answers.
unfoldable pub reading_of : Document → Reading
reading_of d =
    record { header = d.header; elements = placed_from (length (header_image d.header)) (row_count d.items) d.end d.items }
