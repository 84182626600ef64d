-- The questions about an element: what of a step is asked for, with the refusals that come before the answer.
use Rattle.std.specs.Prelude.{ℕ, List, ◌&&◌, eqb, leb}
use Rattle.octets.specs.Reading.{Read, ok, no, ◌then◌, choose, number}
use Rattle.octets.specs.Asked.{nth}
use Rattle.layouts.specs.Layout.{Attribute, Layout}
use Rattle.layouts.specs.Book.{Book}
use Rattle.rows.specs.Row.{Field, Row}
use Rattle.elements.specs.Element.{Element, item, layout, row, finish, element_at}
use Rattle.elements.specs.Steps.{lent_book}

-- The kind at a place is the one asked about. Refusal 1 or 7 as a step gives them; 19, at the kind: it is another of the three.
unfoldable pub kind_asked : ℕ → List ℕ → ℕ → Read ℕ
kind_asked wanted s at =
    number 4 s at then λ kind next.
    choose (eqb kind wanted) (λ _. ok kind next) (λ _. choose (leb 1 kind && leb kind 3) (λ _. no 19 at) (λ _. no 7 at))

-- What stands before every question about an element: 2 and 17 as before a step, then the kind. At a wrong kind nothing else of the element is read.
unfoldable pub book_asked : ℕ → List ℕ → ℕ → ℕ → List ℕ → ℕ → Read Book
book_asked wanted s at rows octets used = lent_book s rows octets used then λ book _. kind_asked wanted s at then λ _ next. ok book next

-- The row, or the layout, that a step has read; an element of another kind is not the one asked about.
abbrev pub row_of : ℕ → Element → ℕ → Read Row
row_of at (item (row r)) next = ok r next
row_of at (item (layout l)) next = no 19 at
row_of at (finish n t) next = no 19 at

abbrev pub layout_of : ℕ → Element → ℕ → Read Layout
layout_of at (item (row r)) next = no 19 at
layout_of at (item (layout l)) next = ok l next
layout_of at (finish n t) next = no 19 at

-- A row at a place, from the step's inputs: what the step reads there. The whole row decides.
unfoldable pub row_asked : List ℕ → ℕ → ℕ → List ℕ → ℕ → Read Row
row_asked s at rows octets used =
    book_asked 2 s at rows octets used then λ book _. element_at s at rows book then λ st next. row_of at st.element next

-- Field n of it, with the name and type that the book gives; 18 at the row.
unfoldable pub field_asked : List ℕ → ℕ → ℕ → List ℕ → ℕ → ℕ → Read Field
field_asked s at rows octets used n = row_asked s at rows octets used then λ r next. nth n at r.fields next

-- A layout at a place, from the step's inputs: what the step reads there, 10 and 11 among its refusals. Nothing is learnt.
unfoldable pub layout_asked : List ℕ → ℕ → ℕ → List ℕ → ℕ → Read Layout
layout_asked s at rows octets used =
    book_asked 1 s at rows octets used then λ book _. element_at s at rows book then λ st next. layout_of at st.element next

-- Attribute n of it, from the document; 18 at the layout.
unfoldable pub attribute_asked : List ℕ → ℕ → ℕ → List ℕ → ℕ → ℕ → Read Attribute
attribute_asked s at rows octets used n = layout_asked s at rows octets used then λ l next. nth n at l.attributes next
