-- What is asked, by what it is asked over: of the document, at the place, with the rows passed and the used octets of the book. And the step from these inputs.
use Rattle.std.specs.Prelude.{ℕ}
use Rattle.octets.specs.Reading.{Read}
use Rattle.layouts.specs.Layout.{Attribute, Layout}
use Rattle.rows.specs.Row.{Field, Row}
use Rattle.elements.specs.Element.{Stepped}
use Rattle.elements.specs.Steps.{step_at}
use Rattle.questions.specs.Questions.{row_asked, field_asked, layout_asked, attribute_asked}
use Rattle.questions.specs.declared.Asked.{Asked}

abbrev pub step_for : Asked → Read Stepped
step_for q = step_at q.doc.now q.at q.rows q.book.now q.used

abbrev pub row_for : Asked → Read Row
row_for q = row_asked q.doc.now q.at q.rows q.book.now q.used

abbrev pub field_for : Asked → ℕ → Read Field
field_for q n = field_asked q.doc.now q.at q.rows q.book.now q.used n

abbrev pub layout_for : Asked → Read Layout
layout_for q = layout_asked q.doc.now q.at q.rows q.book.now q.used

abbrev pub attribute_for : Asked → ℕ → Read Attribute
attribute_for q n = attribute_asked q.doc.now q.at q.rows q.book.now q.used n
