-- What is known where a question is asked rightly, and what the functions between find: places of what is asked, or its refusal.
use Rattle.std.specs.Prelude.{ℕ, ◌+◌, ◌≡◌, List, length, take, Result, Ok, Err}
use Rattle.octets.specs.Reading.{Read, ok, no, ◌then◌, be}
use Rattle.octets.specs.declared.Refused.{Refused}
use Rattle.octets.specs.Asked.{StandsAt}
use Rattle.layouts.specs.Layout.{Layout, attribute_at, layout_at}
use Rattle.layouts.specs.Book.{Book, book_in, learn}
use Rattle.layouts.specs.Answers.{Image}
use Rattle.row_fields.specs.Places.{Open, Spotted}
use Rattle.row_fields.specs.declared.Spot.{Spot}
use Rattle.questions.specs.Questions.{book_asked}
use Rattle.questions.specs.Asked.{field_for, layout_for, attribute_for}
use Rattle.questions.specs.declared.Asked.{Asked}

-- An element of the kind asked about, over octets that are a book.
pub record Opened (wanted : ℕ) (s : List ℕ) (at rows : ℕ) (octets : List ℕ) (used : ℕ) : Type 0 where
  pub is : book_asked wanted s at rows octets used ≡ ok (book_in octets used) (at + 4)
  pub kind : be 4 s at ≡ wanted
  pub image : Image (take used octets) (book_in octets used)
  pub whole : length (take used octets) ≡ used
  pub lent : Open s at (take used octets)

abbrev pub Opens : ℕ → List ℕ → ℕ → ℕ → List ℕ → ℕ → Result (Unit {0}) Refused → Type 0
Opens wanted s at rows octets used (Ok u) = Opened wanted s at rows octets used
Opens wanted s at rows octets used (Err r) = book_asked wanted s at rows octets used ≡ no r.number r.place

-- A layout from its kind on, with what a book says of it; nothing is learnt.
unfoldable pub layout_over : Book → List ℕ → ℕ → Read Layout
layout_over book s at = layout_at s (at + 4) then λ l end. learn book l (at + 4) then λ _ _. ok l end

-- A field that was asked for, over the used octets of those that are lent.
abbrev pub FieldAt : Asked → ℕ → Result Spot Refused → Type 0
FieldAt q n (Ok spot) = Spotted q.doc.now (take q.used q.book.now) (field_for q n) spot.attribute spot.value × (length (take q.used q.book.now) ≡ q.used)
FieldAt q n (Err r) = field_for q n ≡ no r.number r.place

-- A layout that was asked for, and an attribute of it: each has its own place in the document.
abbrev pub LayoutAt : Asked → Result ℕ Refused → Type 0
LayoutAt q = StandsAt q.doc.now (layout_at q.doc.now) (layout_for q)

abbrev pub AttributeAt : Asked → ℕ → Result ℕ Refused → Type 0
AttributeAt q n = StandsAt q.doc.now (attribute_at q.doc.now) (attribute_for q n)
