-- What the answers about an element say.
use Rattle.std.specs.Prelude.{ℕ, ◌+◌, ◌≤◌, ◌<◌, ◌≡◌, List, length, Result, Ok, Err}
use Rattle.octets.specs.Reading.{Read, ok, no, be}
use Rattle.octets.specs.Refusals.{Refusal}
use Rattle.kinds.specs.Kinds.{signed}
use Rattle.layouts.specs.Book.{Book, book_image}
use Rattle.layouts.specs.Answers.{Looks}
use Rattle.layouts.specs.declared.Looked.{Looked}
use Rattle.elements.specs.Element as element
use Rattle.elements.specs.declared.Met.{Met}
use Rattle.elements.specs.declared.Met.TheVariants as met
use Rattle.elements.specs.declared.Step.{Step}

-- What an element says: a layout's number and count of attributes, a row's number, whether its length is stated and its count of fields, the end's count and its time, which is signed.
abbrev pub met_of : element.Element → Met
met_of (element.item (element.layout l)) = met.Layout l.number (length l.attributes)
met_of (element.item (element.row r)) = met.Row r.number r.is_stated (length r.fields)
met_of (element.finish n t) = met.End n (signed 8 t)

-- What a step says: the element, the next place, the new row count and the new used count.
abbrev pub step_of : element.Stepped → ℕ → Step
step_of st next = record { met = met_of st.element; next = next; rows = st.rows; used = length (book_image st.book) }

-- The one answer to what was read.
abbrev pub tells : Read element.Stepped → Result Step Refusal
tells (ok st next) = Ok (step_of st next)
tells (no n p) = Err (record { number = n; place = p })

-- A book that uses so many octets and whose layouts stand in s, and where the number that stands at a place of a document was looked up among them.
pub record Over (doc : List ℕ) (at : ℕ) (s : List ℕ) (looked : Looked) (used : ℕ) (book : Book) : Type 0 where
  pub number : ℕ
  pub is : at + 4 ≤ length doc → number ≡ be 4 doc at
  pub looks : Looks s number book looked
  pub size : length (book_image book) ≡ used

-- The element at a place, which ends at another, is a layout that is new to a book.
pub record Grows (s : List ℕ) (at next : ℕ) (book : Book) : Type 0 where
  pub rows : ℕ
  pub stepped : element.Stepped
  pub reads : element.element_at s at rows book ≡ ok stepped next
  pub more : length (book_image book) < length (book_image stepped.book)
