-- One step over a lent book.
use Rattle.std.specs.Prelude.{ℕ, List, ◌++◌, length, drop, leb}
use Rattle.octets.specs.Limits.{longest, most_rows}
use Rattle.octets.specs.Reading.{Read, ok, no, ◌then◌, choose}
use Rattle.layouts.specs.Book.{Book, book_image, book_of}
use Rattle.elements.specs.Element.{Stepped, element_at}

-- Lent octets with a book at their start; what is behind it is as it was.
abbrev pub holding : Book → List ℕ → List ℕ
holding book octets = book_image book ++ drop (length (book_image book)) octets

-- What a step leaves in the lent octets: the book behind it, and after a refusal all as it was.
abbrev pub octets_left : List ℕ → Read Stepped → List ℕ
octets_left octets (ok st next) = holding st.book octets
octets_left octets (no n p) = octets

-- What stands before every step: 2 for the document, then 17 for the book and the rows passed.
unfoldable pub lent_book : List ℕ → ℕ → List ℕ → ℕ → Read Book
lent_book s rows octets used =
    choose (leb (length s) longest)
    (λ _. book_of octets used then λ book end. choose (leb rows most_rows) (λ _. ok book end) (λ _. no 17 0))
    (λ _. no 2 0)

-- One step: a document, a place, the rows passed, a lent book and how much of it is used.
unfoldable pub step_at : List ℕ → ℕ → ℕ → List ℕ → ℕ → Read Stepped
step_at s at rows octets used = lent_book s rows octets used then λ book _. element_at s at rows book
