-- What the answers about a field say.
use Rattle.std.specs.Prelude.{ℕ, ◌+◌, ◌-◌, min, ◌≡◌, List, [], ◌∷◌, ◌++◌, true, false, length, take, drop, leb, Option, Some, None, Result, Ok, Err}
use Rattle.std.proofs.Math.Option.{some, none}
use Rattle.std.proofs.Math.Option as found
use Rattle.octets.specs.Limits.{longest}
use Rattle.octets.specs.Reading.{be}
use Rattle.octets.specs.Writing.{over}
use Rattle.octets.specs.Faults.{number_of}
use Rattle.octets.specs.declared.Fault as octets
use Rattle.layouts.specs.Layout.{Attribute, Layout}
use Rattle.layouts.specs.Book.{Book, book_in, learning}
use Rattle.layouts.specs.declared.Learning.{Learning}
use Rattle.layouts.specs.declared.Learning.TheVariants as learned
use Rattle.writing_parts.specs.declared.Next.{Next}
use Rattle.writing_parts.specs.declared.Next.TheVariants as next
use Rattle.writing_parts.specs.Faults.{Fault, Refused, fine, unless, ◌or◌}

-- Octets that fit in the room are laid from the place on; others leave everything.
abbrev pub Puts : List ℕ → List ℕ → ℕ → List ℕ → Option ℕ → Type 0
Puts buffer after at xs (Some next) =
    (leb (at + length xs) (min (length buffer) longest) ≡ true) × (next ≡ at + length xs) × (after ≡ over buffer at xs)
Puts buffer after at xs None = (leb (at + length xs) (min (length buffer) longest) ≡ false) × (after ≡ buffer)

-- The first of the fields left, and field n of a row whose layout was looked up.
abbrev pub first_of : List Attribute → Next
first_of [] = next.Missing
first_of (a ∷ rest) = next.Of a.kind.basic

abbrev pub next_of : found.Option Layout → ℕ → Next
next_of none n = next.Unknown
next_of (some l) n = first_of (drop n l.attributes)

-- What a book makes of a layout's octets, by the number that they begin with: its refusal, if it is one, and what the book takes of them.
abbrev pub learning_of : Book → ℕ → List ℕ → Result Learning octets.Fault
learning_of book used xs = learning book used (be 4 xs 0) xs

abbrev pub refusal : Result Learning octets.Fault → Fault
refusal (Ok l) = fine
refusal (Err f) = Refused (number_of f)

abbrev pub added : Result Learning octets.Fault → List ℕ → List ℕ
added (Ok learned.Known) xs = []
added (Ok (learned.New v)) xs = xs
added (Err f) xs = []

-- A layout's octets from its number on, of which the last are still to be put.
abbrev pub whole : List ℕ → ℕ → ℕ → List ℕ → List ℕ
whole buffer from at xs = take (at - from) (drop from buffer) ++ xs

-- What completing a layout answers and leaves: its refusal, else 23 where its last octets do not fit in the room.
abbrev pub Completes : (buffer after lent held : List ℕ) → ℕ → ℕ → ℕ → List ℕ → Result (ℕ × ℕ) octets.Fault → Type 0
Completes buffer after lent held used from at xs (Ok (next, total)) =
    (refusal (learning_of (book_in lent used) used (whole buffer from at xs)) ≡ fine) × Puts buffer after at xs (Some next)
    × (total ≡ used + length (added (learning_of (book_in lent used) used (whole buffer from at xs)) (whole buffer from at xs)))
    × (held ≡ over lent used (added (learning_of (book_in lent used) used (whole buffer from at xs)) (whole buffer from at xs)))
Completes buffer after lent held used from at xs (Err f) =
    (refusal (learning_of (book_in lent used) used (whole buffer from at xs)) or unless (leb (at + length xs) (min (length buffer) longest)) 23
    ≡ Refused (number_of f)) × (after ≡ buffer) × (held ≡ lent)
