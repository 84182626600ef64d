-- The kinds of elements and their numbers.
use Rattle.std.specs.Prelude.{ℕ, ◌≡◌, Result, Ok, Err}
use Rattle.octets.specs.declared.Fault.{Fault}
use Rattle.octets.specs.declared.Fault.TheVariants as fault
use Rattle.elements.specs.declared.ElementKind.{ElementKind}
use Rattle.elements.specs.declared.ElementKind.TheVariants as kind

abbrev pub number_of_kind : ElementKind → ℕ
number_of_kind kind.Layout = 1
number_of_kind kind.Row = 2
number_of_kind kind.End = 3

-- The kind of a number, or 7 where no kind has it.
abbrev pub OfNumber : ℕ → Result ElementKind Fault → Type 0
OfNumber n (Ok k) = number_of_kind k ≡ n
OfNumber n (Err f) = (f ≡ fault.Kind) × ((k : ElementKind) → number_of_kind k ≡ n → ⊥)
