-- What the answers about a type say.
use Rattle.std.specs.Prelude.{ℕ, ◌+◌, ◌≤◌, ◌≡◌, Result, Ok, Err}
use Rattle.std.proofs.Math.Option.{none}
use Rattle.octets.specs.Reading.{Read, ok, no}
use Rattle.octets.specs.Faults.{number_of}
use Rattle.octets.specs.declared.Fault.{Fault}
use Rattle.octets.specs.declared.Fault.TheVariants as fault
use Rattle.octets.specs.declared.Refused.{Refused}
use Rattle.kinds.specs.Kinds.{code_of, basic_of}
use Rattle.kinds.specs.declared.Basic.{Basic}
use Rattle.kinds.specs.declared.Kind.{Kind}

-- The basic type of a low octet, or 8 where the table has none.
abbrev pub Coded : ℕ → Result Basic Fault → Type 0
Coded code (Ok b) = code_of b ≡ code
Coded code (Err f) = (f ≡ fault.Type) × (basic_of code ≡ none)

-- A type number that stands at a place, with the place behind it.
abbrev pub kinds : ℕ → ℕ → Result Kind Fault → Read Kind
kinds at next (Ok k) = ok k next
kinds at next (Err f) = no (number_of f) at

-- The type at a place, and the place four octets behind it.
abbrev pub kind_says : ℕ → Result Kind Refused → Read Kind
kind_says at (Ok k) = ok k (at + 4)
kind_says at (Err r) = no r.number r.place

-- A type that was read passes no end.
abbrev pub Fitting : ℕ → Result Kind Refused → ℕ → Type 0
Fitting at (Ok k) end = at + 4 ≤ end
Fitting at (Err r) end = Unit {0}
