-- The fault of a call: nothing against it, or the number of a refusal. It has no place: all refusals of a call have one, which its answer gives.
use Rattle.std.specs.Prelude.{ℕ, Bool, Result, Ok, Err}
use Rattle.octets.specs.Reading.{Read, ok, no, choose}
use Rattle.octets.specs.Faults.{number_of}
use Rattle.octets.specs.declared.Fault as octets

pub data Fault : Type 0 where
  None : Fault
  Refused : ℕ → Fault

-- What a function of the code says of it: a fault by its number.
abbrev pub faulted : Result (Unit {0}) octets.Fault → Fault
faulted (Ok u) = None
faulted (Err f) = Refused (number_of f)

abbrev pub fine : Fault
fine = None

-- Fine where the test holds, else refused.
abbrev pub unless : Bool → ℕ → Fault
unless t n = choose t (λ _. fine) (λ _. Refused n)

-- The number that refuses a reading.
abbrev pub refused_by : {A : Type 0} → Read A → Fault
refused_by (ok a next) = fine
refused_by (no n p) = Refused n

infixl 20 ◌or◌
-- The first of two faults.
abbrev pub ◌or◌ : Fault → Fault → Fault
◌or◌ None g = g
◌or◌ (Refused n) g = Refused n
