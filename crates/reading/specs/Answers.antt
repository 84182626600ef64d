-- What the entry points of reading answer: the one answer to what the definitions give.
use Rattle.std.specs.Prelude.{ℕ, length, Result, Ok, Err}
use Rattle.octets.specs.Reading.{Read, ok, no}
use Rattle.octets.specs.Refusals.{Refusal}
use Rattle.kinds.specs.Kinds.{signed}
use Rattle.headers.specs.Header.{Header}
use Rattle.elements.specs.declared.Step.{Step}
use Rattle.reading.specs.declared.Head.{Head}

-- The header's numbers: the start time, which is signed, the counts of both lists, and the place behind the header.
abbrev pub head_of : Header → ℕ → Head
head_of h next = record { start = signed 8 h.start; namespaces = length h.others; services = length h.services; next = next }

abbrev pub head_tells : Read Header → Result Head Refusal
head_tells (ok h next) = Ok (head_of h next)
head_tells (no n p) = Err (record { number = n; place = p })

-- The whole check's row count.
abbrev pub check_tells : Read ℕ → Result ℕ Refusal
check_tells (ok n end) = Ok n
check_tells (no n p) = Err (record { number = n; place = p })

-- A step that is refused.
abbrev pub Refuses : Result Step Refusal → Type 0
Refuses (Ok s) = ⊥
Refuses (Err r) = Unit {0}
