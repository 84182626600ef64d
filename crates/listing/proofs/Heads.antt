-- What an answer about the header says of its reading, and where an accepted header ends.
use Prim.Native.Nat.{ℕ, ◌≤◌}
use mathlib.Core.Path.{◌≡◌, refl, ap}
use mathlib.Core.List.{List}
use native.Mathlib.Omega.{arith}
use lib.ListN.{length}
use lib.Dec.{leb}
use borrow.Author.Tests.{leb-true}
use Rattle.octets.specs.Limits.{longest}
use Rattle.octets.specs.Reading.{Read, ok, no}
use Rattle.octets.specs.Writing.{Each, Octet}
use Rattle.octets.proofs.Inverse.{chosen}
use Rattle.headers.specs.Header.{Header, header_from, header_at}
use Rattle.headers.proofs.Headers.{header_inverse}
use Rattle.reading.specs.Answers.{head_of, head_tells}
use Rattle.reading.specs.declared.Head.{Head}
use Rattle.octets.specs.declared.Refused.{Refused}
use Rattle.std.specs.Prelude.{Ok, Err}

pub headed_as : (r : Read Header) (head : Head) → head_tells r ≡ Ok head → (h : Header) × (next : ℕ) × (r ≡ ok h next) × (head_of h next ≡ head)
headed_as (ok h next) head e = (h, next, refl, (let same : head_of h next ≡ head = cc in same))
headed_as (no n p) head e = absurd (let z : ◌≡◌ {A = ℕ} 0 1 = cc in omega arith)

pub header_place : (s : List ℕ) → Each Octet s → (h : Header) (next : ℕ) → header_at s ≡ ok h next → (next ≤ length s) × (length s ≤ longest)
unfolding header_at
header_place s o h next e =
    let (t, from) = chosen (leb (length s) longest) (λ _. header_from s 0) 2 0 e in
    let (fits, good, spans) = (header_inverse s).forth o (omega arith) from in
    (spans.inside, leb-true (length s) longest t)
