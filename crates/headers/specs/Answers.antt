-- What the answers about a header say.
use Rattle.std.specs.Prelude.{ℕ, ◌+◌, ◌≤◌, ◌≡◌, List, length, Result, Ok, Err}
use Rattle.octets.specs.Limits.{longest}
use Rattle.octets.specs.Reading.{Read, ok, no, number, run}
use Rattle.octets.specs.declared.Refused.{Refused}
use Rattle.texts.specs.Texts.{text}
use Rattle.headers.specs.Header.{Header, namespace_at, id_at}
use Rattle.headers.specs.declared.Places.{Places}

-- Where a header's fields stand: each is read from its place, and the next stands behind it.
pub record Located (s : List ℕ) (h : Header) (p : Places) : Type 0 where
  pub recorder : text s 4 ≡ ok h.recorder p.start
  pub start : number 8 s p.start ≡ ok h.start (p.start + 8)
  pub default : text s (p.start + 8) ≡ ok h.default p.namespaces
  pub namespaces : number 4 s p.namespaces ≡ ok (length h.others) (p.namespaces + 4)
  pub others : run (namespace_at s) (length h.others) (p.namespaces + 4) ≡ ok h.others p.services
  pub counted : number 4 s p.services ≡ ok (length h.services) (p.services + 4)
  pub services : run (text s) (length h.services) (p.services + 4) ≡ ok h.services p.id
  pub id : id_at s p.id ≡ ok h.id (p.id + 20)

-- What was read of a document that is not too long is a header with the places of its fields; or its refusal.
pub record Accepted (s : List ℕ) (read : Read Header) (p : Places) : Type 0 where
  pub header : Header
  pub reads : read ≡ ok header p.end
  pub located : Located s header p
  pub short : length s ≤ longest

abbrev pub Locates : List ℕ → Read Header → Result Places Refused → Type 0
Locates s read (Ok p) = Accepted s read p
Locates s read (Err r) = read ≡ no r.number r.place
