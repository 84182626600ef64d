-- The listing of a document: the lines of its header and of its elements, as octets.
use Rattle.std.specs.Prelude.{ℕ, List, [], ◌++◌, length, leb}
use Rattle.std.proofs.Math.Option.{Option, some, none}
use Rattle.octets.specs.Reading.{Read, ok, no, choose}
use Rattle.octets.specs.Writing.{images}
use Rattle.kinds.specs.Kinds.{signed}
use Rattle.headers.specs.Header.{Header, header_at}
use Rattle.elements.specs.Walk.{Stop, ended, refused, Walk, Spot, spot_at, through}
use Rattle.elements.specs.Reading.{elements_of}
use Rattle.printing.specs.Text.{spelt}
use Rattle.lines.specs.Lines.{header_text, element_text, refusal_text}

-- What stands behind the elements' lines: that of a refusal, or nothing.
abbrev pub stop_text : Option Stop → List ℕ
stop_text none = []
stop_text (some (ended n t next)) = []
stop_text (some (refused n p)) = refusal_text n p

-- The lines of a walk: a line for each element met, and the refusal that it came to as the last.
abbrev pub lines_of : Walk Spot → List ℕ
lines_of w = images (λ p. element_text p.place p.element) (elements_of w.seen w.spot.at w.stop) ++ stop_text w.stop

-- The listing of a document: the header's line and those of the elements from an empty book, or the header's refusal.
abbrev pub listing_by : List ℕ → Read Header → List ℕ
listing_by s (ok h next) = header_text (signed 8 h.start) ++ lines_of (through s (spot_at next 0 []))
listing_by s (no n p) = refusal_text n p

abbrev pub listing : List ℕ → List ℕ
listing s = listing_by s (header_at s)

-- The only line of an input over the limit.
abbrev pub too_long_text : List ℕ
too_long_text = spelt "input too long\n"

-- What the program prints of its input: the listing of a document of at most 65,536 octets.
abbrev pub listed : List ℕ → List ℕ
listed s = choose (leb (length s) 65536) (λ _. listing s) (λ _. too_long_text)
