-- Times before 1970 are answered as negative numbers: those whose eight octets are all FF are -1. Computed.
use mathlib.Core.Path.{◌≡◌, refl}
use mathlib.Core.List.{List, ◌++◌}
use Prim.Native.Nat.{ℕ}
use lib.IntN.{negsuc}
use lib.ListN.{replicate}
use Rattle.octets.specs.Reading.{be, part, number_in, count, exactly, run}
use Rattle.octets.specs.Writing.{word}
use Rattle.utf8.specs.Utf8.{spells, utf8}
use Rattle.texts.specs.Texts.{octets_in, led_in}
use Rattle.kinds.specs.Kinds.{signed}
use Rattle.headers.specs.Header.{namespace_at, id_at, header_from, header_at}
use Rattle.elements.specs.Element.{finish}
use Rattle.elements.specs.Answers.{met_of}
use Rattle.elements.specs.declared.Met.TheVariants as met
use Rattle.reading.specs.Answers.{head_tells}
use Rattle.std.specs.Prelude.{Ok}

-- A header with nothing in it but its start.
abbrev started : List ℕ → List ℕ
started time = word 4 4 ++ word 4 0 ++ time ++ replicate 12 0 ++ word 4 16 ++ replicate 16 0 ++ replicate 4 0xff

pub start_earlier : head_tells (header_at (started (replicate 8 0xff))) ≡ Ok (record { start = negsuc 0; namespaces = 0; services = 0; next = 52 })
unfolding word be part number_in spells utf8 octets_in led_in count exactly run namespace_at id_at header_from header_at signed
start_earlier = refl

pub end_earlier : (n : ℕ) → met_of (finish n (be 8 (replicate 8 0xff) 0)) ≡ met.End n (negsuc 0)
unfolding be signed
end_earlier n = refl
