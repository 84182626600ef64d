-- Words that the lines of both halves are made of, and the checksum of a lent buffer.
use Rattle.std.specs.Prelude.{ℕ, ◌*◌, ◌%◌, ◌^◌, List, [], ◌∷◌, ◌++◌, bit_xor}
use Rattle.octets.specs.Writing.{word}
use Rattle.printing.specs.Text.{spelt, showing}
use Rattle.printing.specs.declared.Show.TheVariants.{Hex}

-- FNV-1a of 64 bits: each octet into the low bits, then a product with 2^40 + 435.
unfoldable pub sum_from : ℕ → List ℕ → ℕ
sum_from h [] = h
sum_from h (x ∷ xs) = sum_from (bit_xor h x * 0x100000001b3 % 2 ^ 64) xs

abbrev pub checksum : List ℕ → ℕ
checksum xs = sum_from 0xcbf29ce484222325 xs

-- A part behind a space: "-" for none, or its hex digits. A checksum behind a space.
abbrev pub part_text : List ℕ → List ℕ
part_text [] = spelt " -"
part_text (x ∷ xs) = spelt " " ++ showing Hex (x ∷ xs)

abbrev pub sum_text : List ℕ → List ℕ
sum_text xs = spelt " " ++ showing Hex (word 8 (checksum xs))
