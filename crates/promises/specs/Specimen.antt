-- The scope's specimen, a change to it, and lent books.
use Rattle.std.specs.Prelude.{ℕ, List, [], ◌∷◌, ◌++◌, take, drop, replicate}
use Rattle.octets.specs.Limits.{book_room}
use Rattle.octets.specs.Reading.{part}

-- The specimen: the header, the layout at 52, the rows at 87 and 104, the end at 121.
unfoldable pub specimen : List ℕ
specimen =
    0 ∷ 0 ∷ 0 ∷ 4 ∷ 0 ∷ 0 ∷ 0 ∷ 0 ∷ 0 ∷ 0 ∷ 0 ∷ 0 ∷ 0 ∷ 1 ∷ 0x51 ∷ 0x80 ∷ 0 ∷ 0 ∷ 0 ∷ 0 ∷ 0 ∷ 0 ∷ 0 ∷ 0 ∷ 0 ∷ 0 ∷ 0 ∷ 0
    ∷ 0 ∷ 0 ∷ 0 ∷ 16 ∷ 0 ∷ 0 ∷ 0 ∷ 0 ∷ 0 ∷ 0 ∷ 0 ∷ 0 ∷ 0 ∷ 0 ∷ 0 ∷ 0 ∷ 0 ∷ 0 ∷ 0 ∷ 0 ∷ 0xff ∷ 0xff ∷ 0xff ∷ 0xff
    ∷ 0 ∷ 0 ∷ 0 ∷ 1 ∷ 0 ∷ 0 ∷ 0 ∷ 7 ∷ 0 ∷ 0 ∷ 0 ∷ 1 ∷ 0x41 ∷ 0 ∷ 0 ∷ 0 ∷ 2 ∷ 0 ∷ 0 ∷ 0 ∷ 1 ∷ 0x75 ∷ 0 ∷ 0 ∷ 0 ∷ 0x22 ∷ 0 ∷ 0 ∷ 0 ∷ 1 ∷ 0x64 ∷ 0 ∷ 0 ∷ 0 ∷ 0x2a
    ∷ 0 ∷ 0 ∷ 0 ∷ 2 ∷ 0 ∷ 0 ∷ 0 ∷ 7 ∷ 0 ∷ 0 ∷ 0 ∷ 5 ∷ 0 ∷ 0 ∷ 0 ∷ 10 ∷ 0xfe
    ∷ 0 ∷ 0 ∷ 0 ∷ 2 ∷ 0 ∷ 0 ∷ 0 ∷ 7 ∷ 0xff ∷ 0xff ∷ 0xff ∷ 0xff ∷ 0 ∷ 0 ∷ 0 ∷ 0 ∷ 127
    ∷ 0 ∷ 0 ∷ 0 ∷ 3 ∷ 0 ∷ 0 ∷ 0 ∷ 2 ∷ 0 ∷ 0 ∷ 0 ∷ 0 ∷ 0 ∷ 1 ∷ 0x51 ∷ 0x81 ∷ []

-- The specimen with "d" a short, of the values FFFE and 007F: 139 octets, the second row at 105, the end at 123.
unfoldable pub shorts : List ℕ
unfolding specimen
shorts =
    take 86 specimen ++ 0x2c ∷ part specimen 87 11 ++ 6 ∷ part specimen 99 4 ++ 0xff ∷ 0xfe ∷ part specimen 104 16 ++ 0 ∷ 127 ∷ drop 121 specimen

-- The layout of each in a lent book of 32,768 octets, and a lent book with nothing in it.
unfoldable pub layout_book : List ℕ
unfolding specimen
layout_book = part specimen 56 31 ++ replicate 32737 0

unfoldable pub short_book : List ℕ
unfolding specimen shorts
short_book = part shorts 56 31 ++ replicate 32737 0

unfoldable pub empty_book : List ℕ
empty_book = replicate book_room 0
