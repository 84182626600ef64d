-- Scripts of calls: what the writer is given, the calls, what each answers (0 or a refusal's number, and the place), and what stands then. A refused call changes nothing, and the next goes on from there.
use Rattle.std.specs.Prelude.{ℕ, List, [], ◌∷◌, ◌++◌, Bool, true, false, ◌&&◌, length, take, replicate}
use Rattle.octets.specs.Limits.{book_room}
use Rattle.octets.specs.Reading.{Read, ok, no, same}
use Rattle.kinds.specs.declared.Basic.TheVariants as b
use Rattle.kinds.specs.Forms.{bits, held}
use Rattle.writer.specs.declared.Wanted.{Wanted}
use Rattle.writer.specs.declared.Wanted.TheVariants as wants
use Rattle.writer.specs.declared.State.{State}
use Rattle.writer.specs.Writer.{Call, recorder, start_time, default_namespace, namespace_count, uri, short_name, service_count, service, document_id}
use Rattle.writer.specs.Writer.{open_layout, type_name, attribute_count, attribute_name, attribute_type, open_row, value, close_row, give_up, finish, Written, order_of, call}

pub record Script : Type 0 where
  pub before : Written
  pub calls : List Call
  pub answers : List ℕ
  pub after : Written

abbrev script : Written → List Call → List ℕ → Written → Script
script before calls answers after = record { before = before; calls = calls; answers = answers; after = after }

abbrev state : ℕ → Wanted → ℕ → ℕ → ℕ → State
state place turn count start rows = record { place = place; turn = turn; count = count; start = start; rows = rows }

abbrev over : State → List ℕ → List ℕ → ℕ → Written
over s buffer book used = record { state = s; buffer = buffer; book = book; used = used }

-- A book with nothing in it; with the specimen's layout, which is layout 7; with layout 8, of a boolean and a derived string; with layout 9, of octets; with 16 octets left.
abbrev empty : List ℕ
empty = replicate book_room 9

abbrev seven_image : List ℕ
seven_image =
    0 ∷ 0 ∷ 0 ∷ 7 ∷ 0 ∷ 0 ∷ 0 ∷ 1 ∷ 65 ∷ 0 ∷ 0 ∷ 0 ∷ 2 ∷ 0 ∷ 0 ∷ 0 ∷ 1 ∷ 117 ∷ 0 ∷ 0 ∷ 0 ∷ 34 ∷ 0 ∷ 0 ∷ 0 ∷ 1 ∷ 100 ∷ 0 ∷ 0 ∷ 0 ∷ 42 ∷ []

abbrev seven : List ℕ
seven = seven_image ++ replicate 32737 9

abbrev eight : List ℕ
eight = 0 ∷ 0 ∷ 0 ∷ 8 ∷ 0 ∷ 0 ∷ 0 ∷ 0 ∷ 0 ∷ 0 ∷ 0 ∷ 2 ∷ 0 ∷ 0 ∷ 0 ∷ 1 ∷ 98 ∷ 0 ∷ 0 ∷ 0 ∷ 41 ∷ 0 ∷ 0 ∷ 0 ∷ 1 ∷ 115 ∷ 0 ∷ 0 ∷ 1 ∷ 40 ∷ replicate 32738 9

abbrev nine : List ℕ
nine = 0 ∷ 0 ∷ 0 ∷ 9 ∷ 0 ∷ 0 ∷ 0 ∷ 0 ∷ 0 ∷ 0 ∷ 0 ∷ 1 ∷ 0 ∷ 0 ∷ 0 ∷ 0 ∷ 0 ∷ 0 ∷ 0 ∷ 39 ∷ replicate 32748 9

abbrev full : List ℕ
full = 0 ∷ 0 ∷ 0 ∷ 1 ∷ 0 ∷ 0 ∷ 127 ∷ 228 ∷ replicate 32744 0 ++ (replicate 16 9)

-- That book with a layout 2 that fills it, and the layout.
abbrev two_image : List ℕ
two_image = 0 ∷ 0 ∷ 0 ∷ 2 ∷ 0 ∷ 0 ∷ 0 ∷ 4 ∷ 49 ∷ 50 ∷ 51 ∷ 52 ∷ 0 ∷ 0 ∷ 0 ∷ 0 ∷ []

abbrev filled : List ℕ
filled = 0 ∷ 0 ∷ 0 ∷ 1 ∷ 0 ∷ 0 ∷ 127 ∷ 228 ∷ replicate 32744 0 ++ two_image

-- All that stands, as one list; of the book its length and first 256 octets.
abbrev seen : Written → List ℕ
seen w =
    w.state.place ∷ order_of w.state.turn ∷ w.state.count ∷ w.state.start ∷ w.state.rows ∷ w.used ∷ length w.buffer ∷ length w.book
    ∷ w.buffer ++ take 256 w.book

abbrev go_on : Written → Read Written → (Written → List ℕ) → List ℕ
go_on w (ok v at) f = 0 ∷ at ∷ f v
go_on w (no n at) f = n ∷ at ∷ f w

-- What a script's calls answer, and what stands then.
unfoldable pub play : List Call → Written → List ℕ
play [] w = seen w
play (c ∷ rest) w = go_on w (call w.state w.buffer w.book w.used c) (play rest)

unfoldable pub plays : List Script → Bool
plays [] = true
plays (s ∷ rest) = same (play s.calls s.before) (s.answers ++ seen s.after) && plays rest

-- The specimen: its calls and its octets, part by part; and layout 7 up to its last type.
abbrev header_calls : List Call
header_calls = recorder [] ∷ start_time 86400 ∷ default_namespace [] ∷ namespace_count 0 ∷ service_count 0 ∷ document_id (replicate 16 0) ∷ []

abbrev layout_calls : List Call
layout_calls = open_layout 7 ∷ type_name (65 ∷ []) ∷ attribute_count 2 ∷ attribute_name (117 ∷ []) ∷ attribute_type 34 ∷ attribute_name (100 ∷ []) ∷ []

abbrev row_calls : Bool → ℕ → ℕ → List Call
row_calls stated u d = open_row 7 stated ∷ value b.UnsignedInt (bits u) ∷ value b.Byte (bits d) ∷ close_row ∷ []

abbrev header_octets : List ℕ
header_octets =
    0 ∷ 0 ∷ 0 ∷ 4 ∷ 0 ∷ 0 ∷ 0 ∷ 0 ∷ 0 ∷ 0 ∷ 0 ∷ 0 ∷ 0 ∷ 1 ∷ 81 ∷ 128 ∷ replicate 15 0 ++ (16 ∷ replicate 16 0 ++ (255 ∷ 255 ∷ 255 ∷ 255 ∷ []))

abbrev stated_octets : List ℕ
stated_octets = 0 ∷ 0 ∷ 0 ∷ 2 ∷ 0 ∷ 0 ∷ 0 ∷ 7 ∷ 0 ∷ 0 ∷ 0 ∷ 5 ∷ 0 ∷ 0 ∷ 0 ∷ 10 ∷ 254 ∷ []

abbrev unstated_octets : List ℕ
unstated_octets = 0 ∷ 0 ∷ 0 ∷ 2 ∷ 0 ∷ 0 ∷ 0 ∷ 7 ∷ 255 ∷ 255 ∷ 255 ∷ 255 ∷ 0 ∷ 0 ∷ 0 ∷ 0 ∷ 127 ∷ []

abbrev end_octets : ℕ → List ℕ
end_octets rows = 0 ∷ 0 ∷ 0 ∷ 3 ∷ 0 ∷ 0 ∷ 0 ∷ rows ∷ 0 ∷ 0 ∷ 0 ∷ 0 ∷ 0 ∷ 1 ∷ 81 ∷ 129 ∷ []

-- A header with two namespaces and two services, part by part.
abbrev list_calls : List Call
list_calls =
    recorder (114 ∷ 101 ∷ 99 ∷ []) ∷ start_time 18446744073709551615 ∷ default_namespace (110 ∷ 115 ∷ []) ∷ namespace_count 2
    ∷ uri (97 ∷ []) ∷ short_name (98 ∷ []) ∷ uri (99 ∷ []) ∷ service (120 ∷ []) ∷ short_name [] ∷ service_count 2 ∷ service (115 ∷ []) ∷ service (116 ∷ []) ∷ []

abbrev names_octets : List ℕ
names_octets =
    0 ∷ 0 ∷ 0 ∷ 4 ∷ 0 ∷ 0 ∷ 0 ∷ 3 ∷ 114 ∷ 101 ∷ 99 ∷ 255 ∷ 255 ∷ 255 ∷ 255 ∷ 255 ∷ 255 ∷ 255 ∷ 255 ∷ 0 ∷ 0 ∷ 0 ∷ 2 ∷ 110 ∷ 115 ∷ []

abbrev lists_octets : List ℕ
lists_octets =
    0 ∷ 0 ∷ 0 ∷ 2 ∷ 0 ∷ 0 ∷ 0 ∷ 1 ∷ 97 ∷ 0 ∷ 0 ∷ 0 ∷ 1 ∷ 98 ∷ 0 ∷ 0 ∷ 0 ∷ 1 ∷ 99 ∷ 0 ∷ 0 ∷ 0 ∷ 0
    ∷ 0 ∷ 0 ∷ 0 ∷ 2 ∷ 0 ∷ 0 ∷ 0 ∷ 1 ∷ 115 ∷ 0 ∷ 0 ∷ 0 ∷ 1 ∷ 116 ∷ []

abbrev id_octets : List ℕ
id_octets = 0 ∷ 1 ∷ 2 ∷ 3 ∷ 4 ∷ 5 ∷ 6 ∷ 7 ∷ 8 ∷ 9 ∷ 10 ∷ 11 ∷ 12 ∷ 13 ∷ 14 ∷ 15 ∷ []

unfoldable pub scripts : List Script
scripts =
    -- The specimen, into a buffer with three octets more.
    script (over (state 0 wants.Recorder 0 0 0) (replicate 140 5) empty 0)
    (header_calls ++ (layout_calls ++ (attribute_type 42 ∷ row_calls true 10 254 ++ (row_calls false 0 127 ++ (finish 86401 ∷ [])))))
    (0 ∷ 8 ∷ 0 ∷ 16 ∷ 0 ∷ 20 ∷ 0 ∷ 24 ∷ 0 ∷ 28 ∷ 0 ∷ 52 ∷ 0 ∷ 60 ∷ 0 ∷ 65 ∷ 0 ∷ 69 ∷ 0 ∷ 74 ∷ 0 ∷ 78 ∷ 0 ∷ 83 ∷ 0 ∷ 87 ∷ 0 ∷ 99 ∷ 0 ∷ 103 ∷ 0 ∷ 104 ∷ 0 ∷ 104 ∷ 0 ∷ 116 ∷ 0 ∷ 120 ∷ 0 ∷ 121 ∷ 0 ∷ 121 ∷ 0 ∷ 137 ∷ [])
    (over (state 137 wants.Nothing 0 0 2) (header_octets ++ (0 ∷ 0 ∷ 0 ∷ 1 ∷ seven_image ++ (stated_octets ++ (unstated_octets ++ (end_octets 2 ++ (5 ∷ 5 ∷ 5 ∷ [])))))) seven 31)
    -- Lists in the header, and a call out of turn among them.
    ∷ script (over (state 0 wants.Recorder 0 0 0) (replicate 120 5) empty 0)
    (list_calls ++ (document_id id_octets ∷ []))
    (0 ∷ 11 ∷ 0 ∷ 19 ∷ 0 ∷ 25 ∷ 0 ∷ 29 ∷ 0 ∷ 34 ∷ 0 ∷ 39 ∷ 0 ∷ 44 ∷ 20 ∷ 44 ∷ 0 ∷ 48 ∷ 0 ∷ 52 ∷ 0 ∷ 57 ∷ 0 ∷ 62 ∷ 0 ∷ 86 ∷ [])
    (over (state 86 wants.Element 0 0 0) (names_octets ++ (lists_octets ++ (0 ∷ 0 ∷ 0 ∷ 16 ∷ id_octets ++ (255 ∷ 255 ∷ 255 ∷ 255 ∷ replicate 34 5)))) empty 0)
    -- 17 comes before 20, at the place of writing.
    ∷ script (over (state 50 wants.Recorder 0 0 0) (replicate 20 5) empty 1)
    (recorder [] ∷ [])
    (17 ∷ 50 ∷ [])
    (over (state 50 wants.Recorder 0 0 0) (replicate 20 5) empty 1)
    -- A place at the room's end is 23, and no 20.
    ∷ script (over (state 20 wants.Element 0 0 0) (replicate 20 5) empty 0)
    (finish 0 ∷ open_layout 1 ∷ [])
    (23 ∷ 20 ∷ 23 ∷ 20 ∷ [])
    (over (state 20 wants.Element 0 0 0) (replicate 20 5) empty 0)
    -- An open layout's first octets that just reach the place; given up, they are zero.
    ∷ script (over (state 12 wants.TypeName 0 4 0) (replicate 40 5) empty 0)
    (type_name [] ∷ give_up ∷ [])
    (0 ∷ 16 ∷ 0 ∷ 4 ∷ [])
    (over (state 4 wants.Element 0 0 0) (5 ∷ 5 ∷ 5 ∷ 5 ∷ 0 ∷ 0 ∷ 0 ∷ 0 ∷ 0 ∷ 0 ∷ 0 ∷ 0 ∷ 0 ∷ 0 ∷ 0 ∷ 0 ∷ replicate 24 5) empty 0)
    -- A count over its limit.
    ∷ script (over (state 20 wants.AttributeName 65 0 0) (replicate 40 5) empty 0)
    (attribute_name [] ∷ give_up ∷ [])
    (20 ∷ 20 ∷ 20 ∷ 20 ∷ [])
    (over (state 20 wants.AttributeName 65 0 0) (replicate 40 5) empty 0)
    -- 4 comes before 23.
    ∷ script (over (state 3 wants.NamespaceCount 0 0 0) (5 ∷ 5 ∷ 5 ∷ 5 ∷ 5 ∷ 5 ∷ []) empty 0)
    (namespace_count 17 ∷ namespace_count 16 ∷ namespace_count 0 ∷ [])
    (4 ∷ 3 ∷ 23 ∷ 3 ∷ 23 ∷ 3 ∷ [])
    (over (state 3 wants.NamespaceCount 0 0 0) (5 ∷ 5 ∷ 5 ∷ 5 ∷ 5 ∷ 5 ∷ []) empty 0)
    -- A document id of another length is 5, before 23.
    ∷ script (over (state 0 wants.DocumentId 0 0 0) (replicate 20 5) empty 0)
    (document_id (replicate 15 0) ∷ document_id (replicate 17 0) ∷ document_id (replicate 16 0) ∷ [])
    (5 ∷ 0 ∷ 5 ∷ 0 ∷ 23 ∷ 0 ∷ [])
    (over (state 0 wants.DocumentId 0 0 0) (replicate 20 5) empty 0)
    -- 8 and 9 come before 23; a derived type is none of them.
    ∷ script (over (state 8 wants.AttributeType 2 0 0) (5 ∷ 5 ∷ 5 ∷ 5 ∷ 5 ∷ 5 ∷ 5 ∷ 5 ∷ []) empty 0)
    (attribute_type 32 ∷ attribute_type 65570 ∷ attribute_type 2147483682 ∷ attribute_type 4294967295 ∷ attribute_type 2338 ∷ [])
    (8 ∷ 8 ∷ 8 ∷ 8 ∷ 9 ∷ 8 ∷ 9 ∷ 8 ∷ 23 ∷ 8 ∷ [])
    (over (state 8 wants.AttributeType 2 0 0) (5 ∷ 5 ∷ 5 ∷ 5 ∷ 5 ∷ 5 ∷ 5 ∷ 5 ∷ []) empty 0)
    -- An open row whose layout the book does not have.
    ∷ script (over (state 12 wants.Value 0 0 0) (replicate 40 5) seven 31)
    (value b.UnsignedInt (bits 1) ∷ close_row ∷ give_up ∷ [])
    (12 ∷ 12 ∷ 12 ∷ 12 ∷ 0 ∷ 0 ∷ [])
    (over (state 0 wants.Element 0 0 0) (0 ∷ 0 ∷ 0 ∷ 0 ∷ 0 ∷ 0 ∷ 0 ∷ 0 ∷ 0 ∷ 0 ∷ 0 ∷ 0 ∷ replicate 28 5) seven 31)
    -- A value of another kind, a boolean that is not 0 or 1, a row closed too early, no field left.
    ∷ script (over (state 0 wants.Element 0 0 0) (replicate 40 5) eight 30)
    (open_row 8 true ∷ value b.Byte (bits 1) ∷ value b.Boolean (bits 2) ∷ close_row ∷ value b.Boolean (bits 1) ∷ value b.HexBinary (held []) ∷ close_row ∷ value b.String (held (104 ∷ 105 ∷ [])) ∷ value b.String (held []) ∷ close_row ∷ close_row ∷ [])
    (0 ∷ 12 ∷ 21 ∷ 12 ∷ 21 ∷ 12 ∷ 22 ∷ 12 ∷ 0 ∷ 13 ∷ 21 ∷ 13 ∷ 22 ∷ 13 ∷ 0 ∷ 19 ∷ 21 ∷ 19 ∷ 0 ∷ 19 ∷ 20 ∷ 19 ∷ [])
    (over (state 19 wants.Element 0 0 1) (0 ∷ 0 ∷ 0 ∷ 2 ∷ 0 ∷ 0 ∷ 0 ∷ 8 ∷ 0 ∷ 0 ∷ 0 ∷ 7 ∷ 1 ∷ 0 ∷ 0 ∷ 0 ∷ 2 ∷ 104 ∷ 105 ∷ replicate 21 5) eight 30)
    -- A layout seen again whose last type differs, in its derived octet alone too; then equal.
    ∷ script (over (state 0 wants.Element 0 0 0) (replicate 60 5) seven 31)
    (layout_calls ++ (attribute_type 43 ∷ attribute_type 2346 ∷ attribute_type 42 ∷ open_row 7 true ∷ []))
    (0 ∷ 8 ∷ 0 ∷ 13 ∷ 0 ∷ 17 ∷ 0 ∷ 22 ∷ 0 ∷ 26 ∷ 0 ∷ 31 ∷ 10 ∷ 31 ∷ 10 ∷ 31 ∷ 0 ∷ 35 ∷ 0 ∷ 47 ∷ [])
    (over (state 47 wants.Value 0 35 0) (0 ∷ 0 ∷ 0 ∷ 1 ∷ seven_image ++ (0 ∷ 0 ∷ 0 ∷ 2 ∷ 0 ∷ 0 ∷ 0 ∷ 7 ∷ 0 ∷ 0 ∷ 0 ∷ 0 ∷ replicate 13 5)) seven 31)
    -- 10 comes before 23.
    ∷ script (over (state 17 wants.AttributeCount 0 0 0) (0 ∷ 0 ∷ 0 ∷ 1 ∷ 0 ∷ 0 ∷ 0 ∷ 7 ∷ 0 ∷ 0 ∷ 0 ∷ 1 ∷ 66 ∷ 5 ∷ 5 ∷ 5 ∷ 5 ∷ []) seven 31)
    (attribute_count 0 ∷ [])
    (10 ∷ 17 ∷ [])
    (over (state 17 wants.AttributeCount 0 0 0) (0 ∷ 0 ∷ 0 ∷ 1 ∷ 0 ∷ 0 ∷ 0 ∷ 7 ∷ 0 ∷ 0 ∷ 0 ∷ 1 ∷ 66 ∷ 5 ∷ 5 ∷ 5 ∷ 5 ∷ []) seven 31)
    -- A new layout that passes 32,768 octets.
    ∷ script (over (state 17 wants.AttributeCount 0 0 0) (0 ∷ 0 ∷ 0 ∷ 1 ∷ 0 ∷ 0 ∷ 0 ∷ 2 ∷ 0 ∷ 0 ∷ 0 ∷ 5 ∷ 49 ∷ 50 ∷ 51 ∷ 52 ∷ 53 ∷ 5 ∷ 5 ∷ 5 ∷ 5 ∷ 5 ∷ 5 ∷ 5 ∷ 5 ∷ 5 ∷ []) full 32752)
    (attribute_count 0 ∷ [])
    (11 ∷ 17 ∷ [])
    (over (state 17 wants.AttributeCount 0 0 0) (0 ∷ 0 ∷ 0 ∷ 1 ∷ 0 ∷ 0 ∷ 0 ∷ 2 ∷ 0 ∷ 0 ∷ 0 ∷ 5 ∷ 49 ∷ 50 ∷ 51 ∷ 52 ∷ 53 ∷ 5 ∷ 5 ∷ 5 ∷ 5 ∷ 5 ∷ 5 ∷ 5 ∷ 5 ∷ 5 ∷ []) full 32752)
    -- One that just fills them.
    ∷ script (over (state 16 wants.AttributeCount 0 0 0) (0 ∷ 0 ∷ 0 ∷ 1 ∷ 0 ∷ 0 ∷ 0 ∷ 2 ∷ 0 ∷ 0 ∷ 0 ∷ 4 ∷ 49 ∷ 50 ∷ 51 ∷ 52 ∷ 5 ∷ 5 ∷ 5 ∷ 5 ∷ 5 ∷ 5 ∷ 5 ∷ 5 ∷ 5 ∷ []) full 32752)
    (attribute_count 0 ∷ [])
    (0 ∷ 20 ∷ [])
    (over (state 20 wants.Element 0 0 0) (0 ∷ 0 ∷ 0 ∷ 1 ∷ two_image ++ replicate 5 5) filled book_room)
    -- 23 at the call that completes a layout leaves the book as it was.
    ∷ script (over (state 8 wants.AttributeCount 0 0 0) (0 ∷ 0 ∷ 0 ∷ 1 ∷ 0 ∷ 0 ∷ 0 ∷ 7 ∷ 5 ∷ 5 ∷ 5 ∷ []) empty 0)
    (attribute_count 0 ∷ [])
    (23 ∷ 8 ∷ [])
    (over (state 8 wants.AttributeCount 0 0 0) (0 ∷ 0 ∷ 0 ∷ 1 ∷ 0 ∷ 0 ∷ 0 ∷ 7 ∷ 5 ∷ 5 ∷ 5 ∷ []) empty 0)
    -- A row given up is not counted.
    ∷ script (over (state 0 wants.Element 0 0 0) (replicate 60 5) seven 31)
    (open_row 7 true ∷ value b.UnsignedInt (bits 10) ∷ give_up ∷ row_calls true 10 254 ++ (finish 86401 ∷ []))
    (0 ∷ 12 ∷ 0 ∷ 16 ∷ 0 ∷ 0 ∷ 0 ∷ 12 ∷ 0 ∷ 16 ∷ 0 ∷ 17 ∷ 0 ∷ 17 ∷ 0 ∷ 33 ∷ [])
    (over (state 33 wants.Nothing 0 0 1) (stated_octets ++ (end_octets 1 ++ replicate 27 5)) seven 31)
    -- Values beyond the layout's fields count as none missing.
    ∷ script (over (state 14 wants.Value 9 0 0) (0 ∷ 0 ∷ 0 ∷ 2 ∷ 0 ∷ 0 ∷ 0 ∷ 7 ∷ 0 ∷ 0 ∷ 0 ∷ 3 ∷ 5 ∷ 5 ∷ 5 ∷ 5 ∷ 5 ∷ 5 ∷ 5 ∷ 5 ∷ 5 ∷ []) seven 31)
    (value b.UnsignedInt (bits 1) ∷ close_row ∷ [])
    (21 ∷ 14 ∷ 0 ∷ 14 ∷ [])
    (over (state 14 wants.Element 0 0 1) (0 ∷ 0 ∷ 0 ∷ 2 ∷ 0 ∷ 0 ∷ 0 ∷ 7 ∷ 0 ∷ 0 ∷ 0 ∷ 2 ∷ 5 ∷ 5 ∷ 5 ∷ 5 ∷ 5 ∷ 5 ∷ 5 ∷ 5 ∷ 5 ∷ []) seven 31)
    -- A string in an old code is 24, before 23 whatever its length, and can be given anew.
    ∷ script (over (state 0 wants.Recorder 0 0 0) (replicate 9 5) empty 0)
    (recorder (0xe9 ∷ []) ∷ recorder (0xe9 ∷ replicate 20 65) ∷ recorder (0xc3 ∷ 0xa9 ∷ []) ∷ recorder (65 ∷ []) ∷ [])
    (24 ∷ 0 ∷ 24 ∷ 0 ∷ 23 ∷ 0 ∷ 0 ∷ 9 ∷ [])
    (over (state 9 wants.StartTime 0 0 0) (0 ∷ 0 ∷ 0 ∷ 4 ∷ 0 ∷ 0 ∷ 0 ∷ 1 ∷ 65 ∷ []) empty 0)
    -- Names of a layout, which stays open.
    ∷ script (over (state 8 wants.TypeName 0 0 0) (replicate 40 5) empty 0)
    (type_name (0xed ∷ 0xa0 ∷ 0x80 ∷ []) ∷ type_name [] ∷ attribute_count 1 ∷ attribute_name (0xc0 ∷ 0x80 ∷ []) ∷ attribute_name (0xf0 ∷ 0x9f ∷ 0x98 ∷ 0x80 ∷ []) ∷ give_up ∷ [])
    (24 ∷ 8 ∷ 0 ∷ 12 ∷ 0 ∷ 16 ∷ 24 ∷ 16 ∷ 0 ∷ 24 ∷ 0 ∷ 0 ∷ [])
    (over (state 0 wants.Element 0 0 0) (replicate 24 0 ++ replicate 16 5) empty 0)
    -- A value: 21 comes before 24, and a derived string is a string.
    ∷ script (over (state 0 wants.Element 0 0 0) (replicate 40 5) eight 30)
    (open_row 8 true ∷ value b.String (held (0xff ∷ [])) ∷ value b.Boolean (bits 1) ∷ value b.String (held (0xff ∷ [])) ∷ value b.String (held (0xc3 ∷ 0xa9 ∷ [])) ∷ close_row ∷ [])
    (0 ∷ 12 ∷ 21 ∷ 12 ∷ 0 ∷ 13 ∷ 24 ∷ 13 ∷ 0 ∷ 19 ∷ 0 ∷ 19 ∷ [])
    (over (state 19 wants.Element 0 0 1) (0 ∷ 0 ∷ 0 ∷ 2 ∷ 0 ∷ 0 ∷ 0 ∷ 8 ∷ 0 ∷ 0 ∷ 0 ∷ 7 ∷ 1 ∷ 0 ∷ 0 ∷ 0 ∷ 2 ∷ 0xc3 ∷ 0xa9 ∷ replicate 21 5) eight 30)
    -- hexBinary is free.
    ∷ script (over (state 0 wants.Element 0 0 0) (replicate 20 5) nine 20)
    (open_row 9 false ∷ value b.HexBinary (held (0xff ∷ [])) ∷ close_row ∷ [])
    (0 ∷ 12 ∷ 0 ∷ 17 ∷ 0 ∷ 17 ∷ [])
    (over (state 17 wants.Element 0 0 1) (0 ∷ 0 ∷ 0 ∷ 2 ∷ 0 ∷ 0 ∷ 0 ∷ 9 ∷ 255 ∷ 255 ∷ 255 ∷ 255 ∷ 0 ∷ 0 ∷ 0 ∷ 1 ∷ 0xff ∷ 5 ∷ 5 ∷ 5 ∷ []) nine 20)
    -- Octets of an open layout that stand already are taken as they are; the book is then none.
    ∷ script (over (state 13 wants.AttributeCount 0 0 0) (0 ∷ 0 ∷ 0 ∷ 1 ∷ 0 ∷ 0 ∷ 0 ∷ 9 ∷ 0 ∷ 0 ∷ 0 ∷ 1 ∷ 0xe9 ∷ replicate 20 5) empty 0)
    (attribute_count 0 ∷ finish 0 ∷ [])
    (0 ∷ 17 ∷ 17 ∷ 17 ∷ [])
    (over (state 17 wants.Element 0 0 0) (0 ∷ 0 ∷ 0 ∷ 1 ∷ 0 ∷ 0 ∷ 0 ∷ 9 ∷ 0 ∷ 0 ∷ 0 ∷ 1 ∷ 0xe9 ∷ 0 ∷ 0 ∷ 0 ∷ 0 ∷ replicate 16 5)
    (0 ∷ 0 ∷ 0 ∷ 9 ∷ 0 ∷ 0 ∷ 0 ∷ 1 ∷ 0xe9 ∷ 0 ∷ 0 ∷ 0 ∷ 0 ∷ replicate 32755 9) 13)
    ∷ []
