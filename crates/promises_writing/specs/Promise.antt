-- The promise of the writer: the calls that give a document, what they leave, and what a run of any calls has told and left.
use Rattle.std.specs.Prelude.{ℕ, ◌^◌, ◌<◌, max, ◌≡◌, List, [], ◌∷◌, ◌++◌, length, drop, replicate}
use Rattle.octets.specs.Reading.{Read, ok, no, choose}
use Rattle.octets.specs.Writing.{Each, Octet}
use Rattle.kinds.specs.Kinds.{number_of}
use Rattle.layouts.specs.Layout.{Attribute, Layout}
use Rattle.layouts.specs.Book.{Book, find, is_none, book_image, book_of}
use Rattle.rows.specs.Row.{Field}
use Rattle.kinds.specs.Forms.{Value, bits, held}
use Rattle.headers.specs.Header.{Namespace, Header}
use Rattle.elements.specs.Element.{Item, layout, row}
use Rattle.elements.specs.Document.{Document, image, row_count, Good}
use Rattle.writer.specs.declared.Wanted.TheVariants as wants
use Rattle.writer.specs.declared.State.{State}
use Rattle.writer.specs.Writer.{Call, recorder, start_time, default_namespace, namespace_count, uri, short_name, service_count, service, document_id, open_layout, type_name, attribute_count, attribute_name, attribute_type, open_row, value, close_row, give_up, finish, Written, fresh, call, run_calls}

-- The calls for a list's items, one after another.
abbrev pub each : {A : Type 0} → (A → List Call) → List A → List Call
each f [] = []
each f (a ∷ rest) = f a ++ each f rest

abbrev pub namespace_calls : Namespace → List Call
namespace_calls n = uri n.uri ∷ short_name n.short ∷ []

abbrev pub service_calls : List ℕ → List Call
service_calls xs = service xs ∷ []

-- A header's fields in image order, each count ahead of its list. The version and the four octets FF are the writer's own.
unfoldable pub header_calls : Header → List Call
header_calls h =
    (recorder h.recorder ∷ start_time h.start ∷ default_namespace h.default ∷ namespace_count (length h.others) ∷ [])
    ++ (each namespace_calls h.others ++ ((service_count (length h.services) ∷ []) ++ (each service_calls h.services ++ (document_id h.id ∷ []))))

abbrev pub attribute_calls : Attribute → List Call
attribute_calls a = attribute_name a.name ∷ attribute_type (number_of a.kind) ∷ []

-- A value with its basic type; the field's name and type are its layout's.
abbrev pub field_calls : Field → List Call
field_calls f = value f.attribute.kind.basic f.value ∷ []

-- A layout is completed by its last type, or by a count of none; a row is closed.
abbrev pub item_calls : Item → List Call
item_calls (layout l) =
    (open_layout l.number ∷ type_name l.type_name ∷ attribute_count (length l.attributes) ∷ []) ++ each attribute_calls l.attributes
item_calls (row r) = (open_row r.number r.is_stated ∷ []) ++ (each field_calls r.fields ++ (close_row ∷ []))

-- The calls that give a document: its fields one at a time in image order, all counts stated ahead. The end count is the writer's own.
unfoldable pub calls_of : Document → List Call
calls_of d = header_calls d.header ++ (each item_calls d.items ++ (finish d.end ∷ []))

-- The book with a layout behind it; one whose number is there already adds nothing.
unfoldable pub with_layout : Book → Layout → Book
with_layout b l = choose (is_none (find l.number b)) (λ _. b ++ l ∷ []) (λ _. b)

-- The book behind items: it takes each layout when it is completed.
abbrev pub book_behind : Book → List Item → Book
book_behind b [] = b
book_behind b (layout l ∷ rest) = book_behind (with_layout b l) rest
book_behind b (row r ∷ rest) = book_behind b rest

-- From where the image is promised: a fresh state and an empty book, over a lent buffer and lent octets for the book.
abbrev pub begun : List ℕ → List ℕ → Written
begun buffer book = record { state = fresh; buffer = buffer; book = book; used = 0 }

-- Octets at the start of a lent list; all behind them is as lent.
abbrev pub onto : List ℕ → List ℕ → List ℕ
onto lent xs = xs ++ drop (length xs) lent

-- A document written whole: its image at the buffer's start with the place behind it, nothing more wanted, its rows counted, and the book of its layouts; octets behind the place are as lent.
unfoldable pub finished : Document → List ℕ → List ℕ → Written
finished d buffer book =
    record {
      state = record { place = length (image d); turn = wants.Nothing; count = 0; start = 0; rows = row_count d.items };
      buffer = onto buffer (image d);
      book = onto book (book_image (book_behind [] d.items));
      used = length (book_image (book_behind [] d.items));
    }

-- Calls whose strings are of octets and whose numbers fit their fields: all that code can give. A number that the call itself tests is free.
abbrev pub GivenValue : Value → Type 0
GivenValue (bits n) = Unit {0}
GivenValue (held xs) = Each Octet xs

abbrev pub Given : Call → Type 0
Given (recorder xs) = Each Octet xs
Given (start_time n) = n < 2 ^ 64
Given (default_namespace xs) = Each Octet xs
Given (namespace_count n) = Unit {0}
Given (uri xs) = Each Octet xs
Given (short_name xs) = Each Octet xs
Given (service_count n) = Unit {0}
Given (service xs) = Each Octet xs
Given (document_id xs) = Each Octet xs
Given (open_layout n) = n < 2 ^ 32
Given (type_name xs) = Each Octet xs
Given (attribute_count n) = Unit {0}
Given (attribute_name xs) = Each Octet xs
Given (attribute_type t) = Unit {0}
Given (open_row n stated) = n < 2 ^ 32
Given (value b v) = GivenValue v
Given close_row = Unit {0}
Given give_up = Unit {0}
Given (finish n) = n < 2 ^ 64

-- What a call makes of what was told: one call more; a layout or row opened; the open one taken back.
pub data Bearing : Type 0 where
  more : Bearing
  opening : Bearing
  back : Bearing

abbrev pub bearing : Call → Bearing
bearing (recorder xs) = more
bearing (start_time n) = more
bearing (default_namespace xs) = more
bearing (namespace_count n) = more
bearing (uri xs) = more
bearing (short_name xs) = more
bearing (service_count n) = more
bearing (service xs) = more
bearing (document_id xs) = more
bearing (open_layout n) = opening
bearing (type_name xs) = more
bearing (attribute_count n) = more
bearing (attribute_name xs) = more
bearing (attribute_type t) = more
bearing (open_row n stated) = opening
bearing (value b v) = more
bearing close_row = more
bearing give_up = back
bearing (finish n) = more

-- A call that is no giving up.
abbrev pub Forward : Call → Type 0
Forward c = bearing c ≡ back → ⊥

-- What was told: the calls before the layout or row that was opened last, and those from its opening on.
pub record Account : Type 0 where
  pub settled : List Call
  pub latest : List Call

abbrev pub adds : Account → Call → Account
adds t c = record { settled = t.settled; latest = t.latest ++ c ∷ [] }

abbrev pub opens : Account → Call → Account
opens t c = record { settled = t.settled ++ t.latest; latest = c ∷ [] }

-- One call more. Giving up takes back all from the opening on.
abbrev pub tell_as : Bearing → Account → Call → Account
tell_as more t c = adds t c
tell_as opening t c = opens t c
tell_as back t c = record { settled = t.settled; latest = [] }

abbrev pub tell : Account → Call → Account
tell t c = tell_as (bearing c) t c

abbrev pub tell_all : Account → List Call → Account
tell_all t [] = t
tell_all t (c ∷ rest) = tell_all (tell t c) rest

-- Before any call.
abbrev pub nothing_told : Account
nothing_told = record { settled = []; latest = [] }

-- The calls without those of a layout or row that was given up.
unfoldable pub kept_calls : List Call → List Call
kept_calls calls =
    let t = tell_all nothing_told calls in
    t.settled ++ t.latest

-- A run of calls: what was last answered and left, the calls that were accepted, and the farthest place from which an element was given up (0: none was).
pub record Run : Type 0 where
  pub now : Written
  pub accepted : List Call
  pub farthest : ℕ

-- The farthest place behind one call more, which was made at a place.
abbrev pub farther_as : Bearing → ℕ → ℕ → ℕ
farther_as more far place = far
farther_as opening far place = far
farther_as back far place = max far place

abbrev pub farther : ℕ → State → Call → ℕ
farther far s c = farther_as (bearing c) far s.place

-- A call's answer in a run. A refused call changes nothing, and the run goes on.
abbrev pub answering : Run → Call → Read Written → Run
answering r c (ok w at) = record { now = w; accepted = r.accepted ++ c ∷ []; farthest = farther r.farthest r.now.state c }
answering r c (no n at) = r

-- Calls one after another, each given the state, the buffer, the book and the used count last answered, whether or not it is then accepted.
unfoldable pub goes_on : Run → List Call → Run
goes_on r [] = r
goes_on r (c ∷ rest) = goes_on (answering r c (call r.now.state r.now.buffer r.now.book r.now.used c)) rest

-- From a fresh state and an empty book.
abbrev pub begins : List ℕ → List ℕ → Run
begins buffer book = record { now = begun buffer book; accepted = []; farthest = 0 }

abbrev pub ran : List Call → List ℕ → List ℕ → Run
ran calls buffer book = goes_on (begins buffer book) calls

-- A lent buffer with zeroes at its start, as far as a place.
abbrev pub cleared : List ℕ → ℕ → List ℕ
cleared buffer n = onto buffer (replicate n 0)

-- What holds at every point of a run, whatever was refused and given up on the way: the accepted calls alone leave all that stands; behind the place the octets are zero as far as the farthest place from which an element was given up, and as lent behind; and the book is one that the next call takes.
pub record Going (buffer book : List ℕ) (r : Run) : Type 0 where
  pub alone : run_calls r.accepted (begun buffer book) ≡ ok r.now r.now.state.place
  pub behind : drop r.now.state.place r.now.buffer ≡ drop r.now.state.place (cleared buffer r.farthest)
  pub layouts : Book
  pub again : book_of r.now.book r.now.used ≡ ok layouts r.now.used

-- What a finished run has written: a document inside the limits, which is just what the accepted calls told. All stands as where that document is written with nothing refused or given up, over a buffer lent with zeroes as far as the farthest place from which an element was given up.
pub record Wrote (buffer book : List ℕ) (r : Run) : Type 0 where
  pub document : Document
  pub good : Good document
  pub said : kept_calls r.accepted ≡ calls_of document
  pub left : r.now ≡ finished document (cleared buffer r.farthest) book
