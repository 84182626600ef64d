-- The writer: what one call answers and leaves, from every state whatever.
use Rattle.std.specs.Prelude.{ℕ, ◌+◌, ◌-◌, ◌^◌, min, List, [], ◌∷◌, ◌++◌, Bool, true, false, ◌&&◌, length, drop, replicate, leb, ltb, eqb, Result, Ok}
use Rattle.std.proofs.Math.Option.{Option, some, none}
use Rattle.octets.specs.Limits.{longest, most_rows, most_attributes, most_listed}
use Rattle.octets.specs.Reading.{Read, ok, no, ◌then◌, choose, is_ok, be, part}
use Rattle.octets.specs.Writing.{word, over}
use Rattle.octets.specs.declared.Fault as octets
use Rattle.texts.specs.Texts as texts
use Rattle.texts.specs.Texts.{holds, led_image}
use Rattle.texts.specs.declared.Rule.{Rule}
use Rattle.texts.specs.declared.Rule.TheVariants.{Characters}
use Rattle.kinds.specs.declared.Basic.{Basic}
use Rattle.kinds.specs.declared.Form.{Form}
use Rattle.kinds.specs.declared.Form.TheVariants as form
use Rattle.kinds.specs.declared.Value as given
use Rattle.kinds.specs.Kinds.{code_of, form_by, kind_of}
use Rattle.kinds.specs.Values.{basic_of_value, bits_of_value}
use Rattle.layouts.specs.Layout.{Attribute, Layout}
use Rattle.layouts.specs.Book.{Book, find, book_of, book_in}
use Rattle.rows.specs.Row.{length_image}
use Rattle.kinds.specs.Forms.{Value, bits, held, value_image}
use Rattle.layouts.specs.declared.Learning.{Learning}
use Rattle.layouts.specs.declared.Learning.TheVariants as learned
use Rattle.writing_parts.specs.Faults as faults
use Rattle.writing_parts.specs.Faults.{Fault, fine, unless, refused_by, ◌or◌}
use Rattle.writing_parts.specs.Answers.{learning_of, refusal, added}
use Rattle.writer.specs.declared.Wanted.{Wanted}
use Rattle.writer.specs.declared.Wanted.TheVariants as wants
use Rattle.writer.specs.declared.State.{State}
use Rattle.writer.specs.declared.Asks.{Asks}

-- A call: a field in image order, each count ahead of what it counts; an element opened or closed; the open one given up; the finish.
pub data Call : Type 0 where
  recorder : List ℕ → Call
  start_time : ℕ → Call
  default_namespace : List ℕ → Call
  namespace_count : ℕ → Call
  uri : List ℕ → Call
  short_name : List ℕ → Call
  service_count : ℕ → Call
  service : List ℕ → Call
  document_id : List ℕ → Call
  open_layout : ℕ → Call
  type_name : List ℕ → Call
  attribute_count : ℕ → Call
  attribute_name : List ℕ → Call
  attribute_type : ℕ → Call
  open_row : ℕ → Bool → Call
  value : Basic → Value → Call
  close_row : Call
  give_up : Call
  finish : ℕ → Call

-- A value of a form, by its number's bits and its octets, of which the form has one.
abbrev pub in_form : Form → ℕ → List ℕ → Value
in_form (form.Fixed w) n xs = bits n
in_form form.Truth n xs = bits n
in_form (form.Led rule) n xs = held xs

-- The call that gives a value as reading hands it out, with its octets beside it.
abbrev pub value_call : given.Value → List ℕ → Call
value_call v xs = value (basic_of_value v) (in_form (form_by (basic_of_value v)) (bits_of_value v) xs)

-- What an accepted call leaves: the state and used count that it answers, the whole buffer and the whole book.
pub record Written : Type 0 where
  pub state : State
  pub buffer : List ℕ
  pub book : List ℕ
  pub used : ℕ

-- A fresh state, from which the image is promised.
abbrev pub fresh : State
fresh = record { place = 0; turn = wants.Recorder; count = 0; start = 0; rows = 0 }

-- Room is the lesser of the buffer and 1,048,576.
unfoldable pub room : ℕ → ℕ
room size = min size longest

-- The first octets of an open layout, its kind and number; of an open row its length too; none where no element is open.
abbrev pub layout_head : ℕ
layout_head = 8

abbrev pub row_head : ℕ
row_head = 12

abbrev pub no_head : ℕ
no_head = 0

-- What a turn asks of a state: the least and the most of its count, and the first octets of what is open. A list's turn has something to come, and no more than its limit; elsewhere the greatest limit bounds the count.
abbrev pub listed : ℕ → ℕ → Asks
listed most head = record { least = 1; most = most; head = head }

abbrev pub single : ℕ → Asks
single head = record { least = 0; most = most_attributes; head = head }

abbrev pub asks : Wanted → Asks
asks wants.Recorder = single no_head
asks wants.StartTime = single no_head
asks wants.DefaultNamespace = single no_head
asks wants.NamespaceCount = single no_head
asks wants.Uri = listed most_listed no_head
asks wants.ShortName = listed most_listed no_head
asks wants.ServiceCount = single no_head
asks wants.Service = listed most_listed no_head
asks wants.DocumentId = single no_head
asks wants.Element = single no_head
asks wants.TypeName = single layout_head
asks wants.AttributeCount = single layout_head
asks wants.AttributeName = listed most_attributes layout_head
asks wants.AttributeType = listed most_attributes layout_head
asks wants.Value = single row_head
asks wants.Nothing = single no_head

-- A turn's place in the order of a document, by which turns are compared.
abbrev pub order_of : Wanted → ℕ
order_of wants.Recorder = 0
order_of wants.StartTime = 1
order_of wants.DefaultNamespace = 2
order_of wants.NamespaceCount = 3
order_of wants.Uri = 4
order_of wants.ShortName = 5
order_of wants.ServiceCount = 6
order_of wants.Service = 7
order_of wants.DocumentId = 8
order_of wants.Element = 9
order_of wants.TypeName = 10
order_of wants.AttributeCount = 11
order_of wants.AttributeName = 12
order_of wants.AttributeType = 13
order_of wants.Value = 14
order_of wants.Nothing = 15

abbrev pub same_turn : Wanted → Wanted → Bool
same_turn t u = eqb (order_of t) (order_of u)

-- Whether a layout or a row is open.
abbrev pub is_open : Wanted → Bool
is_open t = ltb 0 (asks t).head

-- Refusal 20 is for a state whose place passes the room, whose counts pass the limits, or whose open layout's first 8 or row's first 12 octets pass the place; this is one that does none of it, over a buffer of so many octets.
unfoldable pub bounded : State → ℕ → Bool
bounded s size =
    leb s.place (room size) && leb (asks s.turn).least s.count && leb s.count (asks s.turn).most && leb s.rows most_rows
    && choose (is_open s.turn) (λ _. leb (s.start + (asks s.turn).head) s.place) (λ _. true)

-- What a call is: whether it is its turn, its own fault, the octets that it puts and where, the state behind it, and whether it completes a layout.
pub record Deed : Type 0 where
  pub in_turn : Bool
  pub fault : Fault
  pub at : ℕ
  pub octets : List ℕ
  pub next : State
  pub completes : Bool

-- Octets in a turn behind what is already written; the turn and the count that follow, and where the open element starts.
abbrev pub put : State → Wanted → Fault → List ℕ → Wanted → ℕ → ℕ → Deed
put s turn fault xs next count start =
    record {
      in_turn = same_turn s.turn turn;
      fault = fault;
      at = s.place;
      octets = xs;
      next = record { place = s.place + length xs; turn = next; count = count; start = start; rows = s.rows };
      completes = false;
    }

-- A field of what is open, or of the header.
abbrev pub puts : State → Wanted → Fault → List ℕ → Wanted → ℕ → Deed
puts s turn fault xs next count = put s turn fault xs next count s.start

-- The first octets of an element, which starts at the place.
abbrev pub opens : State → Fault → List ℕ → Wanted → Deed
opens s fault xs next = put s wants.Element fault xs next 0 s.place

-- Between two elements.
abbrev pub between : ℕ → ℕ → State
between place rows = record { place = place; turn = wants.Element; count = 0; start = 0; rows = rows }

-- Octets of a layout behind which so many attributes are still to come: a layout is completed by its last type, or by a count of none.
abbrev pub attributes : State → Wanted → Fault → List ℕ → ℕ → Deed
attributes s turn fault xs left =
    record {
      in_turn = same_turn s.turn turn;
      fault = fault;
      at = s.place;
      octets = xs;
      next = choose (eqb left 0) (λ _. between (s.place + length xs) s.rows)
          (λ _. record { place = s.place + length xs; turn = wants.AttributeName; count = left; start = s.start; rows = s.rows });
      completes = eqb left 0;
    }

-- The turn of a list with something still to come, else the turn behind it.
abbrev pub turn_at : ℕ → Wanted → Wanted → Wanted
turn_at n more behind = choose (eqb n 0) (λ _. behind) (λ _. more)

-- Refusal 24, as in reading: octets that are not what their rule asks; of a value, where its form has octets.
abbrev pub breach : Rule → List ℕ → Fault
breach rule xs = unless (holds rule xs) (texts.fault rule)

abbrev pub value_breach : Form → Value → Fault
value_breach (form.Fixed w) v = fine
value_breach form.Truth v = fine
value_breach (form.Led rule) (bits n) = fine
value_breach (form.Led rule) (held xs) = breach rule xs

-- The count of a list of the header, and the last string of an item of it: one less is to come.
abbrev pub counts : State → Wanted → ℕ → Wanted → Wanted → Deed
counts s turn n more behind = puts s turn (unless (leb n most_listed) 4) (word 4 n) (turn_at n more behind) n

abbrev pub lists : State → Wanted → List ℕ → Wanted → Wanted → Deed
lists s turn xs more behind = puts s turn (breach Characters xs) (led_image xs) (turn_at (s.count - 1) more behind) (s.count - 1)

-- Refusal 12: a layout that is not in the book; one that is there has the fault that is asked of it.
abbrev pub in_book : Option Layout → (Layout → Fault) → Fault
in_book none ask = faults.Refused 12
in_book (some l) ask = ask l

-- The open row's layout, by the number that stands in the row.
unfoldable pub row_layout : State → List ℕ → Book → Option Layout
row_layout s buffer book = find (be 4 buffer (s.start + 4)) book

-- A value that a form has an image for: a number that fits its octets, a boolean that is 0 or 1, octets behind a length.
abbrev pub suits : Form → Value → Bool
suits (form.Fixed w) (bits n) = ltb n (256 ^ w)
suits (form.Fixed w) (held xs) = false
suits form.Truth (bits n) = leb n 1
suits form.Truth (held xs) = false
suits (form.Led rule) (bits n) = false
suits (form.Led rule) (held xs) = true

-- Refusal 21 is for a value whose kind is not the next field's basic type, or with no field left; this is one of that type, over the fields left.
abbrev pub is_next : List Attribute → Basic → Value → Bool
is_next [] b v = false
is_next (a ∷ rest) b v = eqb (code_of a.kind.basic) (code_of b) && suits (form_by b) v

-- Each call. Version, the four octets FF and the end count are the writer's own. Refusals 4, 5, 8, 9, 12 and 24 are as in reading; 21 stands between 12 and 24 for a value, 22 is for a row closed with fields missing.
-- A stated row length stands as zero until the row is closed. Giving up sets the open element's octets to zero and moves the place back to its start; its row is not counted.
unfoldable pub does : State → List ℕ → Book → Call → Deed
does s buffer book (recorder xs) = puts s wants.Recorder (breach Characters xs) (word 4 4 ++ led_image xs) wants.StartTime 0
does s buffer book (start_time n) = puts s wants.StartTime fine (word 8 n) wants.DefaultNamespace 0
does s buffer book (default_namespace xs) = puts s wants.DefaultNamespace (breach Characters xs) (led_image xs) wants.NamespaceCount 0
does s buffer book (namespace_count n) = counts s wants.NamespaceCount n wants.Uri wants.ServiceCount
does s buffer book (uri xs) = puts s wants.Uri (breach Characters xs) (led_image xs) wants.ShortName s.count
does s buffer book (short_name xs) = lists s wants.ShortName xs wants.Uri wants.ServiceCount
does s buffer book (service_count n) = counts s wants.ServiceCount n wants.Service wants.DocumentId
does s buffer book (service xs) = lists s wants.Service xs wants.Service wants.DocumentId
does s buffer book (document_id xs) =
    puts s wants.DocumentId (unless (eqb (length xs) 16) 5) (word 4 16 ++ xs ++ word 4 0xffffffff) wants.Element 0
does s buffer book (open_layout n) = opens s fine (word 4 1 ++ word 4 n) wants.TypeName
does s buffer book (type_name xs) = puts s wants.TypeName (breach Characters xs) (led_image xs) wants.AttributeCount 0
does s buffer book (attribute_count n) = attributes s wants.AttributeCount (unless (leb n most_attributes) 4) (word 4 n) n
does s buffer book (attribute_name xs) = puts s wants.AttributeName (breach Characters xs) (led_image xs) wants.AttributeType s.count
does s buffer book (attribute_type t) =
    attributes s wants.AttributeType (refused_by (kind_of s.place t (s.place + 4))) (word 4 t) (s.count - 1)
does s buffer book (open_row n stated) =
    opens s (in_book (find n book) λ _. fine) (word 4 2 ++ word 4 n ++ length_image stated 0) wants.Value
does s buffer book (value b v) =
    puts s wants.Value (in_book (row_layout s buffer book) λ l. unless (is_next (drop s.count l.attributes) b v) 21 or value_breach (form_by b) v)
    (value_image (form_by b) v) wants.Value (s.count + 1)
does s buffer book close_row =
    record {
      in_turn = same_turn s.turn wants.Value;
      fault = in_book (row_layout s buffer book) λ l. unless (leb (length l.attributes) s.count) 22;
      at = s.start + 8;
      octets = length_image (ltb (be 4 buffer (s.start + 8)) 0xffffffff) (s.place - (s.start + 12));
      next = between s.place (s.rows + 1);
      completes = false;
    }
does s buffer book give_up =
    record {
      in_turn = is_open s.turn;
      fault = fine;
      at = s.start;
      octets = replicate (s.place - s.start) 0;
      next = between s.start s.rows;
      completes = false;
    }
does s buffer book (finish n) = puts s wants.Element fine (word 4 3 ++ word 4 s.rows ++ word 8 n) wants.Nothing 0

-- The octets of the open layout from its number on, with those of the call behind them.
unfoldable pub layout_so_far : State → List ℕ → List ℕ → List ℕ
layout_so_far s buffer xs = part buffer (s.start + 4) (s.place - (s.start + 4)) ++ xs

-- What the book makes of the layout that a call completes; one that completes none gives it nothing to learn, as a layout that is known.
abbrev pub learns : State → List ℕ → Book → ℕ → Deed → Result Learning octets.Fault
learns s buffer book used d = choose d.completes (λ _. learning_of book used (layout_so_far s buffer d.octets)) (λ _. Ok learned.Known)

-- The first fault of a call: 17, for the book; 20, for a state out of its bounds or a call out of turn; its own; 10 and 11, where it completes a layout; last 23, its octets do not fit in the room.
unfoldable pub fault_of : State → List ℕ → List ℕ → ℕ → Deed → Fault
fault_of s buffer lent used d =
    unless (is_ok (book_of lent used)) 17
    or unless (bounded s (length buffer) && d.in_turn) 20
    or d.fault
    or refusal (learns s buffer (book_in lent used) used d)
    or unless (leb (d.at + length d.octets) (room (length buffer))) 23

-- What the book then takes of that layout, and all that a call without fault leaves.
abbrev pub taken : State → List ℕ → Book → ℕ → Deed → List ℕ
taken s buffer book used d = added (learns s buffer book used d) (layout_so_far s buffer d.octets)

abbrev pub left_by : State → List ℕ → List ℕ → ℕ → Book → Deed → Written
left_by s buffer lent used book d =
    record {
      state = d.next;
      buffer = over buffer d.at d.octets;
      book = over lent used (taken s buffer book used d);
      used = used + length (taken s buffer book used d);
    }

-- A refusal has the place of writing; all else is accepted.
abbrev pub answer_by : Fault → ℕ → Written → Read Written
answer_by faults.None at w = ok w w.state.place
answer_by (faults.Refused n) at w = no n at

-- What comes of a deed.
unfoldable pub deed_answer : State → List ℕ → List ℕ → ℕ → Deed → Read Written
deed_answer s buffer lent used d = answer_by (fault_of s buffer lent used d) s.place (left_by s buffer lent used (book_in lent used) d)

-- One call: the state, the buffer, the lent book and how much of it is used, and what is given.
unfoldable pub call : State → List ℕ → List ℕ → ℕ → Call → Read Written
call s buffer lent used c = deed_answer s buffer lent used (does s buffer (book_in lent used) c)

-- Calls in order, each given what the one before answered, to the first refusal.
unfoldable pub run_calls : List Call → Written → Read Written
run_calls [] w = ok w w.state.place
run_calls (c ∷ rest) w = call w.state w.buffer w.book w.used c then λ v _. run_calls rest v
