-- What stands at each turn where every call was accepted since the fresh state, by what was told; and that a call which puts octets keeps it so.
-- The octets of an element are those of the calls from its opening on; behind the place all is as in a buffer that the run could have begun with. Assumes nothing.
use Prim.Native.Nat.{ℕ, ◌+◌, ◌^◌, ◌≤◌, ◌<◌}
use mathlib.Core.Path.{◌≡◌, ◌∙◌, subst}
use mathlib.Core.List.{List, [], ◌∷◌, ◌++◌}
use mathlib.Core.Bool.{true}
use mathlib.Core.Option.{some}
use native.Mathlib.Omega.{arith}
use lib.ListN.{length, take, drop, length-append, length-drop}
use Rattle.octets.specs.Limits.{longest}
use Rattle.octets.specs.Writing.{images}
use Rattle.texts.specs.Texts.{GoodText}
use Rattle.layouts.specs.Layout.{Layout, GoodLayout}
use Rattle.layouts.specs.Book.{Book, find, book_image, GoodBook}
use Rattle.rows.specs.Row.{Row, FieldsOf}
use Rattle.headers.specs.Header.{Header, header_image, GoodHeader}
use Rattle.elements.specs.Element.{Item}
use Rattle.elements.specs.Document.{Document, item_image, row_count, image, GoodItems, Good}
use Rattle.writing_parts.specs.Faults.{Fault}
use Rattle.writer.specs.declared.Wanted.{Wanted}
use Rattle.writer.specs.declared.Wanted.TheVariants as wants
use Rattle.writer.specs.Writer.{Call, recorder, start_time, default_namespace, namespace_count, uri, service_count, open_layout, type_name, attribute_count, attribute_name, open_row, Written, room, asks, same_turn, Deed, put}
use Rattle.writer.proofs.Bounds.{same_turn_lem, turn_count}
use Rattle.writer.proofs.Calls.{Passes}
use Rattle.promises_writing.specs.Promise.{each, namespace_calls, service_calls, attribute_calls, field_calls, item_calls, header_calls, calls_of, book_behind, Account}
use Rattle.promises_writing.proofs.Standing.{Spot, spot, state_at, standing, left_at, drop_on, put_leaves}
use Rattle.promises_writing.proofs.WritesHeader.{room_long}
use Rattle.promises_writing.proofs.Put.{octets_of}

-- A header as far as it was given, by the calls told; the count of the list being given; the URI whose short name is to come.
pub record InHeader (calls : Header → ℕ → List ℕ → List Call) (Counts : Header → ℕ → Type 0) (x : Spot) (done : List ℕ) (told : Account) : Type 0 where
  pub h : Header
  pub n : ℕ
  pub name : List ℕ
  pub good : GoodHeader h
  pub text : GoodText name
  pub counts : Counts h n
  pub said : told.latest ≡ calls h n name
  pub is : done ≡ images octets_of told.latest
  pub first : told.settled ≡ []
  pub no_start : x.start ≡ 0
  pub no_rows : x.rows ≡ 0
  pub no_book : x.book ≡ []

-- A header and items, whole.
pub record Between (book : Book) (rows : ℕ) (done : List ℕ) (calls : List Call) : Type 0 where
  pub h : Header
  pub items : List Item
  pub header : GoodHeader h
  pub good : GoodItems [] items
  pub is : done ≡ header_image h ++ images item_image items
  pub said : calls ≡ header_calls h ++ each item_calls items
  pub book_is : book ≡ book_behind [] items
  pub rows_is : rows ≡ row_count items

-- An element that was opened behind them.
pub record Opened (x : Spot) (done : List ℕ) (told : Account) : Type 0 where
  pub before : List ℕ
  pub between : Between x.book x.rows before told.settled
  pub start : x.start ≡ length before
  pub is : done ≡ before ++ images octets_of told.latest

-- A layout as far as it was given; the count of its attributes; the attribute's name whose type is to come.
pub record InLayout (calls : Layout → ℕ → List ℕ → List Call) (Counts : Layout → ℕ → Type 0) (x : Spot) (done : List ℕ) (told : Account) : Type 0 where
  pub opened : Opened x done told
  pub l : Layout
  pub n : ℕ
  pub name : List ℕ
  pub good : GoodLayout l
  pub text : GoodText name
  pub counts : Counts l n
  pub said : told.latest ≡ calls l n name

-- A row as far as it was given.
pub record InRow (x : Spot) (done : List ℕ) (told : Account) : Type 0 where
  pub opened : Opened x done told
  pub r : Row
  pub l : Layout
  pub small : r.number < 2 ^ 32
  pub found : find r.number x.book ≡ some l
  pub few : x.count ≤ length l.attributes
  pub fields : FieldsOf (take x.count l.attributes) r.fields
  pub said : told.latest ≡ (open_row r.number r.is_stated ∷ []) ++ each field_calls r.fields

-- A document, whole.
pub record Ended (x : Spot) (done : List ℕ) (told : Account) : Type 0 where
  pub d : Document
  pub good : Good d
  pub is : done ≡ image d
  pub said : told.settled ++ told.latest ≡ calls_of d
  pub spot_is : x ≡ spot (book_behind [] d.items) wants.Nothing 0 0 (row_count d.items)

-- The calls of a header to its namespaces, and to its services, where so many are to be given.
abbrev pub namespaced : Header → ℕ → List Call
namespaced h n = (recorder h.recorder ∷ start_time h.start ∷ default_namespace h.default ∷ namespace_count n ∷ []) ++ each namespace_calls h.others

abbrev pub served : Header → ℕ → List Call
served h n = namespaced h (length h.others) ++ ((service_count n ∷ []) ++ each service_calls h.services)

-- The calls of a layout to its attributes, where so many are to be given.
abbrev pub attributed : Layout → ℕ → List Call
attributed l n = (open_layout l.number ∷ type_name l.type_name ∷ attribute_count n ∷ []) ++ each attribute_calls l.attributes

-- What stands at each turn.
abbrev pub Shape : Wanted → Spot → List ℕ → Account → Type 0
Shape wants.Recorder x = InHeader (λ h n name. []) (λ h n. Unit {0}) x
Shape wants.StartTime x = InHeader (λ h n name. recorder h.recorder ∷ []) (λ h n. Unit {0}) x
Shape wants.DefaultNamespace x = InHeader (λ h n name. recorder h.recorder ∷ start_time h.start ∷ []) (λ h n. Unit {0}) x
Shape wants.NamespaceCount x = InHeader (λ h n name. recorder h.recorder ∷ start_time h.start ∷ default_namespace h.default ∷ []) (λ h n. Unit {0}) x
Shape wants.Uri x = InHeader (λ h n name. namespaced h n) (λ h n. (length h.others + x.count ≡ n) × (n ≤ 16)) x
Shape wants.ShortName x = InHeader (λ h n name. namespaced h n ++ uri name ∷ []) (λ h n. (length h.others + x.count ≡ n) × (n ≤ 16)) x
Shape wants.ServiceCount x = InHeader (λ h n name. namespaced h (length h.others)) (λ h n. Unit {0}) x
Shape wants.Service x = InHeader (λ h n name. served h n) (λ h n. (length h.services + x.count ≡ n) × (n ≤ 16)) x
Shape wants.DocumentId x = InHeader (λ h n name. served h (length h.services)) (λ h n. Unit {0}) x
Shape wants.Element x = λ done told. Between x.book x.rows done (told.settled ++ told.latest) × (x.start ≡ 0)
Shape wants.TypeName x = InLayout (λ l n name. open_layout l.number ∷ []) (λ l n. Unit {0}) x
Shape wants.AttributeCount x = InLayout (λ l n name. open_layout l.number ∷ type_name l.type_name ∷ []) (λ l n. Unit {0}) x
Shape wants.AttributeName x = InLayout (λ l n name. attributed l n) (λ l n. (length l.attributes + x.count ≡ n) × (n ≤ 64)) x
Shape wants.AttributeType x = InLayout (λ l n name. attributed l n ++ attribute_name name ∷ []) (λ l n. (length l.attributes + x.count ≡ n) × (n ≤ 64)) x
Shape wants.Value x = InRow x
Shape wants.Nothing x = Ended x

-- All that stands over a buffer and a lent book, where so much was told. The buffer is as lent, but that it has zeroes where an element was given up.
pub record Stand (buffer lent : List ℕ) (told : Account) : Type 0 where
  pub done : List ℕ
  pub at : Spot
  pub inside : length done ≤ length buffer
  pub good : GoodBook at.book
  pub shape : Shape at.turn at done told

abbrev pub rest : {buffer lent : List ℕ} {told : Account} → Stand buffer lent told → List ℕ
rest {buffer} now = drop (length now.done) buffer

abbrev pub written : {buffer lent : List ℕ} {told : Account} → Stand buffer lent told → Written
written {lent = lent} now = standing lent now.done (rest now) now.at

-- What is kept from call to call.
pub record Inv (buffer lent : List ℕ) (told : Account) (w : Written) : Type 0 where
  pub stand : Stand buffer lent told
  pub is : w ≡ written stand

pub room_small : (size : ℕ) → room size ≤ longest
unfolding room
room_small size = omega arith

module _ {buffer lent : List ℕ} {told : Account} (now : Stand buffer lent told) where
  -- What a deed has to pass here, and what it leaves.
  abbrev pub PassesHere : Deed → Type 0
  PassesHere d = Passes (state_at now.done now.at) (now.done ++ rest now) (length (book_image now.at.book)) now.at.book d

  abbrev pub left_here : Deed → Written
  left_here d = left_at lent now.done (rest now) now.at d

  -- What stands where octets were put that fit: the place moves behind them, and what lay there is covered.
  pub put_stand : (next : Account) (xs : List ℕ) (y : Spot) → length now.done + length xs ≤ room (length (now.done ++ rest now)) → GoodBook y.book → Shape y.turn y (now.done ++ xs) next
      → (stand : Stand buffer lent next) × (standing lent (now.done ++ xs) (drop (length xs) (rest now)) y ≡ written stand)
  put_stand next xs y fits good shape =
      let size = length-append now.done (rest now) in
      let long = length-drop (length now.done) buffer in
      let sum = length-append now.done xs in (
        record {
          done = now.done ++ xs;
          at = y;
          inside = omega (arith, room_long (length (now.done ++ rest now)), now.inside);
          good = good;
          shape = shape;
        },
        rw (drop_on buffer now.done xs),
      )

  -- What stands at the turn that a call has.
  pub here : (t : Wanted) → same_turn now.at.turn t ≡ true → Shape t now.at now.done told
  here t e = subst (λ (v : Wanted). Shape v now.at now.done told) (same_turn_lem now.at.turn t e) now.shape

  -- A call that puts octets, by what stands at its turn.
  pub put_keeps : (next : Account) (t u : Wanted) (fault : Fault) (xs : List ℕ) (j i : ℕ) → PassesHere (put (state_at now.done now.at) t fault xs u j i)
      → (Shape t now.at now.done told → (asks t).least ≤ now.at.count → length xs ≤ longest
      → Shape u (spot now.at.book u j i now.at.rows) (now.done ++ xs) next)
      → Inv buffer lent next (left_here (put (state_at now.done now.at) t fault xs u j i))
  put_keeps next t u fault xs j i p step =
      let fits = p.fits in
      let small : length xs ≤ longest = omega (arith, room_small (length (now.done ++ rest now))) in
      let (stand, is) = put_stand next xs (spot now.at.book u j i now.at.rows) fits now.good (step (here t p.in_turn) (turn_count (state_at now.done now.at) (length (now.done ++ rest now)) p.inside t p.in_turn).0 small) in
      record { stand = stand; is = put_leaves lent now.done (rest now) now.at t u fault xs j i ∙ is }
