-- Every listed refusal number of a call is given, for inputs that antt runs; with `Only`, each list is exact. Assumes nothing.
use Prim.Native.Nat.{ℕ}
use mathlib.Core.Path.{◌≡◌, refl}
use mathlib.Core.List.{List, [], ◌∷◌, ◌++◌}
use mathlib.Core.Bool.{true, false}
use lib.IntN.{negsuc}
use lib.ListN.{replicate, set}
use Rattle.octets.specs.Reading.{be, part, number_in, count, run}
use Rattle.octets.specs.Writing.{word, images, over}
use Rattle.utf8.specs.Utf8.{opens, spells, utf8}
use Rattle.texts.specs.Texts.{octets_in, led_in, led_image}
use Rattle.texts.specs.declared.Rule.TheVariants.{Characters}
use Rattle.kinds.specs.declared.Basic.TheVariants as b
use Rattle.kinds.specs.declared.Value.TheVariants as value
use Rattle.kinds.specs.Values.{basic_of_value}
use Rattle.kinds.specs.Kinds.{among, basic_of, unsigned, kind_at}
use Rattle.layouts.specs.Layout.{attribute_at, layout_at, attribute_image, layout_image}
use Rattle.layouts.specs.Book.{find, layouts_at, book_of, book_in}
use Rattle.kinds.specs.Forms.{bits, held}
use Rattle.promises.specs.Specimen.{specimen, layout_book, empty_book}
use Rattle.promises.specs.Refusals.{Only, refusals_of}
use Rattle.promises.proofs.Given.{layouts}
use Rattle.writing_parts.specs.Faults.{fine}
use Rattle.writer.specs.declared.Wanted.{Wanted}
use Rattle.writer.specs.declared.Wanted.TheVariants as wants
use Rattle.writer.specs.Writer.{Call, room, bounded, row_layout, does, layout_so_far, fault_of, deed_answer, call}
use Rattle.writer.specs.Writer as writer
use Rattle.promises_writing.specs.Numbers.{Made, Opening, Typed, Handed, field_numbers, text_numbers, count_numbers, id_numbers, attributes_numbers, type_numbers, row_numbers, number_numbers, octets_numbers, close_numbers, give_up_numbers, Numbers}
use Rattle.promises_writing.proofs.Only.{plain_only, text_only, namespaces_only, services_only, id_only, attributes_only, type_only, open_row_only, number_only, value_only, close_only, give_up_only}

-- A call at a turn over a full buffer, whose twelve octets open an element of number 7, over a book of which so much is used.
abbrev over_book : {A : Type 0} → List ℕ → ℕ → Wanted → A → Made A
over_book book used turn a =
    record {
      state = record { place = 12; turn = turn; count = 1; start = 0; rows = 0 };
      buffer = 0 ∷ 0 ∷ 0 ∷ 2 ∷ 0 ∷ 0 ∷ 0 ∷ 7 ∷ 0 ∷ 0 ∷ 0 ∷ 0 ∷ [];
      book = book;
      used = used;
      argument = a;
    }

-- Over an empty book, over that of the specimen's layout, and over one with 64 layouts.
abbrev bare : {A : Type 0} → Wanted → A → Made A
bare turn a = over_book empty_book 0 turn a

abbrev booked : {A : Type 0} → Wanted → A → Made A
booked turn a = over_book layout_book 31 turn a

abbrev many : {A : Type 0} → Wanted → A → Made A
many turn a = over_book (layouts [] 64 ++ empty_book) 768 turn a

-- Every call is refused by 17 without a book, and by 20 after the finish.
abbrev anyhow : {A : Type 0} → A → List (Made A) → List (Made A)
anyhow a rest = over_book [] 0 wants.Nothing a ∷ bare wants.Nothing a ∷ rest

-- A call that is refused at its turn for want of room alone.
abbrev field_inputs : {A : Type 0} → Wanted → A → List (Made A)
field_inputs turn a = anyhow a (bare turn a ∷ [])

-- A string, which is refused by 24 where it is one octet of an old code.
abbrev text_inputs : Wanted → List (Made (List ℕ))
text_inputs turn = anyhow [] (bare turn (0xe9 ∷ []) ∷ bare turn [] ∷ [])

abbrev refusals : {A : Type 0} → (A → Call) → List (Made A) → List ℕ
refusals {A} f inputs = refusals_of (λ (i : Made A). call i.state i.buffer i.book i.used (f i.argument)) inputs

abbrev opened : ℕ → Opening
opened n = record { number = n; is_stated = true }

attributes_inputs : List (Made ℕ)
attributes_inputs =
    anyhow 0 (bare wants.AttributeCount 65 ∷ booked wants.AttributeCount 0 ∷ many wants.AttributeCount 0 ∷ bare wants.AttributeCount 0 ∷ [])

type_inputs : List (Made ℕ)
type_inputs =
    anyhow 0 (bare wants.AttributeType 0x80000022 ∷ bare wants.AttributeType 0x20 ∷ booked wants.AttributeType 0x22 ∷ many wants.AttributeType 0x22 ∷ bare wants.AttributeType 0x22 ∷ [])

row_inputs : List (Made Opening)
row_inputs = anyhow (opened 7) (bare wants.Element (opened 7) ∷ booked wants.Element (opened 7) ∷ [])

-- A value over the book of the specimen's layout, whose second field is a byte, or a string where its type is changed; another is not the next.
abbrev value_inputs : {A : Type 0} → List ℕ → A → A → List A → List (Made A)
value_inputs book right wrong [] = anyhow right (bare wants.Value right ∷ over_book book 31 wants.Value wrong ∷ over_book book 31 wants.Value right ∷ [])
value_inputs book right wrong (bad ∷ others) =
    anyhow right (bare wants.Value right ∷ over_book book 31 wants.Value wrong ∷ over_book book 31 wants.Value bad ∷ over_book book 31 wants.Value right ∷ [])

abbrev number_inputs : List (Made (Typed ℕ))
number_inputs = value_inputs layout_book (record { basic = b.Byte; given = 255 }) (record { basic = b.Byte; given = 256 }) []

abbrev octets_inputs : List (Made (Typed (List ℕ)))
octets_inputs = value_inputs (set layout_book 30 0x28) (record { basic = b.String; given = [] }) (record { basic = b.HexBinary; given = 0xe9 ∷ [] }) (record { basic = b.String; given = 0xe9 ∷ [] } ∷ [])

abbrev handed_inputs : List (Made Handed)
handed_inputs =
    value_inputs (set layout_book 30 0x28) (record { value = value.String; octets = [] }) (record { value = value.Short (negsuc 1); octets = [] })
    (record { value = value.String; octets = 0xe9 ∷ [] } ∷ [])

close_inputs : List (Made (Unit {0}))
close_inputs = anyhow tt (bare wants.Value tt ∷ booked wants.Value tt ∷ [])

id_inputs : List (Made (List ℕ))
id_inputs = anyhow [] (bare wants.DocumentId [] ∷ bare wants.DocumentId (replicate 16 0) ∷ [])

abbrev count_inputs : Wanted → List (Made ℕ)
count_inputs turn = anyhow 0 (bare turn 17 ∷ bare turn 0 ∷ [])

-- All that are given, call by call.
fields_each :
    (refusals writer.recorder (text_inputs wants.Recorder) ≡ text_numbers)
    × (refusals writer.start_time (field_inputs wants.StartTime 0) ≡ field_numbers)
    × (refusals writer.default_namespace (text_inputs wants.DefaultNamespace) ≡ text_numbers)
    × (refusals writer.uri (text_inputs wants.Uri) ≡ text_numbers)
    × (refusals writer.short_name (text_inputs wants.ShortName) ≡ text_numbers)
    × (refusals writer.service (text_inputs wants.Service) ≡ text_numbers)
    × (refusals writer.open_layout (field_inputs wants.Element 0) ≡ field_numbers)
    × (refusals writer.type_name (text_inputs wants.TypeName) ≡ text_numbers)
    × (refusals writer.attribute_name (text_inputs wants.AttributeName) ≡ text_numbers)
    × (refusals writer.finish (field_inputs wants.Element 0) ≡ field_numbers)
unfolding empty_book number_in opens spells utf8 octets_in led_in be part word led_image layouts_at book_of book_in room bounded does layout_so_far fault_of deed_answer call
fields_each = (refl, refl, refl, refl, refl, refl, refl, refl, refl, refl)

counts_each :
    (refusals writer.namespace_count (count_inputs wants.NamespaceCount) ≡ count_numbers)
    × (refusals writer.service_count (count_inputs wants.ServiceCount) ≡ count_numbers)
    × (refusals writer.document_id id_inputs ≡ id_numbers)
unfolding id_inputs empty_book be part word layouts_at book_of book_in room bounded does layout_so_far fault_of deed_answer call
counts_each = (refl, refl, refl)

layouts_each : (refusals writer.attribute_count attributes_inputs ≡ attributes_numbers) × (refusals writer.attribute_type type_inputs ≡ type_numbers)
unfolding attributes_inputs type_inputs specimen layout_book empty_book be part number_in opens spells utf8 octets_in led_in count run word led_image images over among basic_of kind_at attribute_at layout_at attribute_image layout_image find layouts_at book_of book_in room bounded does layout_so_far fault_of deed_answer call
layouts_each = (refl, refl)

rows_each :
    (refusals (λ (a : Opening). writer.open_row a.number a.is_stated) row_inputs ≡ row_numbers)
    × (refusals (λ (a : Typed ℕ). writer.value a.basic (bits a.given)) number_inputs ≡ number_numbers)
    × (refusals (λ (a : Typed (List ℕ)). writer.value a.basic (held a.given)) octets_inputs ≡ octets_numbers)
    × (refusals (λ (a : Handed). writer.value_call a.value a.octets) handed_inputs ≡ octets_numbers)
    × (refusals (λ (a : Unit {0}). writer.close_row) close_inputs ≡ close_numbers)
    × (refusals (λ (a : Unit {0}). writer.give_up) (anyhow tt []) ≡ give_up_numbers)
unfolding row_inputs close_inputs specimen layout_book empty_book be part number_in opens spells utf8 octets_in led_in count run word led_image images over among basic_of kind_at unsigned attribute_at layout_at find layouts_at book_of book_in room bounded row_layout does layout_so_far fault_of deed_answer call
rows_each = (refl, refl, refl, refl, refl, refl)

-- A field with nothing of its own to refuse, and a string.
plain : {A : Type 0} (i : Made A) (c : Call) → (does i.state i.buffer (book_in i.book i.used) c).fault ≡ fine → (does i.state i.buffer (book_in i.book i.used) c).completes ≡ false
    → Only field_numbers (call i.state i.buffer i.book i.used c)
plain i c own none_done = plain_only i.state i.buffer i.book i.used refl refl refl c own none_done

texted : {A : Type 0} (i : Made A) (c : Call) (xs : List ℕ) → (does i.state i.buffer (book_in i.book i.used) c).fault ≡ writer.breach Characters xs → (does i.state i.buffer (book_in i.book i.used) c).completes ≡ false
    → Only text_numbers (call i.state i.buffer i.book i.used c)
texted i c xs own none_done = text_only i.state i.buffer i.book i.used refl refl refl refl c xs own none_done

pub numbers : Numbers
unfolding does
numbers =
    record {
      recorder = record { only = λ i. texted i (writer.recorder i.argument) i.argument refl refl; inputs = text_inputs wants.Recorder; each = fields_each.0 };
      start_time = record { only = λ i. plain i (writer.start_time i.argument) refl refl; inputs = field_inputs wants.StartTime 0; each = fields_each.1 };
      default_namespace = record { only = λ i. texted i (writer.default_namespace i.argument) i.argument refl refl; inputs = text_inputs wants.DefaultNamespace; each = fields_each.2 };
      namespace_count = record {
        only = λ i. namespaces_only i.state i.buffer i.book i.used refl refl refl refl i.argument;
        inputs = count_inputs wants.NamespaceCount;
        each = counts_each.0;
      };
      uri = record { only = λ i. texted i (writer.uri i.argument) i.argument refl refl; inputs = text_inputs wants.Uri; each = fields_each.3 };
      short_name = record { only = λ i. texted i (writer.short_name i.argument) i.argument refl refl; inputs = text_inputs wants.ShortName; each = fields_each.4 };
      service_count = record {
        only = λ i. services_only i.state i.buffer i.book i.used refl refl refl refl i.argument;
        inputs = count_inputs wants.ServiceCount;
        each = counts_each.1;
      };
      service = record { only = λ i. texted i (writer.service i.argument) i.argument refl refl; inputs = text_inputs wants.Service; each = fields_each.5 };
      document_id = record { only = λ i. id_only i.state i.buffer i.book i.used refl refl refl refl i.argument; inputs = id_inputs; each = counts_each.2 };
      open_layout = record { only = λ i. plain i (writer.open_layout i.argument) refl refl; inputs = field_inputs wants.Element 0; each = fields_each.6 };
      type_name = record { only = λ i. texted i (writer.type_name i.argument) i.argument refl refl; inputs = text_inputs wants.TypeName; each = fields_each.7 };
      attribute_count = record {
        only = λ i. attributes_only i.state i.buffer i.book i.used refl refl refl refl refl refl i.argument;
        inputs = attributes_inputs;
        each = layouts_each.0;
      };
      attribute_name = record { only = λ i. texted i (writer.attribute_name i.argument) i.argument refl refl; inputs = text_inputs wants.AttributeName; each = fields_each.8 };
      attribute_type = record {
        only = λ i. type_only i.state i.buffer i.book i.used refl refl refl refl refl refl refl i.argument;
        inputs = type_inputs;
        each = layouts_each.1;
      };
      open_row = record {
        only = λ i. open_row_only i.state i.buffer i.book i.used refl refl refl refl i.argument.number i.argument.is_stated;
        inputs = row_inputs;
        each = rows_each.0;
      };
      value_number = record {
        only = λ i. number_only i.state i.buffer i.book i.used refl refl refl refl refl i.argument.basic i.argument.given;
        inputs = number_inputs;
        each = rows_each.1;
      };
      value_octets = record {
        only = λ i. value_only i.state i.buffer i.book i.used refl refl refl refl refl i.argument.basic refl (held i.argument.given);
        inputs = octets_inputs;
        each = rows_each.2;
      };
      value = record {
        only = λ i. value_only i.state i.buffer i.book i.used refl refl refl refl refl (basic_of_value i.argument.value) refl _;
        inputs = handed_inputs;
        each = rows_each.3;
      };
      close_row = record { only = λ i. close_only i.state i.buffer i.book i.used refl refl refl refl; inputs = close_inputs; each = rows_each.4 };
      give_up = record { only = λ i. give_up_only i.state i.buffer i.book i.used refl refl; inputs = anyhow tt []; each = rows_each.5 };
      finish = record { only = λ i. plain i (writer.finish i.argument) refl refl; inputs = field_inputs wants.Element 0; each = fields_each.9 };
    }
