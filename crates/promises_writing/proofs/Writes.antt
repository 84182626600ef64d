-- The promise: the calls of a document inside the limits can be given, are all accepted, and leave its image, which is read back.
-- Header, items and end are put one behind the other, each item over the book that those before it left. Assumes nothing.
use Prim.Native.Nat.{ℕ, ◌+◌, ◌≤◌}
use mathlib.Core.Path.{◌≡◌, refl, ap, ◌∙◌}
use mathlib.Core.List.{List, [], ◌∷◌, ◌++◌, append_assoc}
use mathlib.Core.Logic.{inl, inr}
use native.Mathlib.Omega.{arith}
use native.Mathlib.Nat.{add-zero, zero-add}
use lib.ListN.{length, take, drop, length-append}
use lib.Seq.{take-append_seam}
use Rattle.octets.specs.Limits.{most_rows, book_room}
use Rattle.octets.specs.Reading.{ok, choose}
use Rattle.octets.specs.Writing.{word, images, Each}
use Rattle.octets.proofs.Spans.{each_join}
use Rattle.texts.specs.Texts.{GoodText}
use Rattle.kinds.specs.declared.Form.{Form}
use Rattle.kinds.specs.declared.Form.TheVariants as form
use Rattle.kinds.specs.Kinds.{form_of}
use Rattle.layouts.specs.Layout.{Layout, Attribute, GoodAttribute}
use Rattle.layouts.specs.Book.{Book, find, is_none, book_image, learn, GoodBook}
use Rattle.layouts.proofs.Growing.{Learnt, learnt, grown, good_nil}
use Rattle.rows.specs.Row.{Field, FieldsOf}
use Rattle.kinds.specs.Forms.{Value, bits, held, GoodValue}
use Rattle.headers.specs.Header.{header_image, GoodNamespace}
use Rattle.elements.specs.Element.{Item, layout, row}
use Rattle.elements.specs.Reading.{reading}
use Rattle.elements.specs.Document.{Document, item_image, row_count, image, GoodItems, Good, reading_of}
use Rattle.promises.proofs.Documents.{complete, few}
use Rattle.writer.specs.declared.Wanted.TheVariants as wants
use Rattle.writing_parts.specs.Faults.{fine}
use Rattle.writer.specs.Writer.{finish, room, does, run_calls, Call, service_count, document_id}
use Rattle.promises_writing.specs.Promise.{each, item_calls, calls_of, with_layout, book_behind, begun, finished, namespace_calls, service_calls, header_calls, attribute_calls, field_calls, GivenValue, Given}
use Rattle.promises_writing.proofs.Standing.{spot}
use Rattle.promises_writing.proofs.WritesHeader.{Puts, puts_none, puts_both, puts_as, put_one, header_put}
use Rattle.promises_writing.proofs.WritesLayout.{layout_put}
use Rattle.promises_writing.proofs.WritesRow.{row_put}

-- What is learnt is a layout behind the book, or nothing.
pub learn_with : (b : Book) (l : Layout) (next : Book) (at end : ℕ) → learn b l at ≡ ok next end → next ≡ with_layout b l
unfolding with_layout
learn_with b l next at end e = go (learnt b l at next end e)
  where
    go : Learnt b l next → next ≡ choose (is_none (find l.number b)) (λ _. b ++ l ∷ []) (λ _. b)
    go (inl h) = rw h.1 h.3
    go (inr h) = rw h.0 h.3

-- The image, by what is put.
pub image_parts : (d : Document) → header_image d.header ++ (images item_image d.items ++ (word 4 3 ++ word 4 (row_count d.items) ++ word 8 d.end)) ≡ image d
unfolding image
image_parts d = simp append_assoc

module _ (buffer lent : List ℕ) (long : book_room ≤ length lent) where
  items_put : (items : List Item) (done : List ℕ) (b : Book) (rows : ℕ) → GoodBook b → GoodItems b items → rows + row_count items ≤ most_rows
      → GoodBook (book_behind b items)
      × Puts buffer lent (each item_calls items) (images item_image items) done (spot b wants.Element 0 0 rows) (spot (book_behind b items) wants.Element 0 0 (rows + row_count items))
  unfolding images
  items_put [] done b rows s g m = (s, rw (add-zero rows) puts_none)
  items_put (layout l ∷ rest) done b rows s g m =
      let next : Book = g.1.0 in
      let again = items_put rest (done ++ item_image (layout l)) next rows (grown b l 0 next 0 s g.0 g.1.1).good g.1.2 m in
      rw (← learn_with b l next 0 0 g.1.1) (
        again.0,
        puts_both {a = item_calls (layout l)} (layout_put buffer lent long b s rows (omega arith) done l next g.0 g.1.1) again.1,
      )
  items_put (row r ∷ rest) done b rows s g m =
      let sum : rows + (1 + row_count rest) ≡ (rows + 1) + row_count rest = omega arith in
      let again = items_put rest (done ++ item_image (row r)) b (rows + 1) s g.2 (omega arith) in
      rw sum (again.0, puts_both {a = item_calls (row r)} (row_put buffer lent long b s rows (omega arith) done r g.1.0 g.0 g.1.1 g.1.2) again.1)

-- From a fresh state and an empty book, over any buffer with room for the image, the calls of a document inside the limits are all accepted and leave it written whole.
pub writes : (d : Document) → Good d → (buffer book : List ℕ) → length (image d) ≤ length buffer → book_room ≤ length book
    → run_calls (calls_of d) (begun buffer book) ≡ ok (finished d buffer book) (length (image d))
unfolding calls_of finished room book_image images does
writes d g buffer book fits long =
    let head : List ℕ = header_image d.header in
    let body : List ℕ = images item_image d.items in
    let rows : ℕ = row_count d.items in
    let last : List ℕ = word 4 3 ++ word 4 rows ++ word 8 d.end in
    let all = ap length (image_parts d) in
    let sum = length-append head (body ++ last) in
    let parts = length-append body last in
    let limit = g.fits in
    let many : rows ≤ most_rows = omega (arith, few d.items) in
    let (good, items) = items_put buffer book long d.items head [] 0 good_nil g.items (omega arith) in
    let behind : Book = book_behind [] d.items in
    let end = put_one buffer book long (finish d.end) (head ++ body) last (spot behind wants.Element 0 0 rows) wants.Nothing 0 0 fine good refl refl (omega arith) in
    let whole : Puts buffer book (calls_of d) (image d) [] (spot [] wants.Recorder 0 0 0) (spot behind wants.Nothing 0 0 rows) =
    puts_as (image_parts d) (puts_both (header_put buffer book long [] good_nil d.header g.header) (puts_both (rw (zero-add rows) at items) end)) in
    (whole.runs (omega arith)).runs

-- The octets before the place are the image.
pub image_stands : (d : Document) (buffer book : List ℕ) → take (finished d buffer book).state.place (finished d buffer book).buffer ≡ image d
unfolding finished
image_stands d buffer book = take-append_seam (image d) (drop (length (image d)) buffer)

-- What was written is read back as that document.
pub reads : (d : Document) → Good d → (buffer book : List ℕ)
    → reading (take (finished d buffer book).state.place (finished d buffer book).buffer) ≡ ok (reading_of d) (finished d buffer book).state.place
unfolding finished
reads d g buffer book = ap reading (image_stands d buffer book) ∙ complete d g

-- The calls can be given: field by field from what is good of the document.
given_each : {A : Type 0} (P : A → Type 0) (f : A → List Call) → ((a : A) → P a → Each Given (f a)) → (xs : List A) → Each P xs → Each Given (each f xs)
given_each P f one [] g = tt
given_each P f one (a ∷ xs) g = each_join Given (f a) (each f xs) (one a g.0) (given_each P f one xs g.1)

given_value : (f : Form) (v : Value) → GoodValue f v → GivenValue v
given_value (form.Fixed w) (bits n) g = tt
given_value (form.Fixed w) (held xs) g = absurd g
given_value form.Truth (bits n) g = tt
given_value form.Truth (held xs) g = absurd g
given_value (form.Led rule) (bits n) g = tt
given_value (form.Led rule) (held xs) g = g.0

given_fields : (attributes : List Attribute) (fs : List Field) → FieldsOf attributes fs → Each Given (each field_calls fs)
given_fields [] [] g = tt
given_fields [] (f ∷ fs) g = absurd g
given_fields (a ∷ others) [] g = absurd g
given_fields (a ∷ others) (f ∷ fs) g = (given_value (form_of a.kind) f.value g.1, given_fields others fs g.2)

given_items : (items : List Item) (b : Book) → GoodItems b items → Each Given (each item_calls items)
given_items [] b g = tt
given_items (layout l ∷ rest) b g =
    let attributes = given_each GoodAttribute attribute_calls (λ a h. (h.name.0, (tt, tt))) l.attributes g.0.attributes in
    each_join Given (item_calls (layout l)) (each item_calls rest) (g.0.number, (g.0.type_name.0, (tt, attributes))) (given_items rest g.1.0 g.1.2)
given_items (row r ∷ rest) b g =
    let fields = given_fields g.1.0.attributes r.fields g.1.2 in
    each_join Given (item_calls (row r)) (each item_calls rest) (g.0, each_join Given (each field_calls r.fields) _ fields (tt, tt)) (given_items rest b g.2)

pub given : (d : Document) → Good d → Each Given (calls_of d)
unfolding calls_of header_calls
given d g =
    let h = d.header in
    let others = given_each GoodNamespace namespace_calls (λ n k. (k.uri.0, (k.short.0, tt))) h.others g.header.others in
    let services = given_each GoodText service_calls (λ xs k. (k.0, tt)) h.services g.header.services in
    let last = each_join Given (each service_calls h.services) (document_id h.id ∷ []) services (g.header.id, tt) in
    let lists = each_join Given (each namespace_calls h.others) (service_count (length h.services) ∷ (each service_calls h.services ++ document_id h.id ∷ [])) others (tt, last) in
    each_join Given (header_calls h) (each item_calls d.items ++ finish d.end ∷ []) (g.header.recorder.0, (g.header.start, (g.header.default.0, (tt, lists))))
    (each_join Given (each item_calls d.items) (finish d.end ∷ []) (given_items d.items [] g.items) (g.end, tt))
