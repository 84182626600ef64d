-- An accepted call of a row keeps what stands: the open row has one value more, and closing makes it an item. Giving up leaves the items before; the end makes the document whole.
-- The row's layout is read back from its first octets, so a value taken is the next field's. Assumes nothing.
use Prim.Native.Nat.{ℕ, ◌+◌, ◌-◌, ◌^◌, ◌≤◌, ◌<◌}
use mathlib.Core.Path.{◌≡◌, refl, sym, ap, ◌∙◌, subst}
use mathlib.Core.List.{List, [], ◌∷◌, ◌++◌, append_assoc, append-nil}
use mathlib.Core.Bool.{true}
use mathlib.Core.Option.{some}
use native.Mathlib.Omega.{arith}
use lib.ListN.{length, take, drop, replicate, length-append, length-drop}
use lib.Seq.{take-add, take_all}
use lib.Dec.{leb, eqb}
use borrow.Author.Tests.{eqb-true, leb-true, ltb-true}
use Rattle.octets.specs.Limits.{longest}
use Rattle.octets.specs.Writing.{word, images}
use Rattle.octets.proofs.Copies.{both_true}
use Rattle.kinds.specs.declared.Basic.{Basic}
use Rattle.kinds.specs.declared.Form.{Form}
use Rattle.kinds.specs.declared.Form.TheVariants as form
use Rattle.kinds.specs.Kinds.{code_of, form_by, form_of}
use Rattle.kinds.proofs.Table.{code_once}
use Rattle.layouts.specs.Layout.{Attribute}
use Rattle.layouts.specs.Book.{find}
use Rattle.rows.specs.Row.{Field, field_image, length_image, FieldsOf}
use Rattle.kinds.specs.Forms.{Value, bits, held, value_image, GoodValue}
use Rattle.headers.specs.Header.{header_image}
use Rattle.elements.specs.Element.{row}
use Rattle.elements.specs.Document.{Document, item_image, image}
use Rattle.writing_parts.specs.Faults.{Fault, fine, unless, ◌or◌}
use Rattle.writing_parts.proofs.Faults.{holds, both_fine}
use Rattle.writer.specs.declared.Wanted.{Wanted}
use Rattle.writer.specs.declared.Wanted.TheVariants as wants
use Rattle.writer.specs.Writer.{Call, open_row, value, close_row, give_up, finish, is_open, in_book, row_layout, suits, is_next, does, value_breach}
use Rattle.writer.proofs.Kept.{in_book_lem}
use Rattle.promises_writing.specs.Promise.{each, field_calls, item_calls, header_calls, calls_of, GivenValue, Account, adds, opens, tell}
use Rattle.promises_writing.proofs.Standing.{Spot, spot, state_at, standing, behind, row_layout_lem, close_leaves, give_up_leaves}
use Rattle.promises_writing.proofs.Writes.{image_parts}
use Rattle.promises_writing.proofs.Put.{octets_of, each_snoc, row_octets}
use Rattle.promises_writing.proofs.Shapes.{Opened, InRow, Shape, Stand, rest, Inv, room_small, PassesHere, left_here, here, put_keeps}
use Rattle.promises_writing.proofs.KeepsHeader.{is_led, Keeps}
use Rattle.promises_writing.proofs.Items.{next_item, same_between, opening, longer, one_more}

-- A value that is taken is the next field's.
record Next (attributes : List Attribute) (b : Basic) (v : Value) : Type 0 where
  a : Attribute
  others : List Attribute
  is : attributes ≡ a ∷ others
  basic : a.kind.basic ≡ b
  suited : suits (form_by b) v ≡ true

next_is : (attributes : List Attribute) (b : Basic) (v : Value) → is_next attributes b v ≡ true → Next attributes b v
next_is [] b v e = absurd (let z : ◌≡◌ {A = ℕ} 0 1 = cc in omega arith)
next_is (a ∷ others) b v e =
    let (t, u) = both_true (eqb (code_of a.kind.basic) (code_of b)) (suits (form_by b) v) e in
    record { a = a; others = others; is = refl; basic = code_once a.kind.basic b (eqb-true _ _ t); suited = u }

suits_good : (f : Form) (v : Value) → suits f v ≡ true → value_breach f v ≡ fine → GivenValue v → length (value_image f v) ≤ longest → GoodValue f v
suits_good (form.Fixed w) (bits n) e q g h = ltb-true n (256 ^ w) e
suits_good (form.Fixed w) (held xs) e q g h = absurd (let z : ◌≡◌ {A = ℕ} 0 1 = cc in omega arith)
suits_good form.Truth (bits n) e q g h = leb-true n 1 e
suits_good form.Truth (held xs) e q g h = absurd (let z : ◌≡◌ {A = ℕ} 0 1 = cc in omega arith)
suits_good (form.Led rule) (bits n) e q g h = absurd (let z : ◌≡◌ {A = ℕ} 0 1 = cc in omega arith)
suits_good (form.Led rule) (held xs) e q g h = is_led rule xs g q h

fields_snoc : (attributes : List Attribute) (fs : List Field) (a : Attribute) (f : Field) → FieldsOf attributes fs → f.attribute ≡ a
    → GoodValue (form_of a.kind) f.value → FieldsOf (attributes ++ a ∷ []) (fs ++ f ∷ [])
fields_snoc [] [] a f g e h = (e, h, tt)
fields_snoc [] (x ∷ fs) a f g e h = absurd g
fields_snoc (y ∷ others) [] a f g e h = absurd g
fields_snoc (y ∷ others) (x ∷ fs) a f g e h = (g.0, g.1, fields_snoc others fs a f g.2 e h)

-- The octets of an open row.
row_form : {x : Spot} {done : List ℕ} {told : Account} (i : InRow x done told)
    → done ≡ i.opened.before ++ (word 4 2 ++ (word 4 i.r.number ++ (length_image i.r.is_stated 0 ++ images field_image i.r.fields)))
row_form i = i.opened.is ∙ ap (λ (z : List ℕ). i.opened.before ++ z) (ap (images octets_of) i.said ∙ row_octets i.r)

-- What is open at a turn.
opened_at : (t : Wanted) {x : Spot} {done : List ℕ} (told : Account) → Shape t x done told → is_open t ≡ true → Opened x done told
opened_at wants.Recorder told i e = absurd (let z : ◌≡◌ {A = ℕ} 0 1 = cc in omega arith)
opened_at wants.StartTime told i e = absurd (let z : ◌≡◌ {A = ℕ} 0 1 = cc in omega arith)
opened_at wants.DefaultNamespace told i e = absurd (let z : ◌≡◌ {A = ℕ} 0 1 = cc in omega arith)
opened_at wants.NamespaceCount told i e = absurd (let z : ◌≡◌ {A = ℕ} 0 1 = cc in omega arith)
opened_at wants.Uri told i e = absurd (let z : ◌≡◌ {A = ℕ} 0 1 = cc in omega arith)
opened_at wants.ShortName told i e = absurd (let z : ◌≡◌ {A = ℕ} 0 1 = cc in omega arith)
opened_at wants.ServiceCount told i e = absurd (let z : ◌≡◌ {A = ℕ} 0 1 = cc in omega arith)
opened_at wants.Service told i e = absurd (let z : ◌≡◌ {A = ℕ} 0 1 = cc in omega arith)
opened_at wants.DocumentId told i e = absurd (let z : ◌≡◌ {A = ℕ} 0 1 = cc in omega arith)
opened_at wants.Element told i e = absurd (let z : ◌≡◌ {A = ℕ} 0 1 = cc in omega arith)
opened_at wants.TypeName told i e = i.opened
opened_at wants.AttributeCount told i e = i.opened
opened_at wants.AttributeName told i e = i.opened
opened_at wants.AttributeType told i e = i.opened
opened_at wants.Value told i e = i.opened
opened_at wants.Nothing told i e = absurd (let z : ◌≡◌ {A = ℕ} 0 1 = cc in omega arith)

module _ {buffer lent : List ℕ} {told : Account} (now : Stand buffer lent told) where
  -- The layout that an open row's number names is the row's.
  row_here : (i : Shape wants.Value now.at now.done told) → row_layout (state_at now.done now.at) (now.done ++ rest now) now.at.book ≡ some i.l
  row_here i =
      row_layout_lem i.opened.before (length_image i.r.is_stated 0 ++ images field_image i.r.fields) (rest now) now.done now.at i.r.number i.l (row_form i) i.opened.start i.small i.found

  pub keep_row : (n : ℕ) (stated : _) → n < 2 ^ 32 → Keeps now (open_row n stated)
  unfolding does
  keep_row n stated small p =
      let found = in_book_lem (find n now.at.book) (λ _. fine) p.faultless in
      put_keeps now (opens told (open_row n stated)) wants.Element wants.Value (in_book (find n now.at.book) λ _. fine) (octets_of (open_row n stated)) 0 (length now.done) p λ i _ _.
      record {
        opened = opening now.at now.done told (open_row n stated) wants.Value i;
        r = record { number = n; is_stated = stated; fields = [] };
        l = found.0;
        small = small;
        found = found.1;
        few = omega arith;
        fields = tt;
        said = refl;
      }

  -- A value of the next field, behind those given.
  valued : (b : Basic) (v : Value) → GivenValue v → length (value_image (form_by b) v) ≤ longest → (i : Shape wants.Value now.at now.done told)
      → Next (drop now.at.count i.l.attributes) b v → value_breach (form_by b) v ≡ fine
      → Shape wants.Value (spot now.at.book wants.Value (now.at.count + 1) now.at.start now.at.rows) (now.done ++ octets_of (value b v)) (adds told (value b v))
  valued b v g small i next obeys =
      let k : ℕ = now.at.count in
      let attributes : List Attribute = i.l.attributes in
      let f : Field = record { attribute = next.a; value = v } in
      let good : GoodValue (form_of next.a.kind) v = rw next.basic (suits_good (form_by b) v next.suited obeys g small) in
      let taken : take (k + 1) attributes ≡ take k attributes ++ next.a ∷ [] = take-add k 1 attributes ∙ ap (λ (z : List Attribute). take k attributes ++ take 1 z) next.is in
      record {
        opened = longer (value b v) wants.Value (k + 1) i.opened;
        r = record { number = i.r.number; is_stated = i.r.is_stated; fields = i.r.fields ++ f ∷ [] };
        l = i.l;
        small = i.small;
        found = i.found;
        few = omega (arith, length-drop k attributes, ap length next.is);
        fields = subst (λ (z : List Attribute). FieldsOf z (i.r.fields ++ f ∷ [])) (sym taken) (fields_snoc (take k attributes) i.r.fields next.a f i.fields refl good);
        said = one_more (value b v) i.said
            ∙ ap (λ (z : List Call). open_row i.r.number i.r.is_stated ∷ z)
            (ap (λ (z : Basic). each field_calls i.r.fields ++ value z v ∷ []) (sym next.basic) ∙ sym (each_snoc field_calls i.r.fields f));
      }

  pub keep_value : (b : Basic) (v : Value) → GivenValue v → Keeps now (value b v)
  unfolding does
  keep_value b v g p =
      let fault : Fault =
      in_book (row_layout (state_at now.done now.at) (now.done ++ rest now) now.at.book) λ l. unless (is_next (drop now.at.count l.attributes) b v) 21 or value_breach (form_by b) v in
      let faultless : fault ≡ fine = p.faultless in
      put_keeps now (adds told (value b v)) wants.Value wants.Value fault (value_image (form_by b) v) (now.at.count + 1) now.at.start p λ i _ small.
      let (right, obeys) = both_fine (unless (is_next (drop now.at.count i.l.attributes) b v) 21) (value_breach (form_by b) v) (rw (row_here i) at faultless) in
      let next = next_is (drop now.at.count i.l.attributes) b v (holds (is_next (drop now.at.count i.l.attributes) b v) 21 right) in
      valued b v g small i next obeys

  pub keep_close : Keeps now close_row
  unfolding does
  keep_close p =
      let x = now.at in
      let fault : Fault = in_book (row_layout (state_at now.done x) (now.done ++ rest now) x.book) λ l. unless (leb (length l.attributes) x.count) 22 in
      let faultless : fault ≡ fine = p.faultless in
      let i = here now wants.Value p.in_turn in
      let attributes : List Attribute = i.l.attributes in
      let all : length attributes ≤ x.count = leb-true (length attributes) x.count (holds (leb (length attributes) x.count) 22 (rw (row_here i) at faultless)) in
      let fields : FieldsOf attributes i.r.fields = subst (λ (z : List Attribute). FieldsOf z i.r.fields) (take_all x.count attributes all) i.fields in
      let before : List ℕ = i.opened.before in
      let (leaves, place) = close_leaves lent before (rest now) now.done x i.r (row_form i) i.opened.start in
      let said : told.latest ++ close_row ∷ [] ≡ item_calls (row i.r) = one_more close_row i.said in
      let item = next_item i.opened.between (row i.r) (i.small, (i.l, i.found, fields), tt) in
      record {
        stand =
            record {
              done = before ++ item_image (row i.r);
              at = spot x.book wants.Element 0 0 (x.rows + 1);
              inside = rw (← place) now.inside;
              good = now.good;
              shape = (same_between item refl refl refl (ap (λ (z : List Call). told.settled ++ z) (sym said)), refl);
            };
        is = leaves ∙ rw place;
      }

  -- Giving up: all stands over a buffer that has zeroes where the element was.
  pub keep_given_up : (next : List ℕ) → length next ≡ length buffer
      → drop now.at.start next ≡ replicate (length now.done - now.at.start) 0 ++ rest now
      → PassesHere now (does (state_at now.done now.at) (now.done ++ rest now) now.at.book give_up)
      → Inv next lent (tell told give_up) (left_here now (does (state_at now.done now.at) (now.done ++ rest now) now.at.book give_up))
  unfolding does
  keep_given_up next long zeroed p =
      let x = now.at in
      let o = opened_at x.turn told now.shape p.in_turn in
      let more : List ℕ = images octets_of told.latest in
      let start = o.start in
      let inside = now.inside in
      let sum : length now.done ≡ length o.before + length more = ap length o.is ∙ length-append o.before more in
      let size : length now.done - x.start ≡ length more = omega arith in
      let covers : replicate (length more) 0 ++ rest now ≡ drop (length o.before) next =
      subst (λ (n : ℕ). replicate n 0 ++ rest now ≡ drop (length o.before) next) size (sym zeroed ∙ ap (λ (n : ℕ). drop n next) start) in
      record {
        stand =
            record {
              done = o.before;
              at = spot x.book wants.Element 0 0 x.rows;
              inside = omega arith;
              good = now.good;
              shape = (same_between o.between refl refl refl (sym (append-nil told.settled)), refl);
            };
        is = give_up_leaves lent o.before more (rest now) now.done x o.is o.start
            ∙ ap (λ (z : List ℕ). standing lent o.before z (spot x.book wants.Element 0 0 x.rows)) covers;
      }

  pub keep_finish : (n : ℕ) → n < 2 ^ 64 → Keeps now (finish n)
  unfolding does calls_of
  keep_finish n small p =
      let x = now.at in
      let xs : List ℕ = word 4 3 ++ word 4 x.rows ++ word 8 n in
      let fits = p.fits in
      put_keeps now (adds told (finish n)) wants.Element wants.Nothing fine xs 0 x.start p λ (i, start) _ _.
      let d : Document = record { header = i.h; items = i.items; end = n } in
      let is : now.done ++ xs ≡ image d =
      behind xs i.is ∙ (append_assoc (header_image i.h) (images item_image i.items) xs
      ∙ (ap (λ (z : ℕ). header_image i.h ++ (images item_image i.items ++ (word 4 3 ++ word 4 z ++ word 8 n))) i.rows_is ∙ image_parts d)) in
      record {
        d = d;
        good =
            record {
              header = i.header;
              items = i.good;
              end = small;
              fits = omega (arith, ap length is, length-append now.done xs, room_small (length (now.done ++ rest now)));
            };
        is = is;
        said = sym (append_assoc told.settled told.latest (finish n ∷ [])) ∙ (one_more (finish n) i.said ∙ append_assoc (header_calls i.h) (each item_calls i.items) (finish n ∷ []));
        spot_is = rw (i.book_is, start, i.rows_is);
      }
