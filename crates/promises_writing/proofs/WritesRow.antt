-- The calls of a row whose layout is in the book put its image.
-- Its length stands as zero while values are put behind it, and closing puts it. Assumes nothing.
use Prim.Native.Nat.{ℕ, suc, ◌+◌, ◌^◌, ◌≤◌, ◌<◌}
use mathlib.Core.Path.{◌≡◌, refl, sym, ap, ◌∙◌}
use mathlib.Core.List.{List, [], ◌∷◌, ◌++◌, append_assoc, append-nil}
use mathlib.Core.Bool.{true}
use mathlib.Core.Option.{some}
use native.Mathlib.Omega.{arith}
use native.Mathlib.Nat.{add-zero, zero-add, le_refl}
use lib.ListN.{length, drop, length-append}
use lib.Seq.{drop-drop}
use borrow.Author.Tests.{le-leb, lt-ltb, eq-eqb}
use Rattle.octets.specs.Limits.{most_rows, book_room, most_attributes}
use Rattle.octets.specs.Writing.{word, images}
use Rattle.octets.proofs.Spans.{length_word}
use Rattle.kinds.specs.declared.Form.{Form}
use Rattle.kinds.specs.declared.Form.TheVariants as form
use Rattle.kinds.specs.Kinds.{code_of, form_of}
use Rattle.layouts.specs.Layout.{Attribute, Layout, GoodLayout}
use Rattle.layouts.specs.Book.{Book, find, book_image, GoodBook}
use Rattle.layouts.proofs.Finding.{each_find}
use Rattle.rows.specs.Row.{Field, Row, field_image, length_image, FieldsOf}
use Rattle.kinds.specs.Forms.{Value, bits, held, value_image, GoodValue}
use Rattle.elements.specs.Element.{row}
use Rattle.elements.specs.Document.{item_image}
use Rattle.elements.proofs.Behind.{holding_of}
use Rattle.writing_parts.specs.Faults.{Fault, fine, unless, ◌or◌}
use Rattle.writer.specs.declared.Wanted.TheVariants as wants
use Rattle.writer.specs.Writer.{open_row, value, close_row, room, in_book, row_layout, suits, value_breach, is_next, does}
use Rattle.writer.proofs.Tests.{length_size}
use Rattle.writer.proofs.Values.{unbroken}
use Rattle.writer.proofs.Calls.{Passes, accepted}
use Rattle.promises_writing.specs.Promise.{each, field_calls, item_calls, onto}
use Rattle.promises_writing.proofs.Calls.{Runs, runs_both, runs_one}
use Rattle.promises_writing.proofs.Standing.{Spot, spot, state_at, standing, row_layout_lem, close_leaves}
use Rattle.promises_writing.proofs.WritesHeader.{stand, room_same, Puts, puts_none, puts_both, ready_bounds, put_one}

good_suits : (f : Form) (v : Value) → GoodValue f v → suits f v ≡ true
good_suits (form.Fixed w) (bits n) g = lt-ltb n (256 ^ w) g
good_suits (form.Fixed w) (held xs) g = absurd g
good_suits form.Truth (bits n) g = le-leb n 1 g
good_suits form.Truth (held xs) g = absurd g
good_suits (form.Led rule) (bits n) g = absurd g
good_suits (form.Led rule) (held xs) g = refl

good_unbroken : (f : Form) (v : Value) → GoodValue f v → value_breach f v ≡ fine
good_unbroken (form.Fixed w) v g = refl
good_unbroken form.Truth v g = refl
good_unbroken (form.Led rule) (bits n) g = refl
good_unbroken (form.Led rule) (held xs) g = unbroken rule xs g.2

-- A good value of the next field is that field's, and breaks no rule.
good_next : (a : Attribute) (rest : List Attribute) (f : Field) → f.attribute ≡ a → GoodValue (form_of a.kind) f.value
    → (is_next (a ∷ rest) f.attribute.kind.basic f.value ≡ true) × (value_breach (form_of f.attribute.kind) f.value ≡ fine)
good_next a rest f e g =
    (rw (e, eq-eqb (code_of a.kind.basic) (code_of a.kind.basic) refl) (good_suits (form_of a.kind) f.value g), rw e (good_unbroken (form_of a.kind) f.value g))

module _ (buffer lent : List ℕ) (long : book_room ≤ length lent) (b : Book) (good : GoodBook b) (rows : ℕ) (few : rows < most_rows)
    (before : List ℕ) (r : Row) (l : Layout) (small : r.number < 2 ^ 32) (found : find r.number b ≡ some l) where
  -- The row's first twelve octets, its length as it was opened.
  top : List ℕ
  top = word 4 2 ++ word 4 r.number ++ length_image r.is_stated 0

  top_length : length top ≡ 12
  unfolding top
  top_length = simp (length-append, length_word, length_size) refl

  top_opens : (xs : List ℕ) → before ++ (top ++ xs) ≡ before ++ (word 4 2 ++ (word 4 r.number ++ (length_image r.is_stated 0 ++ xs)))
  unfolding top
  top_opens xs = simp append_assoc

  values_put : (rest : List Attribute) (fs : List Field) (k : ℕ) (got : List ℕ) → drop k l.attributes ≡ rest → k + length rest ≤ 64 → FieldsOf rest fs
      → Puts buffer lent (each field_calls fs) (images field_image fs) (before ++ (top ++ got)) (spot b wants.Value k (length before) rows) (spot b wants.Value (k + length rest) (length before) rows)
  unfolding images field_image does
  values_put [] [] k got e h g = rw (add-zero k) puts_none
  values_put [] (x ∷ fs) k got e h g = absurd g
  values_put (a ∷ rest) [] k got e h g = absurd g
  values_put (a ∷ rest) (x ∷ fs) k got e h g =
      let done : List ℕ = before ++ (top ++ got) in
      let size : length done ≡ length before + (12 + length got) = simp (length-append, top_length) refl in
      let at : Spot = spot b wants.Value k (length before) rows in
      let xs : List ℕ = value_image (form_of x.attribute.kind) x.value in
      let more : drop (k + 1) l.attributes ≡ rest = sym (drop-drop 1 k l.attributes) ∙ ap (drop 1) e in
      let last : k + suc (length rest) ≡ (k + 1) + length rest = omega arith in
      let fault : Fault = in_book (row_layout (state_at done at) (onto buffer done) b) λ m. unless (is_next (drop k m.attributes) x.attribute.kind.basic x.value) 21 or value_breach (form_of x.attribute.kind) x.value in
      let (next, unbroken_here) = good_next a rest x g.0 g.1 in
      let fine_next : fault ≡ fine =
      rw (row_layout_lem before (length_image r.is_stated 0 ++ got) (drop (length done) buffer) done at r.number l (top_opens got) refl small found, e, next, unbroken_here) in
      rw last
      (puts_both {a = field_calls x}
      (put_one buffer lent long (value x.attribute.kind.basic x.value) done xs at wants.Value (k + 1) (length before) fault good refl fine_next (omega arith))
      (rw (← append_assoc top got xs, ← append_assoc before (top ++ got) xs) at (values_put rest fs (k + 1) (got ++ xs) more (omega arith) g.2)))

  whole : List ℕ
  whole = before ++ (top ++ images field_image r.fields)

  close_one : length l.attributes ≤ most_attributes → length whole ≤ room (length buffer)
      → Runs (close_row ∷ []) (stand buffer lent whole (spot b wants.Value (length l.attributes) (length before) rows))
      (stand buffer lent (before ++ item_image (row r)) (spot b wants.Element 0 0 (rows + 1)))
  unfolding does whole
  close_one many f =
      let at : Spot = spot b wants.Value (length l.attributes) (length before) rows in
      let rest : List ℕ = drop (length whole) buffer in
      let opens = top_opens (images field_image r.fields) in
      let long_top = top_length in
      let size : length whole ≡ length before + (12 + length (images field_image r.fields)) = simp (length-append, top_length) refl in
      let (leaves, place) = close_leaves lent before rest whole at r opens refl in
      let p : Passes (state_at whole at) (onto buffer whole) (length (book_image b)) b (does (state_at whole at) (onto buffer whole) b close_row) =
      record {
        inside = ready_bounds buffer whole at (omega arith) f;
        in_turn = refl;
        faultless = rw (row_layout_lem before (length_image r.is_stated 0 ++ images field_image r.fields) rest whole at r.number l opens refl small found, le-leb (length l.attributes) (length l.attributes) (le_refl (length l.attributes)));
        learnt = refl;
        fits = rw (room_same buffer whole f, length_size) (omega arith);
      } in
      let stands = leaves ∙ ap (λ (n : ℕ). standing lent (before ++ item_image (row r)) (drop n buffer) (spot b wants.Element 0 0 (rows + 1))) place in
      runs_one close_row (stand buffer lent whole at)
      (rw stands at
      (accepted (state_at whole at) (onto buffer whole) (onto lent (book_image b)) (length (book_image b)) (holding_of b lent good long) close_row p))

  pub row_put : FieldsOf l.attributes r.fields → Puts buffer lent (item_calls (row r)) (item_image (row r)) before (spot b wants.Element 0 0 rows) (spot b wants.Element 0 0 (rows + 1))
  unfolding does top whole
  row_put g =
      let many : length l.attributes ≤ most_attributes = (each_find GoodLayout r.number b l good.good found).few in
      let place = (close_leaves lent before [] whole (spot b wants.Value 0 (length before) rows) r (top_opens (images field_image r.fields)) refl).1 in
      let opens : Puts buffer lent (open_row r.number r.is_stated ∷ []) top before (spot b wants.Element 0 0 rows) (spot b wants.Value 0 (length before) rows) =
      put_one buffer lent long (open_row r.number r.is_stated) before top (spot b wants.Element 0 0 rows) wants.Value 0 (length before) (in_book (find r.number b) λ _. fine) good refl (rw found) (omega arith) in
      let values : Puts buffer lent (each field_calls r.fields) (images field_image r.fields) (before ++ top) (spot b wants.Value 0 (length before) rows) (spot b wants.Value (length l.attributes) (length before) rows) =
      rw (append-nil top, zero-add (length l.attributes)) at (values_put l.attributes r.fields 0 [] refl (omega arith) g) in
      let all = append_assoc before top (images field_image r.fields) in
      record {
        runs = λ h.
            let fits : length ((before ++ top) ++ images field_image r.fields) ≤ room (length buffer) = omega (arith, ap length all) in
            let sum = length-append (before ++ top) (images field_image r.fields) in
            runs_both {a = open_row r.number r.is_stated ∷ []} (opens.runs (omega arith))
            (runs_both {a = each field_calls r.fields} (rw all at (values.runs fits)) (close_one many (omega arith)));
      }
