-- The calls of a layout that can be learnt put its image, and the book takes it.
-- Up to the last call octets are put behind those written; that one completes the layout. Assumes nothing.
use Prim.Native.Nat.{ℕ, suc, ◌+◌, ◌-◌, ◌≤◌, ◌<◌}
use mathlib.Core.Path.{◌≡◌, refl, sym, ap, ◌∙◌}
use mathlib.Core.List.{List, [], ◌∷◌, ◌++◌, append_assoc, append-nil}
use native.Mathlib.Omega.{arith}
use lib.ListN.{length, drop, length-append}
use lib.Dec.{leb, eqb-suc-zero}
use lib.Arith.{digits_mod}
use borrow.Author.Tests.{le-leb, eq-eqb}
use Rattle.octets.specs.Limits.{most_rows, book_room, most_attributes}
use Rattle.octets.specs.Reading.{ok}
use Rattle.octets.specs.Writing.{word, images, Each}
use Rattle.octets.proofs.Spans.{length_word}
use Rattle.texts.specs.Texts.{led_image}
use Rattle.texts.specs.declared.Rule.TheVariants.{Characters}
use Rattle.kinds.specs.declared.Kind.{Kind}
use Rattle.kinds.specs.Kinds.{number_of, kind_of}
use Rattle.kinds.proofs.Table.{code_known, kind_some}
use Rattle.layouts.specs.Layout.{Attribute, Layout, attribute_image, layout_image, GoodAttribute, GoodLayout}
use Rattle.layouts.specs.Book.{Book, book_image, learn, GoodBook}
use Rattle.layouts.proofs.Growing.{learnt}
use Rattle.elements.specs.Element.{layout}
use Rattle.elements.specs.Document.{item_image}
use Rattle.elements.proofs.Behind.{holding_of}
use Rattle.writing_parts.specs.Faults.{Fault, fine, unless, refused_by}
use Rattle.writer.specs.declared.Wanted.{Wanted}
use Rattle.writer.specs.declared.Wanted.TheVariants as wants
use Rattle.writer.specs.Writer.{Call, open_layout, type_name, attribute_count, attribute_name, attribute_type, order_of, attributes, does, breach}
use Rattle.writer.proofs.Values.{unbroken}
use Rattle.writer.proofs.Calls.{Passes, accepted}
use Rattle.promises_writing.specs.Promise.{each, attribute_calls, item_calls, onto}
use Rattle.promises_writing.proofs.Calls.{runs_one}
use Rattle.promises_writing.proofs.Standing.{Spot, spot, state_at, drop_on, behind, so_far, takes_learnt, complete_leaves}
use Rattle.promises_writing.proofs.WritesHeader.{stand, room_same, Puts, puts_both, puts_as, Ready, ready_bounds, put_one}

-- A good type is no fault.
kind_taken : (k : Kind) → k.derived < 256 → (at next : ℕ) → refused_by (kind_of at (number_of k) next) ≡ fine
kind_taken k g at next =
    let c = (code_known k.basic).1 in
    rw (kind_some at (number_of k) next k.basic (omega arith) (sym (digits_mod k.derived (omega arith))))

layout_starts : (l : Layout)
    → layout_image l ≡ word 4 l.number ++ (led_image l.type_name ++ (word 4 (length l.attributes) ++ images attribute_image l.attributes))
unfolding layout_image
layout_starts l = simp append_assoc

module _ (buffer lent : List ℕ) (long : book_room ≤ length lent) (b : Book) (good : GoodBook b) (rows : ℕ) (few : rows ≤ most_rows)
    (before : List ℕ) (l : Layout) (next : Book) (inside : GoodLayout l) (learns : learn b l 0 ≡ ok next 0) where
  -- The call that completes the layout.
  complete_one : (c : Call) (done more xs : List ℕ) (t : Wanted) (k : ℕ) (fault : Fault) → done ≡ before ++ more → 4 ≤ length more
      → more ++ xs ≡ word 4 1 ++ layout_image l
      → does (state_at done (spot b t k (length before) rows)) (onto buffer done) b c ≡ attributes (state_at done (spot b t k (length before) rows)) t fault xs 0
      → fault ≡ fine → Ready (spot b t k (length before) rows) (length done)
      → Puts buffer lent (c ∷ []) xs done (spot b t k (length before) rows) (spot next wants.Element 0 0 rows)
  complete_one c done more xs t k fault form low whole e f r =
      record {
        runs = λ h.
            let x : Spot = spot b t k (length before) rows in
            let sum = length-append done xs in
            let is = so_far before more (drop (length done) buffer) xs done x l form refl low whole in
            let found = takes_learnt lent b l next inside (learnt b l 0 next 0 learns) in
            let p : Passes (state_at done x) (onto buffer done) (length (book_image b)) b (attributes (state_at done x) t fault xs 0) =
            record {
              inside = ready_bounds buffer done x r (omega arith);
              in_turn = eq-eqb (order_of t) (order_of t) refl;
              faultless = f;
              learnt = rw is found.learnt;
              fits = rw (room_same buffer done (omega arith)) (omega arith);
            } in
            runs_one c (stand buffer lent done x)
            (rw (e, complete_leaves lent done (drop (length done) buffer) x t fault xs l next found is, drop_on buffer done xs) at
            (accepted (state_at done x) (onto buffer done) (onto lent (book_image b)) (length (book_image b)) (holding_of b lent good long) c (rw e p)));
      }

  attributes_put : (rest : List Attribute) (a : Attribute) (done more : List ℕ) → done ≡ before ++ more → 8 ≤ length more → length rest < 64
      → Each GoodAttribute (a ∷ rest) → more ++ images attribute_image (a ∷ rest) ≡ word 4 1 ++ layout_image l
      → Puts buffer lent (each attribute_calls (a ∷ rest)) (images attribute_image (a ∷ rest)) done (spot b wants.AttributeName (suc (length rest)) (length before) rows) (spot next wants.Element 0 0 rows)
  unfolding images attribute_image does
  attributes_put [] a done more form low h g whole =
      let t : ℕ = number_of a.kind in
      let size = ap length form ∙ length-append before more in
      let place : ℕ = length (done ++ led_image a.name) in
      let fault : Fault = refused_by (kind_of place t (place + 4)) in
      puts_as (sym (append-nil (led_image a.name ++ word 4 t)))
      (puts_both {a = attribute_name a.name ∷ []} {b = attribute_type t ∷ []}
      (put_one buffer lent long (attribute_name a.name) done (led_image a.name) (spot b wants.AttributeName 1 (length before) rows) wants.AttributeType 1 (length before)
      (breach Characters a.name) good refl (unbroken Characters a.name g.0.name.2) (omega arith))
      (complete_one (attribute_type t) (done ++ led_image a.name) (more ++ led_image a.name) (word 4 t) wants.AttributeType 1 fault
      (behind (led_image a.name) form ∙ append_assoc before more (led_image a.name)) (rw length-append (omega arith)) (simp append_assoc (simp (append_assoc, append-nil) at whole)) refl
      (kind_taken a.kind g.0.derived place (place + 4)) (rw (length-append done (led_image a.name)) (omega arith))))
  attributes_put (a₂ ∷ rest) a done more form low h g whole =
      let t : ℕ = number_of a.kind in
      let size = ap length form ∙ length-append before more in
      let place : ℕ = length (done ++ led_image a.name) in
      let fault : Fault = refused_by (kind_of place t (place + 4)) in
      let less : suc (suc (length rest)) - 1 ≡ suc (length rest) = omega arith in
      let image : List ℕ = led_image a.name ++ word 4 t in
      puts_both {a = attribute_calls a}
      (puts_both {a = attribute_name a.name ∷ []} {b = attribute_type t ∷ []}
      (put_one buffer lent long (attribute_name a.name) done (led_image a.name) (spot b wants.AttributeName (suc (suc (length rest))) (length before) rows) wants.AttributeType (suc (suc (length rest))) (length before)
      (breach Characters a.name) good refl (unbroken Characters a.name g.0.name.2) (omega arith))
      (put_one buffer lent long (attribute_type t) (done ++ led_image a.name) (word 4 t) (spot b wants.AttributeType (suc (suc (length rest))) (length before) rows) wants.AttributeName (suc (length rest)) (length before)
      fault good (rw (less, eqb-suc-zero (length rest))) (kind_taken a.kind g.0.derived place (place + 4)) (rw (length-append done (led_image a.name)) (omega arith))))
      (attributes_put rest a₂ (done ++ image) (more ++ image) (behind image form ∙ append_assoc before more image) (rw length-append (omega arith)) (omega arith) g.1
      (simp append_assoc (simp append_assoc at whole)))

  counted_put : (all : List Attribute) (done more : List ℕ) → done ≡ before ++ more → 8 ≤ length more → length all ≤ 64 → Each GoodAttribute all
      → more ++ (word 4 (length all) ++ images attribute_image all) ≡ word 4 1 ++ layout_image l
      → Puts buffer lent ((attribute_count (length all) ∷ []) ++ each attribute_calls all) (word 4 (length all) ++ images attribute_image all) done
      (spot b wants.AttributeCount 0 (length before) rows) (spot next wants.Element 0 0 rows)
  unfolding images does
  counted_put [] done more form low h g whole =
      let size = ap length form ∙ length-append before more in
      puts_as (sym (append-nil (word 4 0)))
      (complete_one (attribute_count 0) done more (word 4 0) wants.AttributeCount 0 (unless (leb 0 most_attributes) 4) form (omega arith) (rw append-nil at whole) refl refl (omega arith))
  counted_put (a ∷ rest) done more form low h g whole =
      let size = ap length form ∙ length-append before more in
      let k : ℕ = suc (length rest) in
      puts_both {a = attribute_count k ∷ []}
      (put_one buffer lent long (attribute_count k) done (word 4 k) (spot b wants.AttributeCount 0 (length before) rows) wants.AttributeName k (length before)
      (unless (leb k most_attributes) 4) good (rw (eqb-suc-zero (length rest))) (rw (le-leb k most_attributes h)) (omega arith))
      (attributes_put rest a (done ++ word 4 k) (more ++ word 4 k) (behind (word 4 k) form ∙ append_assoc before more (word 4 k)) (rw length-append (omega arith)) h g
      (simp append_assoc whole))

  pub layout_put : Puts buffer lent (item_calls (layout l)) (item_image (layout l)) before (spot b wants.Element 0 0 rows) (spot next wants.Element 0 0 rows)
  unfolding does
  layout_put =
      let top : List ℕ = word 4 1 ++ word 4 l.number in
      let name : List ℕ = led_image l.type_name in
      let long_top : length top ≡ 8 = length-append (word 4 1) (word 4 l.number) ∙ omega (arith, length_word 4 1, length_word 4 l.number) in
      puts_as (rw (layout_starts l) (simp append_assoc))
      (puts_both {a = open_layout l.number ∷ []}
      (put_one buffer lent long (open_layout l.number) before top (spot b wants.Element 0 0 rows) wants.TypeName 0 (length before) fine good refl refl (omega arith))
      (puts_both {a = type_name l.type_name ∷ []}
      (put_one buffer lent long (type_name l.type_name) (before ++ top) name (spot b wants.TypeName 0 (length before) rows) wants.AttributeCount 0 (length before)
      (breach Characters l.type_name) good refl (unbroken Characters l.type_name inside.type_name.2) (rw (length-append before top) (omega arith)))
      (counted_put l.attributes ((before ++ top) ++ name) (top ++ name) (append_assoc before top name) (rw (length-append top name) (omega arith)) inside.few inside.attributes
      (rw (layout_starts l) (simp append_assoc)))))
