-- A call gives no refusal number but those listed for it: 17, 20, those of its own fault, 10 and 11 where it may complete a layout, and 23 where it puts octets behind the place. Assumes nothing.
use Prim.Native.Nat.{ℕ, ◌+◌, ◌-◌, ◌^◌, ◌%◌, ◌≤◌}
use mathlib.Core.Path.{◌≡◌, refl, sym, subst}
use mathlib.Core.List.{List}
use mathlib.Core.Bool.{Bool, true, false, ◌&&◌}
use mathlib.Core.Option.{Option, some, none}
use mathlib.Core.Logic.{inl, inr}
use native.Mathlib.Omega.{arith}
use Rattle.std.specs.Prelude.{Result, Ok, Err}
use lib.ListN.{length, drop, length-replicate}
use lib.Dec.{leb, ltb, eqb}
use borrow.Author.Tests.{le-leb}
use Rattle.octets.specs.declared.Fault as octets
use Rattle.octets.specs.Limits.{most_attributes, most_listed}
use Rattle.octets.specs.Reading.{Read, ok, no, choose, is_ok, be}
use Rattle.octets.specs.Faults.{number_of}
use Rattle.octets.proofs.Copies.{both_true}
use Rattle.texts.specs.Texts as texts
use Rattle.texts.specs.declared.Rule.{Rule}
use Rattle.texts.specs.declared.Rule.TheVariants.{Free, Characters}
use Rattle.kinds.specs.declared.Basic.{Basic}
use Rattle.kinds.specs.declared.Form.{Form}
use Rattle.kinds.specs.declared.Form.TheVariants as form
use Rattle.kinds.specs.Kinds.{basic_of, kind_of}
use Rattle.kinds.specs.Kinds as kinds
use Rattle.layouts.specs.Layout.{Layout}
use Rattle.layouts.specs.Book.{find, book_of, book_in}
use Rattle.layouts.specs.declared.Learning.{Learning}
use Rattle.layouts.specs.declared.Learning.TheVariants as learning
use Rattle.layouts.proofs.Judging.{Learned, learned}
use Rattle.writing_parts.specs.Faults.{Fault, None, Refused, fine, unless, refused_by, ◌or◌}
use Rattle.writing_parts.specs.Answers.{learning_of, refusal}
use Rattle.writing_parts.proofs.Faults.{fine_not, same_number, both_fine, holds}
use Rattle.kinds.specs.Forms.{Value, bits, held}
use Rattle.promises.specs.Refusals.{Only}
use Rattle.promises.proofs.Numbers.{taken, given, In, only_choose}
use Rattle.writer.specs.declared.Wanted.TheVariants as wants
use Rattle.writer.specs.declared.State.{State}
use Rattle.writer.specs.Writer.{Call, namespace_count, service_count, document_id, attribute_count, attribute_type, open_row, value, close_row, give_up, Written, room, bounded, Deed, in_book, row_layout, is_next, breach, value_breach, does, layout_so_far, learns, fault_of, answer_by, deed_answer, call}
use Rattle.writer.proofs.Bounds.{Bounds, bounds, open_head}
use Rattle.writer.proofs.Tests.{length_size}
use Rattle.writer.proofs.Values.{number_free}

-- A fault of no other number.
record OnlyFault (ns : List ℕ) (f : Fault) : Type 0 where
  number : (n : ℕ) → f ≡ Refused n → In ns n

module _ {ns : List ℕ} where
  fine_only : OnlyFault ns fine
  fine_only = record { number = λ n e. absurd (fine_not e refl) }

  refused_only : (n : ℕ) → In ns n → OnlyFault ns (Refused n)
  refused_only n h = record { number = λ m e. subst (In ns) (same_number e) h }

  unless_only : (t : Bool) (n : ℕ) → In ns n → OnlyFault ns (unless t n)
  unless_only true n h = fine_only
  unless_only false n h = refused_only n h

  or_only : (f g : Fault) → OnlyFault ns f → (f ≡ fine → OnlyFault ns g) → OnlyFault ns (f or g)
  or_only None g h k = k refl
  or_only (Refused n) g h k = h

  in_book_only : In ns 12 → (o : Option Layout) (ask : Layout → Fault) → ((l : Layout) → OnlyFault ns (ask l)) → OnlyFault ns (in_book o ask)
  in_book_only h (some l) ask k = k l
  in_book_only h none ask k = refused_only 12 h

  read_only : {A : Type 0} (r : Read A) → Only ns r → OnlyFault ns (refused_by r)
  read_only (ok a next) h = fine_only
  read_only (no n p) h = refused_only n (h.number n p refl)

  kind_only : In ns 9 → In ns 8 → (at t next : ℕ) → Only ns (kind_of at t next)
  kind_only nine eight at t next = only_choose (leb (2 ^ 31) t) _ _ (given 9 at nine) (only_choose (ltb t 0x10000) _ _ (go (basic_of (t % 256))) (given 8 at eight))
    where
      go : (o : Option Basic) → Only ns (kinds.kind_for at t next o)
      go (some b) = taken _ next
      go none = given 8 at eight

  breach_only : In ns 24 → (rule : Rule) (xs : List ℕ) → OnlyFault ns (breach rule xs)
  breach_only h Free xs = fine_only
  breach_only h Characters xs = unless_only (texts.holds Characters xs) 24 h

  value_breach_only : In ns 24 → (f : Form) (v : Value) → OnlyFault ns (value_breach f v)
  value_breach_only h (form.Fixed w) v = fine_only
  value_breach_only h form.Truth v = fine_only
  value_breach_only h (form.Led rule) (bits n) = fine_only
  value_breach_only h (form.Led rule) (held xs) = breach_only h rule xs

  answer_only : (f : Fault) (at : ℕ) (w : Written) → OnlyFault ns f → Only ns (answer_by f at w)
  answer_only None at w h = taken w w.state.place
  answer_only (Refused n) at w h = given n at (h.number n refl)

module _ (s : State) (buffer lent : List ℕ) (used : ℕ) where
  -- What the book makes of a deed, and whether its octets have room.
  abbrev learnt : Deed → Fault
  learnt d = refusal (learns s buffer (book_in lent used) used d)

  abbrev fits : Deed → Bool
  fits d = leb (d.at + length d.octets) (room (length buffer))

  abbrev deed : Call → Deed
  deed c = does s buffer (book_in lent used) c

  module _ {ns : List ℕ} (no_book : In ns 17) (no_turn : In ns 20) where
    -- A deed by its tests in their order.
    deed_only : (d : Deed) → OnlyFault ns d.fault → OnlyFault ns (learnt d) → (Bounds s (length buffer) → d.in_turn ≡ true → OnlyFault ns (unless (fits d) 23)) → Only ns (deed_answer s buffer lent used d)
    unfolding deed_answer fault_of
    deed_only d own new room_for =
        answer_only _ s.place _
        (or_only _ (unless (fits d) 23)
        (or_only _ (learnt d)
        (or_only _ d.fault
        (or_only (unless (is_ok (book_of lent used)) 17) _ (unless_only (is_ok (book_of lent used)) 17 no_book) (λ _. unless_only (bounded s (length buffer) && d.in_turn) 20 no_turn))
        (λ _. own)) (λ _. new))
        (λ e.
        let (e₁, _) = both_fine _ (learnt d) e in
        let (e₂, _) = both_fine _ d.fault e₁ in
        let (_, e₃) = both_fine (unless (is_ok (book_of lent used)) 17) _ e₂ in
        let (within, turn) = both_true _ _ (holds (bounded s (length buffer) && d.in_turn) 20 e₃) in
        room_for (bounds s (length buffer) within) turn))

    -- A call that completes no layout, and one that may.
    field_only : In ns 23 → (c : Call) → OnlyFault ns (deed c).fault → (deed c).completes ≡ false → Only ns (call s buffer lent used c)
    unfolding call
    field_only full c own none_done = deed_only (deed c) own (rw none_done fine_only) (λ _ _. unless_only (fits (deed c)) 23 full)

    layout_only : In ns 23 → In ns 10 → In ns 11 → (c : Call) → OnlyFault ns (deed c).fault → Only ns (call s buffer lent used c)
    unfolding call
    layout_only full ten eleven c own = deed_only (deed c) own (go (deed c).completes) (λ _ _. unless_only (fits (deed c)) 23 full)
      where
        xs : List ℕ
        xs = layout_so_far s buffer (deed c).octets

        made : (x : Result Learning octets.Fault) → Learned (book_in lent used) used (be 4 xs 0) xs x → OnlyFault ns (refusal x)
        made (Ok learning.Known) w = fine_only
        made (Ok (learning.New v)) w = fine_only
        made (Err f) (inl e) = refused_only (number_of f) (subst (λ (g : octets.Fault). In ns (number_of g)) (sym e) ten)
        made (Err f) (inr e) = refused_only (number_of f) (subst (λ (g : octets.Fault). In ns (number_of g)) (sym e) eleven)

        go : (t : Bool) → OnlyFault ns (refusal (choose t (λ _. learning_of (book_in lent used) used xs) (λ _. Ok learning.Known)))
        go false = fine_only
        go true = made (learning_of (book_in lent used) used xs) (learned (book_in lent used) used (be 4 xs 0) xs)

    -- A field with nothing of its own to refuse.
    pub plain_only : In ns 23 → (c : Call) → (deed c).fault ≡ fine → (deed c).completes ≡ false → Only ns (call s buffer lent used c)
    plain_only full c own none_done = field_only full c (rw own fine_only) none_done

    module _ (full : In ns 23) where
      -- A string, whose own fault is 24.
      pub text_only : In ns 24 → (c : Call) (xs : List ℕ) → (deed c).fault ≡ breach Characters xs → (deed c).completes ≡ false → Only ns (call s buffer lent used c)
      text_only bad c xs own none_done = field_only full c (rw own (breach_only bad Characters xs)) none_done

      pub namespaces_only : In ns 4 → (n : ℕ) → Only ns (call s buffer lent used (namespace_count n))
      unfolding does
      namespaces_only four n = field_only full (namespace_count n) (unless_only (leb n most_listed) 4 four) refl

      pub services_only : In ns 4 → (n : ℕ) → Only ns (call s buffer lent used (service_count n))
      unfolding does
      services_only four n = field_only full (service_count n) (unless_only (leb n most_listed) 4 four) refl

      pub id_only : In ns 5 → (xs : List ℕ) → Only ns (call s buffer lent used (document_id xs))
      unfolding does
      id_only five xs = field_only full (document_id xs) (unless_only (eqb (length xs) 16) 5 five) refl

      pub attributes_only : In ns 4 → In ns 10 → In ns 11 → (n : ℕ) → Only ns (call s buffer lent used (attribute_count n))
      unfolding does
      attributes_only four ten eleven n = layout_only full ten eleven (attribute_count n) (unless_only (leb n most_attributes) 4 four)

      pub type_only : In ns 9 → In ns 8 → In ns 10 → In ns 11 → (t : ℕ) → Only ns (call s buffer lent used (attribute_type t))
      unfolding does
      type_only nine eight ten eleven t = layout_only full ten eleven (attribute_type t) (read_only (kind_of s.place t (s.place + 4)) (kind_only nine eight s.place t (s.place + 4)))

      pub open_row_only : In ns 12 → (n : ℕ) (stated : Bool) → Only ns (call s buffer lent used (open_row n stated))
      unfolding does
      open_row_only twelve n stated =
          field_only full (open_row n stated) (in_book_only twelve (find n (book_in lent used)) _ λ _. fine_only) refl

      module _ (twelve : In ns 12) (other : In ns 21) (b : Basic) where
        given_only : (v : Value) → OnlyFault ns (value_breach (kinds.form_by b) v) → Only ns (call s buffer lent used (value b v))
        unfolding does
        given_only v own =
            field_only full (value b v)
            (in_book_only twelve (row_layout s buffer (book_in lent used)) _ λ l.
            or_only _ _ (unless_only (is_next (drop s.count l.attributes) b v) 21 other) λ _. own) refl

        pub number_only : (n : ℕ) → Only ns (call s buffer lent used (value b (bits n)))
        number_only n = given_only (bits n) (rw (← number_free (kinds.form_by b) n) fine_only)

        pub value_only : In ns 24 → (v : Value) → Only ns (call s buffer lent used (value b v))
        value_only bad v = given_only v (value_breach_only bad (kinds.form_by b) v)

    -- A call that puts its octets over some that stand: there is room.
    inside_only : (c : Call) → OnlyFault ns (deed c).fault → (deed c).completes ≡ false
        → (Bounds s (length buffer) → (deed c).in_turn ≡ true → (deed c).at + length (deed c).octets ≤ s.place) → Only ns (call s buffer lent used c)
    unfolding call
    inside_only c own none_done low =
        deed_only (deed c) own (rw none_done fine_only) λ w turn.
        let place = w.place in
        let under = low w turn in
        let yes : fits (deed c) ≡ true = le-leb ((deed c).at + length (deed c).octets) (room (length buffer)) (omega arith) in
        rw yes fine_only

    pub close_only : In ns 12 → In ns 22 → Only ns (call s buffer lent used close_row)
    unfolding does
    close_only twelve missing =
        inside_only close_row
        (in_book_only twelve (row_layout s buffer (book_in lent used)) _ λ l. unless_only (leb (length l.attributes) s.count) 22 missing) refl
        (λ w turn.
        let stated : Bool = ltb (be 4 buffer (s.start + 8)) 0xffffffff in
        let four = length_size stated (s.place - (s.start + 12)) in
        let head = open_head s (length buffer) w wants.Value turn (omega arith) in
        omega arith)

    pub give_up_only : Only ns (call s buffer lent used give_up)
    unfolding does
    give_up_only =
        inside_only give_up fine_only refl
        (λ w turn.
        let head = w.head turn in
        let long = length-replicate {A = ℕ} (s.place - s.start) 0 in
        omega arith)
