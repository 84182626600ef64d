-- What an accepted call keeps: lengths, all behind the room and behind the book, and a state that is inside its bounds again; so 20 is then for a call out of turn alone. Assumes nothing.
use mathlib.Core.Path.{◌≡◌, refl, sym, ap, ◌∙◌, subst}
use mathlib.Core.List.{List, [], ◌∷◌, ◌++◌}
use mathlib.Core.Logic.{◌⊎◌, inl, inr}
use mathlib.Core.Bool.{Bool, true, false}
use mathlib.Core.Option.{Option, some, none}
use Prim.Native.Nat.{ℕ, zero, suc, ◌+◌, ◌-◌, ◌≤◌, ◌<◌}
use native.Mathlib.Omega.{arith}
use native.Mathlib.Nat.{le_refl}
use lib.ListN.{length, drop, length-append, length-drop, length-replicate}
use lib.Dec.{leb, ltb, eqb}
use borrow.Author.Tests.{leb-true, leb-false, eqb-true, eqb-false, ltb-true}
use Rattle.std.specs.Prelude.{Ok}
use Rattle.octets.specs.Limits.{most_rows, book_room, most_attributes, most_listed}
use Rattle.octets.specs.Reading.{ok, choose, is_ok, be}
use Rattle.octets.specs.Writing.{word, Each, Octet}
use Rattle.octets.proofs.Spans.{length_word}
use Rattle.texts.specs.Texts.{led_image}
use Rattle.kinds.specs.declared.Basic.{Basic}
use Rattle.kinds.specs.Kinds.{kind_of}
use Rattle.layouts.specs.Layout.{Attribute, Layout, GoodLayout}
use Rattle.layouts.specs.Book.{Book, find, book_of, book_in}
use Rattle.layouts.specs.declared.Learning.TheVariants.{Known}
use Rattle.layouts.proofs.Books.{book_forth}
use Rattle.layouts.proofs.Finding.{each_find}
use Rattle.layouts.proofs.Checks.{book_short, book_over}
use Rattle.rows.specs.Row.{length_image}
use Rattle.kinds.specs.Forms.{Value}
use Rattle.writing_parts.specs.Faults.{Fault, fine, unless, refused_by}
use Rattle.writing_parts.specs.Answers.{learning_of, added}
use Rattle.writing_parts.proofs.Faults.{both_fine, fine_not, holds}
use Rattle.writing_parts.proofs.Over.{over_length, over_behind}
use Rattle.writing_parts.proofs.Meets.{added_fits}
use Rattle.writer.specs.declared.Wanted.{Wanted}
use Rattle.writer.specs.declared.Wanted.TheVariants as wants
use Rattle.writer.specs.declared.State.{State}
use Rattle.writer.specs.Writer.{Call, recorder, start_time, default_namespace, namespace_count, uri, short_name, service_count, service, document_id, open_layout, type_name, attribute_count, attribute_name, attribute_type, open_row, value, close_row, give_up, finish}
use Rattle.writer.specs.Writer.{Written, room, asks, Deed, attributes, between, turn_at, in_book, row_layout, is_next, does, layout_so_far, taken, left_by, call}
use Rattle.writer.proofs.Bounds.{Bounds, turn_count, open_head}
use Rattle.writer.proofs.Tests.{length_size}
use Rattle.writer.proofs.Calls.{accepted_is}

true_false : true ≡ false → ⊥
true_false e = let z : ◌≡◌ {A = ℕ} 0 1 = cc in omega arith

-- Where a call puts its octets: behind those written, with the place behind them; or among them.
abbrev Puts : State → Deed → Type 0
Puts s d = ((d.at ≡ s.place) × (d.next.place ≡ d.at + length d.octets)) ⊎ ((d.at + length d.octets ≤ s.place) × (d.next.place ≤ s.place))

attributes_put : (s : State) (turn : Wanted) (f : Fault) (xs : List ℕ) (n : ℕ) → Puts s (attributes s turn f xs n)
attributes_put s turn f xs n = go (eqb n 0)
  where
    go : (t : Bool) → (◌≡◌ {A = ℕ} s.place s.place
        × ((choose t (λ _. between (s.place + length xs) s.rows)
        (λ _. record { place = s.place + length xs; turn = wants.AttributeName; count = n; start = s.start; rows = s.rows })).place
        ≡ s.place + length xs))
        ⊎ (s.place + length xs ≤ s.place) × ((choose t (λ _. between (s.place + length xs) s.rows)
        (λ _. record { place = s.place + length xs; turn = wants.AttributeName; count = n; start = s.start; rows = s.rows })).place ≤ s.place)
    go true = inl (refl, refl)
    go false = inl (refl, refl)

module _ (s : State) (buffer : List ℕ) (book : Book) (w : Bounds s (length buffer)) where
  puts : (c : Call) → (does s buffer book c).in_turn ≡ true → Puts s (does s buffer book c)
  unfolding does
  puts (recorder xs) e = inl (refl, refl)
  puts (start_time n) e = inl (refl, refl)
  puts (default_namespace xs) e = inl (refl, refl)
  puts (namespace_count n) e = inl (refl, refl)
  puts (uri xs) e = inl (refl, refl)
  puts (short_name xs) e = inl (refl, refl)
  puts (service_count n) e = inl (refl, refl)
  puts (service xs) e = inl (refl, refl)
  puts (document_id xs) e = inl (refl, refl)
  puts (open_layout n) e = inl (refl, refl)
  puts (type_name xs) e = inl (refl, refl)
  puts (attribute_count n) e = attributes_put s wants.AttributeCount (unless (leb n most_attributes) 4) (word 4 n) n
  puts (attribute_name xs) e = inl (refl, refl)
  puts (attribute_type t) e = attributes_put s wants.AttributeType (refused_by (kind_of s.place t (s.place + 4))) (word 4 t) (s.count - 1)
  puts (open_row n stated) e = inl (refl, refl)
  puts (value b v) e = inl (refl, refl)
  puts close_row e =
      let stated : Bool = ltb (be 4 buffer (s.start + 8)) 0xffffffff in
      let four = length_size stated (s.place - (s.start + 12)) in
      let head = open_head s (length buffer) w wants.Value e (omega arith) in
      inr (omega arith, le_refl s.place)
  puts give_up e =
      let head = w.head e in
      let long = length-replicate {A = ℕ} (s.place - s.start) 0 in
      inr (omega arith, omega arith)
  puts (finish n) e = inl (refl, refl)

next_place : (s : State) (d : Deed) (k : ℕ) → s.place ≤ k → d.at + length d.octets ≤ k → Puts s d → d.next.place ≤ k
next_place s d k h m (inl p) = omega (arith, p)
next_place s d k h m (inr p) = omega (arith, p)

-- A lent book's octets, and what it takes.
book_room_lem : (lent : List ℕ) (used : ℕ) {b : Book} {m : ℕ} → book_of lent used ≡ ok b m → (book_room ≤ length lent) × (used ≤ book_room)
book_room_lem lent used e = go (leb book_room (length lent)) (leb used book_room) refl refl
  where
    go : (t u : Bool) → leb book_room (length lent) ≡ t → leb used book_room ≡ u → (book_room ≤ length lent) × (used ≤ book_room)
    go true true f g = (leb-true _ _ f, leb-true _ _ g)
    go false u f g = absurd (true_false (ap is_ok (sym e) ∙ book_short lent used (leb-false _ _ f)))
    go true false f g = absurd (true_false (ap is_ok (sym e) ∙ book_over lent used (leb-true _ _ f) (leb-false _ _ g)))

new_fits : (s : State) (buffer : List ℕ) (book : Book) (used : ℕ) (d : Deed) → used ≤ book_room → used + length (taken s buffer book used d) ≤ book_room
new_fits s buffer book used d h = go d.completes
  where
    xs : List ℕ
    xs = layout_so_far s buffer d.octets

    go : (t : Bool) → used + length (added (choose t (λ _. learning_of book used xs) (λ _. Ok Known)) xs) ≤ book_room
    go false = omega arith
    go true = added_fits book used xs h

room_long : (size : ℕ) → room size ≤ size
unfolding room
room_long size = omega arith

pub record Kept (buffer lent : List ℕ) (w : Written) : Type 0 where
  pub buffer_length : length w.buffer ≡ length buffer
  pub book_length : length w.book ≡ length lent
  pub place : w.state.place ≤ room (length buffer)
  pub used : w.used ≤ book_room
  pub behind_room : drop (room (length buffer)) w.buffer ≡ drop (room (length buffer)) buffer
  pub behind_book : drop book_room w.book ≡ drop book_room lent

pub kept : (s : State) (buffer lent : List ℕ) (used : ℕ) (c : Call) {w : Written} {at : ℕ} → call s buffer lent used c ≡ ok w at → Kept buffer lent w
kept s buffer lent used c e =
    let a = accepted_is s buffer lent used c e in
    let b = book_in lent used in
    let d = does s buffer b c in
    let new = taken s buffer b used d in
    let room = book_room_lem lent used a.is_book in
    let fits = new_fits s buffer b used d room.1 in
    let long = room_long (length buffer) in
    let p = a.passes in
    let inside = p.fits in
    let k : Kept buffer lent (left_by s buffer lent used b d) = record {
      buffer_length = over_length buffer d.at d.octets (omega arith);
      book_length = over_length lent used new (omega arith);
      place = next_place s d _ p.inside.place inside (puts s buffer b p.inside c p.in_turn);
      used = fits;
      behind_room = over_behind buffer d.at d.octets _ (omega arith) inside;
      behind_book = over_behind lent used new book_room (omega arith) fits;
    } in
    subst (Kept buffer lent) (sym a.left) k

-- A state's count, and what it says of what is open.
pub record Inside (s : State) : Type 0 where
  pub least : (asks s.turn).least ≤ s.count
  pub most : s.count ≤ (asks s.turn).most
  pub head : 0 < (asks s.turn).head → s.start + (asks s.turn).head ≤ s.place

-- Where a list's turn leads.
pub at_turn : (P : Wanted → Type 0) (n : ℕ) (more behind : Wanted) → ((n ≡ 0 → ⊥) → P more) → (n ≡ 0 → P behind) → P (turn_at n more behind)
at_turn P n more behind f g = go (eqb n 0) refl
  where
    go : (t : Bool) → eqb n 0 ≡ t → P (choose t (λ _. behind) (λ _. more))
    go true e = g (eqb-true n 0 e)
    go false e = f (eqb-false n 0 e)

-- A layout that is asked without fault is in the book.
pub in_book_lem : (o : Option Layout) (ask : Layout → Fault) → in_book o ask ≡ fine → (l : Layout) × (o ≡ some l) × (ask l ≡ fine)
in_book_lem (some l) ask e = (l, refl, e)
in_book_lem none ask e = absurd (fine_not refl e)

-- A value that is accepted is the next field's: there is one.
some_left : (xs : List Attribute) (b : Basic) (v : Value) → is_next xs b v ≡ true → 0 < length xs
some_left [] b v e = let z : ◌≡◌ {A = ℕ} 0 1 = cc in absurd (omega arith)
some_left (a ∷ rest) b v e = omega arith

module _ (s : State) (buffer : List ℕ) (book : Book) (w : Bounds s (length buffer)) (few : (n : ℕ) (l : Layout) → find n book ≡ some l → length l.attributes ≤ most_attributes) where
  -- A state behind octets that were put.
  abbrev behind : List ℕ → Wanted → ℕ → State
  behind xs turn count = record { place = s.place + length xs; turn = turn; count = count; start = s.start; rows = s.rows }

  row_few : {l : Layout} → row_layout s buffer book ≡ some l → length l.attributes ≤ most_attributes
  unfolding row_layout
  row_few {l} e = few (be 4 buffer (s.start + 4)) l e

  -- A layout with so many attributes to come.
  attributes_inside : (turn : Wanted) (f : Fault) (xs : List ℕ) (n : ℕ) → n ≤ most_attributes → s.start + 8 ≤ s.place → Inside (attributes s turn f xs n).next
  attributes_inside turn f xs n few₁ head = go (eqb n 0) refl
    where
      go : (t : Bool) → eqb n 0 ≡ t → Inside (choose t (λ _. between (s.place + length xs) s.rows) (λ _. behind xs wants.AttributeName n))
      go true e = omega arith
      go false e = some_to_come n few₁ (eqb-false n 0 e)
        where
          some_to_come : (n : ℕ) → n ≤ most_attributes → (n ≡ 0 → ⊥) → Inside (behind xs wants.AttributeName n)
          some_to_come zero a b = absurd (b refl)
          some_to_come (suc n) a b = omega arith

  inside : (c : Call) → (does s buffer book c).in_turn ≡ true → (does s buffer book c).fault ≡ fine → Inside (does s buffer book c).next
  unfolding does
  inside (recorder xs) e f = omega arith
  inside (start_time n) e f = omega arith
  inside (default_namespace xs) e f = omega arith
  inside (namespace_count n) e f =
      let h : n ≤ most_listed = leb-true n most_listed (holds (leb n most_listed) 4 f) in
      at_turn (λ u. Inside (behind (word 4 n) u n)) n wants.Uri wants.ServiceCount (λ z. omega arith) (λ z. omega arith)
  inside (uri xs) e f = let h = turn_count s (length buffer) w wants.Uri e in omega arith
  inside (short_name xs) e f =
      let h = turn_count s (length buffer) w wants.ShortName e in
      at_turn (λ u. Inside (behind (led_image xs) u (s.count - 1))) (s.count - 1) wants.Uri wants.ServiceCount (λ z. omega arith) (λ z. omega arith)
  inside (service_count n) e f =
      let h : n ≤ most_listed = leb-true n most_listed (holds (leb n most_listed) 4 f) in
      at_turn (λ u. Inside (behind (word 4 n) u n)) n wants.Service wants.DocumentId (λ z. omega arith) (λ z. omega arith)
  inside (service xs) e f =
      let h = turn_count s (length buffer) w wants.Service e in
      at_turn (λ u. Inside (behind (led_image xs) u (s.count - 1))) (s.count - 1) wants.Service wants.DocumentId (λ z. omega arith) (λ z. omega arith)
  inside (document_id xs) e f = omega arith
  inside (open_layout n) e f =
      let long : length (word 4 1 ++ word 4 n) ≡ 8 = length-append (word 4 1) (word 4 n) ∙ omega (arith, length_word 4 1, length_word 4 n) in
      omega arith
  inside (type_name xs) e f = let h = open_head s (length buffer) w wants.TypeName e (omega arith) in omega arith
  inside (attribute_count n) e f =
      let h : n ≤ most_attributes = leb-true n most_attributes (holds (leb n most_attributes) 4 f) in
      attributes_inside wants.AttributeCount (unless (leb n most_attributes) 4) (word 4 n) n h (open_head s (length buffer) w wants.AttributeCount e (omega arith))
  inside (attribute_name xs) e f =
      let h = open_head s (length buffer) w wants.AttributeName e (omega arith) in
      let k = turn_count s (length buffer) w wants.AttributeName e in
      omega arith
  inside (attribute_type t) e f =
      let k = turn_count s (length buffer) w wants.AttributeType e in
      attributes_inside wants.AttributeType (refused_by (kind_of s.place t (s.place + 4))) (word 4 t) (s.count - 1) (omega arith)
      (open_head s (length buffer) w wants.AttributeType e (omega arith))
  inside (open_row n stated) e f =
      let xs : List ℕ = word 4 2 ++ word 4 n ++ length_image stated 0 in
      let long : length xs ≡ 12 =
      length-append (word 4 2 ++ word 4 n) (length_image stated 0)
      ∙ omega (arith, length-append (word 4 2) (word 4 n), length_word 4 2, length_word 4 n, length_size stated 0) in
      omega arith
  inside (value b v) e f =
      let (l, found, g) = in_book_lem (row_layout s buffer book) _ f in
      let left = some_left (drop s.count l.attributes) b v (holds (is_next (drop s.count l.attributes) b v) 21 (both_fine _ _ g).0) in
      let long = length-drop s.count l.attributes in
      let most = row_few found in
      let head = open_head s (length buffer) w wants.Value e (omega arith) in
      omega arith
  inside close_row e f = omega arith
  inside give_up e f = omega arith
  inside (finish n) e f = omega arith

-- An answered state is inside its bounds, over the buffer that was left.
pub answered_within : (s : State) (buffer lent : List ℕ) (used : ℕ) (c : Call) → Each Octet lent → {w : Written} {at : ℕ} → call s buffer lent used c ≡ ok w at
    → w.state.rows ≤ most_rows → Bounds w.state (length w.buffer)
answered_within s buffer lent used c o {w} e rows =
    let a = accepted_is s buffer lent used c e in
    let k = kept s buffer lent used c e in
    let p = a.passes in
    let (held, _) = book_forth lent used o a.is_book in
    let i = inside s buffer (book_in lent used) p.inside (λ n l f. (each_find GoodLayout n (book_in lent used) l held.good.good f).few) c p.in_turn p.faultless in
    let j : Inside w.state = subst (λ (v : Written). Inside v.state) (sym a.left) i in
    record {
      place = rw k.buffer_length k.place;
      least = j.least;
      most = j.most;
      rows = rows;
      head = λ h. j.head (ltb-true 0 _ h);
    }
