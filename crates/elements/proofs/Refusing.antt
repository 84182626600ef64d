-- No reading passes an end that its document and its start do not pass, and what holds of the numbers that its parts refuse with holds of its own: by the parts of each reading. Assumes nothing.
use Prim.Native.Nat.{ℕ, zero, suc, ◌+◌, ◌^◌, ◌%◌, ◌≤◌}
use mathlib.Core.Path.{◌≡◌, refl, sym, ap, subst}
use mathlib.Core.List.{List, [], ◌∷◌}
use mathlib.Core.Bool.{Bool, true, false, ◌&&◌}
use mathlib.Core.Option.{Option, some, none}
use mathlib.Core.Logic.{inl, inr}
use native.Mathlib.Omega.{arith}
use lib.ListN.{length, take}
use lib.Dec.{leb, ltb, eqb}
use borrow.Author.Tests.{leb-true}
use Rattle.octets.specs.Limits.{longest, most_rows, book_room, most_layouts, most_attributes, most_listed}
use Rattle.octets.specs.Reading.{Read, ok, no, ◌then◌, choose, is_ok, reach, overrun, number_in, number, count, exactly, run}
use Rattle.octets.specs.declared.Room.{Room}
use Rattle.octets.specs.declared.Room.TheVariants.{Document, Stated}
use Rattle.kinds.specs.declared.Basic.{Basic}
use Rattle.kinds.specs.declared.Form.{Form}
use Rattle.kinds.specs.declared.Form.TheVariants as form
use Rattle.kinds.specs.Kinds.{basic_of, form_of, kind_for, kind_at}
use Rattle.layouts.specs.Layout.{Attribute, Layout, attribute_at, layout_at, layout_image}
use Rattle.layouts.specs.Book.{Book, find, book_image, as17, layouts_at, book_of, learning, learn_by, learn}
use Rattle.layouts.specs.declared.Learning.{Learning}
use Rattle.layouts.specs.declared.Learning.TheVariants.{Known, New}
use Rattle.octets.specs.declared.Fault.{Fault}
use Rattle.octets.specs.Faults.{number_of}
use Rattle.std.specs.Prelude.{Result, Ok, Err}
use Rattle.layouts.proofs.Judging.{Learned, learned}
use Rattle.headers.specs.Header.{namespace_at, id_at, header_from, header_at}
use Rattle.rows.specs.Row.{fields_in, filled, values_at, named, row_at}
use Rattle.rows.proofs.RowLaws.{row_by}
use Rattle.kinds.specs.Forms.{value_in}
use Rattle.elements.specs.Element.{Element, item, finish, Stepped, finish_at, element_at}
use Rattle.elements.specs.Walk.{Stop, ended, refused, Walk, onward, walk, turn_by, turn_of, Spot, spot_at, spot_of, turn_at, through}
use Rattle.elements.specs.Steps.{lent_book, step_at}
use Rattle.elements.specs.Reading.{elements_of, answer_of, elements_read, reading, whole}
use Rattle.octets.proofs.Ends.{number_room}
use Rattle.texts.specs.Texts.{holds, fault, octets_in, led_in, text}
use Rattle.texts.specs.declared.Rule.{Rule}
use Rattle.texts.specs.declared.Rule.TheVariants.{Free, Characters}

-- A reading that passes no end: neither by the place behind it nor by that of its refusal, of whose number P holds.
abbrev pub Stays : {A : Type 0} → (ℕ → Type 0) → ℕ → Read A → Type 0
Stays P end (ok a next) = next ≤ end
Stays P end (no n p) = P n × (p ≤ end)

-- A room that a document has: its end and the place of its refusal are inside.
abbrev Inside : (ℕ → Type 0) → ℕ → Room → Type 0
Inside P end Document = P 1
Inside P end (Stated to p) = P 13 × (to ≤ end) × (p ≤ end)

-- What is assumed of the numbers of a header and of an element, besides 1.
abbrev pub OfHeader : (ℕ → Type 0) → Type 0
OfHeader P = P 2 × P 3 × P 4 × P 5 × P 6 × P 24

abbrev pub OfElement : (ℕ → Type 0) → Type 0
OfElement P = P 4 × P 7 × P 8 × P 9 × P 10 × P 11 × P 12 × P 13 × P 14 × P 15 × P 16 × P 24

-- Where a walk stands, or what stops it, passes no end.
abbrev Halted : (ℕ → Type 0) → ℕ → ℕ → Option Stop → Type 0
Halted P end at none = at ≤ end
Halted P end at (some (ended n t next)) = next ≤ end
Halted P end at (some (refused n p)) = P n × (p ≤ end)

-- A document that such an end is not before.
module _ (P : ℕ → Type 0) (s : List ℕ) (end : ℕ) (long : length s ≤ end) where
  stays_on : {A B : Type 0} (r : Read A) (f : A → ℕ → Read B) → Stays P end r
      → ((a : A) (next : ℕ) → r ≡ ok a next → Stays P end (f a next)) → Stays P end (r then f)
  stays_on (ok a next) f h k = k a next refl
  stays_on (no n p) f h k = h

  stays_then : {A B : Type 0} (r : Read A) (f : A → ℕ → Read B) → Stays P end r
      → ((a : A) (next : ℕ) → next ≤ end → Stays P end (f a next)) → Stays P end (r then f)
  stays_then (ok a next) f h k = k a next h
  stays_then (no n p) f h k = h

  stays_choose : {A : Type 0} (t : Bool) (x y : Unit {0} → Read A) → (t ≡ true → Stays P end (x tt)) → Stays P end (y tt) → Stays P end (choose t x y)
  stays_choose true x y h k = h refl
  stays_choose false x y h k = k

  stays_run : {A : Type 0} (f : ℕ → Read A) → ((at : ℕ) → at ≤ end → Stays P end (f at)) → (k at : ℕ) → at ≤ end → Stays P end (run f k at)
  unfolding run
  stays_run f h zero at b = b
  stays_run f h (suc k) at b = stays_then (f at) _ (h at b) λ a next c. stays_then (run f k next) _ (stays_run f h k next c) λ rest last d. d

  reach_inside : (room : Room) → Inside P end room → reach room s ≤ end
  reach_inside Document h = long
  reach_inside (Stated to p) h = h.1

  stays_over : (A : Type 0) (room : Room) → Inside P end room → (at : ℕ) → at ≤ end → Stays P end (overrun {A = A} room at)
  stays_over A Document h at b = (h, b)
  stays_over A (Stated to p) h at b = (h.0, h.2)

  module _ (room : Room) (inside : Inside P end room) where
    within : (next : ℕ) → leb next (reach room s) ≡ true → next ≤ end
    within next t = let h = reach_inside room inside in let g = leb-true next (reach room s) t in omega arith

    stays_number : (w at : ℕ) → at ≤ end → Stays P end (number_in room w s at)
    unfolding number_in
    stays_number w at b = stays_choose (leb (at + w) (reach room s)) _ _ (λ t. within (at + w) t) (stays_over _ room inside at b)

    stays_octets : (at : ℕ) → at ≤ end → Stays P end (octets_in room s at)
    unfolding octets_in
    stays_octets at b =
        stays_then (number_in room 4 s at) _ (stays_number 4 at b) λ n next c.
        stays_choose (leb (next + n) (reach room s)) _ _ (λ t. within (next + n) t) (stays_over _ room inside at b)

    stays_led : P 24 → (rule : Rule) (at : ℕ) → at ≤ end → Stays P end (led_in rule room s at)
    unfolding led_in
    stays_led bad rule at b = stays_then (octets_in room s at) _ (stays_octets at b) λ xs next c. by rule xs next c
      where
        by : (rule : Rule) (xs : List ℕ) (next : ℕ) → next ≤ end → Stays P end (choose (holds rule xs) (λ _. ok xs next) (λ _. no (fault rule) at))
        by Free xs next c = c
        by Characters xs next c = stays_choose (holds Characters xs) _ _ (λ _. c) (bad, b)

    stays_value : P 14 → P 24 → (f : Form) (at : ℕ) → at ≤ end → Stays P end (value_in room f s at)
    unfolding value_in
    stays_value fourteen bad (form.Fixed w) at b = stays_then (number_in room w s at) _ (stays_number w at b) λ n next c. c
    stays_value fourteen bad form.Truth at b =
        stays_then (number_in room 1 s at) _ (stays_number 1 at b) λ n next c. stays_choose (leb n 1) _ _ (λ _. c) (fourteen, b)
    stays_value fourteen bad (form.Led rule) at b = stays_then (led_in rule room s at) _ (stays_led bad rule at b) λ xs next c. c

    stays_fields : P 14 → P 24 → (attributes : List Attribute) (at : ℕ) → at ≤ end → Stays P end (fields_in room attributes s at)
    unfolding fields_in
    stays_fields fourteen bad [] at b = b
    stays_fields fourteen bad (a ∷ others) at b =
        stays_then (value_in room (form_of a.kind) s at) _ (stays_value fourteen bad (form_of a.kind) at b) λ v next c.
        stays_then (fields_in room others s next) _ (stays_fields fourteen bad others next c) λ rest last d. d

  module _ (one : P 1) where
    -- The fields that only the document's end bounds.
    pub number_stays : (w at : ℕ) → at ≤ end → Stays P end (number w s at)
    number_stays = stays_number Document one

    text_stays : P 24 → (at : ℕ) → at ≤ end → Stays P end (text s at)
    text_stays bad = stays_led Document one bad Characters

    count_stays : (most at : ℕ) → P 4 → at ≤ end → Stays P end (count most s at)
    unfolding count
    count_stays most at h b = stays_then (number 4 s at) _ (number_stays 4 at b) λ n next c. stays_choose (leb n most) _ _ (λ _. c) (h, b)

    exactly_stays : (n refusal at : ℕ) → P refusal → at ≤ end → Stays P end (exactly n refusal s at)
    unfolding exactly
    exactly_stays n refusal at h b = stays_then (number 4 s at) _ (number_stays 4 at b) λ m next c. stays_choose (eqb m n) _ _ (λ _. c) (h, b)

    -- The header.
    namespace_stays : P 24 → (at : ℕ) → at ≤ end → Stays P end (namespace_at s at)
    unfolding namespace_at
    namespace_stays bad at b = stays_then (text s at) _ (text_stays bad at b) λ uri next c. stays_then (text s next) _ (text_stays bad next c) λ short last d. d

    id_stays : P 5 → (at : ℕ) → at ≤ end → Stays P end (id_at s at)
    unfolding id_at
    id_stays five at b =
        stays_then (exactly 16 5 s at) _ (exactly_stays 16 5 at five b) λ _ next c.
        stays_choose (leb (next + 16) (length s)) _ _ (λ t. let h = leb-true (next + 16) (length s) t in omega arith) (one, b)

    fields_stay : OfHeader P → (at : ℕ) → at ≤ end → Stays P end (header_from s at)
    unfolding header_from
    fields_stay (two, three, four, five, six, bad) at b =
        stays_then (exactly 4 3 s at) _ (exactly_stays 4 3 at three b) λ _ a b₁.
        stays_then (text s a) _ (text_stays bad a b₁) λ recorder b b₂.
        stays_then (number 8 s b) _ (number_stays 8 b b₂) λ start c b₃.
        stays_then (text s c) _ (text_stays bad c b₃) λ default d b₄.
        stays_then (count most_listed s d) _ (count_stays most_listed d four b₄) λ k e b₅.
        stays_then (run (namespace_at s) k e) _ (stays_run (namespace_at s) (namespace_stays bad) k e b₅) λ others f b₆.
        stays_then (count most_listed s f) _ (count_stays most_listed f four b₆) λ m g b₇.
        stays_then (run (text s) m g) _ (stays_run (text s) (text_stays bad) m g b₇) λ services h b₈.
        stays_then (id_at s h) _ (id_stays five h b₈) λ id i b₉.
        stays_then (exactly 0xffffffff 6 s i) _ (exactly_stays 0xffffffff 6 i six b₉) λ _ last b₁₀. b₁₀

    -- A layout.
    module _ (four : P 4) (eight : P 8) (nine : P 9) (bad : P 24) where
      kind_stays : (at : ℕ) → at ≤ end → Stays P end (kind_at s at)
      unfolding kind_at
      kind_stays at b =
          stays_then (number 4 s at) _ (number_stays 4 at b) λ t next c.
          stays_choose (leb (2 ^ 31) t) _ _ (λ _. (nine, b))
          (stays_choose (ltb t 0x10000) _ _ (λ _. in_table t next c (basic_of (t % 256))) (eight, b))
        where
          in_table : (t next : ℕ) → next ≤ end → (o : Option Basic) → Stays P end (kind_for at t next o)
          in_table t next c (some k) = c
          in_table t next c none = (eight, b)

      attribute_stays : (at : ℕ) → at ≤ end → Stays P end (attribute_at s at)
      unfolding attribute_at
      attribute_stays at b = stays_then (text s at) _ (text_stays bad at b) λ name next c. stays_then (kind_at s next) _ (kind_stays next c) λ kind last d. d

      pub layout_stays : (at : ℕ) → at ≤ end → Stays P end (layout_at s at)
      unfolding layout_at
      layout_stays at b =
          stays_then (number 4 s at) _ (number_stays 4 at b) λ n a b₁.
          stays_then (text s a) _ (text_stays bad a b₁) λ name b b₂.
          stays_then (count most_attributes s b) _ (count_stays most_attributes b four b₂) λ k c b₃.
          stays_then (run (attribute_at s) k c) _ (stays_run (attribute_at s) attribute_stays k c b₃) λ attributes last d. d

    pub learn_stays : P 10 → P 11 → (book : Book) (l : Layout) (at : ℕ) → at ≤ end → Stays P end (learn book l at)
    unfolding learn
    learn_stays ten eleven book l at b = go (learning book (length (book_image book)) l.number (layout_image l)) (learned book (length (book_image book)) l.number (layout_image l))
      where
        go : (x : Result Learning Fault) → Learned book (length (book_image book)) l.number (layout_image l) x → Stays P end (learn_by book l at x)
        go (Ok Known) w = b
        go (Ok (New v)) w = b
        go (Err f) (inl e) = (subst P (sym (ap number_of e)) ten, b)
        go (Err f) (inr e) = (subst P (sym (ap number_of e)) eleven, b)

    -- A row.
    module _ (thirteen : P 13) (fourteen : P 14) (bad : P 24) where
      values_stays : (attributes : List Attribute) (length_at size : ℕ) → length_at + 4 ≤ end → Stays P end (values_at attributes s length_at size)
      unfolding values_at
      values_stays attributes length_at size b =
          stays_choose (eqb size 0xffffffff) _ _ (λ _. stays_fields Document one fourteen bad attributes (length_at + 4) b)
          (stays_choose (leb to (length s)) _ _ (λ t. filled_stays (leb-true to (length s) t)) (one, before))
        where
          to : ℕ
          to = length_at + 4 + size

          before : length_at ≤ end
          before = omega arith

          filled_stays : to ≤ length s → Stays P end (filled attributes s length_at to)
          filled_stays h =
              stays_then (fields_in (Stated to length_at) attributes s (length_at + 4)) _ (stays_fields (Stated to length_at) (thirteen, omega arith, before) fourteen bad attributes (length_at + 4) b) λ fields last c.
              stays_choose (eqb last to) _ _ (λ _. c) (thirteen, before)

      pub row_stays : P 12 → (book : Book) (at : ℕ) → at ≤ end → Stays P end (row_at book s at)
      row_stays twelve book at b = rw (row_by book s at) (stays_then (number 4 s at) _ (number_stays 4 at b) λ n length_at c. go n length_at c (find n book))
        where
          go : (n length_at : ℕ) → length_at ≤ end → (o : Option Layout) → Stays P end (named s at n length_at o)
          go n length_at c none = (twelve, b)
          go n length_at c (some l) =
              stays_on (number 4 s length_at) _ (number_stays 4 length_at c) λ size next e.
              stays_then (values_at l.attributes s length_at size) _ (values_stays l.attributes length_at size (let h = number_room s length_at 4 (ap is_ok e) in omega arith)) λ fields last d. d

    finish_stays : P 15 → P 16 → (rows at : ℕ) → at ≤ end → Stays P end (finish_at rows s at)
    unfolding finish_at
    finish_stays fifteen sixteen rows at b =
        stays_then (number 4 s at) _ (number_stays 4 at b) λ n next c.
        stays_choose (eqb n rows) _ _
        (λ _. stays_then (number 8 s next) _ (number_stays 8 next c) λ time last d. stays_choose (eqb last (length s)) _ _ (λ _. d) (sixteen, d))
        (fifteen, b)

    -- Elements.
    module _ (all : OfElement P) where
      element_stays : (at rows : ℕ) (book : Book) → at ≤ end → Stays P end (element_at s at rows book)
      unfolding element_at
      element_stays at rows book b =
          let (four, seven, eight, nine, ten, eleven, twelve, thirteen, fourteen, fifteen, sixteen, bad) = all in
          stays_then (number 4 s at) _ (number_stays 4 at b) λ kind next c.
          stays_choose (eqb kind 1) _ _
          (λ _. stays_then (layout_at s next) _ (layout_stays four eight nine bad next c) λ l last d.
          stays_then (learn book l next) _ (learn_stays ten eleven book l next c) λ learnt _ _. d)
          (stays_choose (eqb kind 2) _ _ (λ _. stays_then (row_at book s next) _ (row_stays thirteen fourteen bad twelve book next c) λ r last d. d)
          (stays_choose (eqb kind 3) _ _ (λ _. stays_then (finish_at rows s next) _ (finish_stays fifteen sixteen rows next c) λ f last d. d) (seven, b)))

      walk_stays : (k : ℕ) (x : Spot) → x.at ≤ end → Halted P end (walk (turn_at s) k x).spot.at (walk (turn_at s) k x).stop
      unfolding walk
      walk_stays zero x b = b
      walk_stays (suc k) x b = go (element_at s x.at x.rows x.book) (element_stays x.at x.rows x.book b) (λ y. walk_stays k y)
        where
          go : (r : Read Stepped) → Stays P end r → ((y : Spot) → y.at ≤ end → Halted P end (walk (turn_at s) k y).spot.at (walk (turn_at s) k y).stop)
              → Halted P end (onward x (turn_of spot_of x.at r) (walk (turn_at s) k)).spot.at (onward x (turn_of spot_of x.at r) (walk (turn_at s) k)).stop
          go (no n p) h again = h
          go (ok st next) h again = by st.element
            where
              by : (e : Element) → Halted P end (onward x (turn_by spot_of x.at st next e) (walk (turn_at s) k)).spot.at (onward x (turn_by spot_of x.at st next e) (walk (turn_at s) k)).stop
              by (item i) = again (spot_of st next) h
              by (finish n t) = h

      elements_stay : (w : Walk Spot) → Halted P end w.spot.at w.stop → Stays P end (elements_read w)
      elements_stay w h = go w.stop h
        where
          go : (e : Option Stop) → Halted P end w.spot.at e → Stays P end (answer_of (elements_of w.seen w.spot.at e) w.spot.at e)
          go none h = (one, h)
          go (some (ended n t next)) h = h
          go (some (refused n p)) h = h

    pub header_stays : OfHeader P → Stays P end (header_at s)
    unfolding header_at
    header_stays all = stays_choose (leb (length s) longest) _ _ (λ _. fields_stay all 0 (omega arith)) (all.0, omega arith)

    pub whole_stays : OfHeader P → OfElement P → Stays P end (whole s)
    unfolding whole reading through
    whole_stays h e =
        stays_then (reading s) _
        (stays_then (header_at s) _ (header_stays h) λ head next b.
        let x : Spot = spot_at next 0 [] in
        stays_then (elements_read (through s x)) _ (elements_stay e (through s x) (walk_stays e (length s + 1) x b)) λ elements last c. c)
        λ r last c. c

    -- What stands before a step is refused at 0.
    pub lent_stays : P 2 → P 17 → (rows : ℕ) (octets : List ℕ) (used : ℕ) {A : Type 0} (f : Book → ℕ → Read A) → ((book : Book) (mid : ℕ) → Stays P end (f book mid))
        → Stays P end (lent_book s rows octets used then f)
    unfolding lent_book book_of
    lent_stays two seventeen rows octets used f h =
        go (leb (length s) longest) (leb book_room (length octets) && leb used book_room) (layouts_at most_layouts [] (take used octets) 0) (leb rows most_rows)
      where
        start : 0 ≤ end
        start = omega arith

        go : (short lent : Bool) (r : Read Book) (few : Bool)
            → Stays P end
            (choose short (λ _. choose lent (λ _. as17 r) (λ _. no 17 0) then λ book last. choose few (λ _. ok book last) (λ _. no 17 0)) (λ _. no 2 0) then f)
        go false lent r few = (two, start)
        go true false r few = (seventeen, start)
        go true true (no n p) few = (seventeen, start)
        go true true (ok book last) false = (seventeen, start)
        go true true (ok book last) true = h book last

    pub step_stays : P 2 → P 17 → OfElement P → (at rows : ℕ) (octets : List ℕ) (used : ℕ) → at ≤ end → Stays P end (step_at s at rows octets used)
    unfolding step_at
    step_stays two seventeen e at rows octets used b = lent_stays two seventeen rows octets used (λ book _. element_at s at rows book) λ book _. element_stays e at rows book b
