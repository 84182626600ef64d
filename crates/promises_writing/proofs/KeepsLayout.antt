-- An accepted call of a layout keeps what stands: the open layout has one field more; the call that completes it makes it an item that the book learns.
-- What the book takes is what learning adds, since the octets in the buffer with the call's behind them are the layout's. Assumes nothing.
use Prim.Native.Nat.{ℕ, ◌+◌, ◌-◌, ◌/◌, ◌%◌, ◌^◌, ◌≤◌, ◌<◌}
use mathlib.Core.Path.{◌≡◌, refl, sym, ap, ◌∙◌, subst}
use mathlib.Core.List.{List, [], ◌∷◌, ◌++◌, append_assoc}
use mathlib.Core.Bool.{Bool, true, false}
use native.Mathlib.Omega.{arith}
use Rattle.std.specs.Prelude.{Result, Ok, Err}
use native.Mathlib.Nat.{add-zero, zero-add}
use lib.ListN.{length, length-append}
use lib.Dec.{leb, ltb, eqb}
use borrow.Author.Tests.{eqb-true, eqb-false, leb-true, ltb-true}
use Rattle.octets.specs.declared.Fault as octets
use Rattle.octets.specs.Limits.{most_attributes}
use Rattle.octets.specs.Reading.{ok}
use Rattle.octets.specs.Writing.{word, images, Each, Octet}
use Rattle.octets.proofs.Spans.{each_join}
use Rattle.octets.proofs.Inverse.{chosen, refused}
use Rattle.texts.specs.Texts.{led_image}
use Rattle.texts.specs.declared.Rule.TheVariants.{Characters}
use Rattle.texts.proofs.Fields.{text_none}
use Rattle.kinds.specs.declared.Kind.{Kind}
use Rattle.kinds.specs.Kinds.{number_of, basic_of, kind_for, kind_of}
use Rattle.kinds.proofs.Table.{kind_for_lem, code_of_basic}
use Rattle.layouts.specs.Layout.{Attribute, Layout, layout_image, GoodAttribute, GoodLayout}
use Rattle.layouts.specs.Book.{Book, book_image, learning, learn}
use Rattle.layouts.specs.Answers.{Judges}
use Rattle.layouts.specs.declared.Learning.{Learning}
use Rattle.layouts.specs.declared.Learning.TheVariants.{Known, New}
use Rattle.layouts.proofs.Judging.{judges}
use Rattle.layouts.proofs.Growing.{learnt, grown}
use Rattle.elements.specs.Element.{layout}
use Rattle.elements.specs.Document.{item_image}
use Rattle.writer.specs.declared.Wanted.{Wanted}
use Rattle.writer.specs.declared.Wanted.TheVariants as wants
use Rattle.writer.specs.declared.State.{State}
use Rattle.writer.specs.Writer.{Call, open_layout, type_name, attribute_count, attribute_name, attribute_type, asks, Deed, put, attributes, does, breach}
use Rattle.writing_parts.specs.Faults.{Fault, fine, unless, refused_by}
use Rattle.writing_parts.specs.Answers.{learning_of, refusal}
use Rattle.writing_parts.proofs.Faults.{fine_not, holds, is_read}
use Rattle.writer.proofs.Bounds.{turn_count, open_head}
use Rattle.promises_writing.specs.Promise.{attribute_calls, item_calls, with_layout, Account, adds, opens}
use Rattle.promises_writing.proofs.Standing.{Spot, spot, state_at, behind, so_far, number_first, takes_learnt, complete_leaves}
use Rattle.promises_writing.proofs.Writes.{learn_with}
use Rattle.promises_writing.proofs.Put.{octets_of, images_snoc, each_snoc, layout_octets}
use Rattle.promises_writing.proofs.Shapes.{Between, Opened, attributed, Shape, Stand, rest, Inv, PassesHere, left_here, put_stand, here, put_keeps}
use Rattle.promises_writing.proofs.Items.{next_item, same_between, opening, longer, one_more}
use Rattle.promises_writing.proofs.KeepsHeader.{is_text, Keeps}

-- A type that is accepted is a good one's.
kind_is : (t at next : ℕ) → refused_by (kind_of at t next) ≡ fine → (k : Kind) × (number_of k ≡ t) × (k.derived < 256)
kind_is t at next fault =
    let (_, _, e) = is_read (kind_of at t next) fault in
    let (t₁, e₁) = refused (leb (2 ^ 31) t) 9 at _ e in
    let (t₂, e₂) = chosen (ltb t 0x10000) (λ _. kind_for at t next (basic_of (t % 256))) 8 at e₁ in
    let (b, f, _) = kind_for_lem at t next (basic_of (t % 256)) e₂ in
    let small : t < 65536 = ltb-true t 65536 t₂ in
    let code = code_of_basic (t % 256) b f in
    (record { derived = t / 256; basic = b }, omega arith, omega arith)

-- What a book takes of a layout, it learns.
record Learns (b : Book) (l : Layout) : Type 0 where
  next : Book
  learns : learn b l 0 ≡ ok next 0

learns_of : (b : Book) (l : Layout) → GoodLayout l → refusal (learning_of b (length (book_image b)) (layout_image l)) ≡ fine → Learns b l
learns_of b l g e =
    go (learning b (length (book_image b)) l.number (layout_image l)) (judges b l 0)
    (subst (λ (n : ℕ). refusal (learning b (length (book_image b)) n (layout_image l)) ≡ fine) (number_first l g) e)
  where
    go : (x : Result Learning octets.Fault) → Judges (length (book_image b)) b l 0 x → refusal x ≡ fine → Learns b l
    go (Ok Known) w h = record { next = b; learns = w }
    go (Ok (New v)) w h = record { next = b ++ l ∷ []; learns = w.0 }
    go (Err f) w h = absurd (fine_not refl h)

-- A call that makes the open layout whole.
record Completes (c : Call) (x : Spot) (done : List ℕ) (told : Account) : Type 0 where
  opened : Opened x done told
  l : Layout
  good : GoodLayout l
  said : told.latest ++ c ∷ [] ≡ item_calls (layout l)

module _ {buffer lent : List ℕ} {told : Account} (now : Stand buffer lent told) where
  -- Octets of the open layout with so many attributes behind them.
  abbrev part : Wanted → Fault → Call → ℕ → Deed
  part t fault c left = attributes (state_at now.done now.at) t fault (octets_of c) left

  complete_keeps : (c : Call) (t : Wanted) (fault : Fault) → PassesHere now (part t fault c 0)
      → Completes c now.at now.done told → now.at.start + 8 ≤ length now.done
      → Inv buffer lent (adds told c) (left_here now (part t fault c 0))
  complete_keeps c t fault p i head =
      let x = now.at in
      let o = i.opened in
      let l = i.l in
      let xs : List ℕ = octets_of c in
      let more : List ℕ = images octets_of told.latest in
      let whole : more ++ xs ≡ word 4 1 ++ layout_image l = sym (images_snoc octets_of told.latest c) ∙ (ap (images octets_of) i.said ∙ layout_octets l) in
      let low : 4 ≤ length more = omega (arith, o.start, ap length o.is, length-append o.before more) in
      let so_far_is = so_far o.before more (rest now) xs now.done x l o.is o.start low whole in
      let found = learns_of x.book l i.good (rw so_far_is at p.learnt) in
      let next : Book = found.next in
      let takes = takes_learnt lent x.book l next i.good (learnt x.book l 0 next 0 found.learns) in
      let calls : List Call = told.settled ++ item_calls (layout l) in
      let all : now.done ++ xs ≡ o.before ++ item_image (layout l) = behind xs o.is ∙ (append_assoc o.before more xs ∙ ap (λ (z : List ℕ). o.before ++ z) whole) in
      let item : Between (with_layout x.book l) (x.rows + 0) (o.before ++ item_image (layout l)) calls = next_item o.between (layout l) (i.good, (next, found.learns, tt)) in
      let between : Between next x.rows (now.done ++ xs) (told.settled ++ (told.latest ++ c ∷ [])) =
      same_between item (sym (learn_with x.book l next 0 0 found.learns)) (add-zero x.rows) (sym all) (ap (λ (z : List Call). told.settled ++ z) (sym i.said)) in
      let (stand, is) = put_stand now (adds told c) xs (spot next wants.Element 0 0 x.rows) p.fits (grown x.book l 0 next 0 now.good i.good found.learns).good (between, refl) in
      record { stand = stand; is = complete_leaves lent now.done (rest now) x t fault xs l next takes so_far_is ∙ is }

  -- A call whose octets have so many attributes behind them: it puts its octets, or completes the layout.
  attributes_keep : (c : Call) (t : Wanted) (fault : Fault) (left : ℕ) → (asks t).head ≡ 8
      → PassesHere now (part t fault c left)
      → (Shape t now.at now.done told → (asks t).least ≤ now.at.count → (left ≡ 0 → ⊥)
      → Shape wants.AttributeName (spot now.at.book wants.AttributeName left now.at.start now.at.rows) (now.done ++ octets_of c) (adds told c))
      → (Shape t now.at now.done told → (asks t).least ≤ now.at.count → left ≡ 0 → Completes c now.at now.done told)
      → Inv buffer lent (adds told c) (left_here now (part t fault c left))
  attributes_keep c t fault left eight p more last = go (eqb left 0) refl
    where
      go : (e : Bool) → eqb left 0 ≡ e → Inv buffer lent (adds told c) (left_here now (part t fault c left))
      go false e =
          let is : part t fault c left ≡ put (state_at now.done now.at) t fault (octets_of c) wants.AttributeName left now.at.start = rw e in
          subst (λ (d : Deed). Inv buffer lent (adds told c) (left_here now d)) (sym is)
          (put_keeps now (adds told c) t wants.AttributeName fault (octets_of c) left now.at.start (subst (λ (d : Deed). PassesHere now d) is p)
          (λ i least _. more i least (eqb-false left 0 e)))
      go true e =
          let none : left ≡ 0 = eqb-true left 0 e in
          let s : State = state_at now.done now.at in
          let size : ℕ = length (now.done ++ rest now) in
          let head = open_head s size p.inside t p.in_turn (omega arith) in
          subst (λ (n : ℕ). Inv buffer lent (adds told c) (left_here now (part t fault c n))) (sym none)
          (complete_keeps c t fault (subst (λ (n : ℕ). PassesHere now (part t fault c n)) none p) (last (here now t p.in_turn) (turn_count s size p.inside t p.in_turn).0 none) (omega arith))

  pub keep_layout : (n : ℕ) → n < 2 ^ 32 → Keeps now (open_layout n)
  unfolding does
  keep_layout n small p =
      put_keeps now (opens told (open_layout n)) wants.Element wants.TypeName fine (octets_of (open_layout n)) 0 (length now.done) p λ i _ _.
      record {
        opened = opening now.at now.done told (open_layout n) wants.TypeName i;
        l = record { number = n; type_name = []; attributes = [] };
        n = 0;
        name = [];
        good = record { number = small; type_name = text_none; few = omega arith; attributes = tt };
        text = text_none;
        counts = tt;
        said = refl;
      }

  pub keep_name : (xs : List ℕ) → Each Octet xs → Keeps now (type_name xs)
  unfolding does
  keep_name xs o p =
      put_keeps now (adds told (type_name xs)) wants.TypeName wants.AttributeCount (breach Characters xs) (led_image xs) 0 now.at.start p λ i _ small.
      record {
        opened = longer (type_name xs) wants.AttributeCount 0 i.opened;
        l = record { number = i.l.number; type_name = xs; attributes = [] };
        n = 0;
        name = [];
        good = record { number = i.good.number; type_name = is_text xs o p.faultless small; few = omega arith; attributes = tt };
        text = text_none;
        counts = tt;
        said = one_more (type_name xs) i.said;
      }

  pub keep_attributes : (n : ℕ) → Keeps now (attribute_count n)
  unfolding does
  keep_attributes n p =
      attributes_keep (attribute_count n) wants.AttributeCount (unless (leb n most_attributes) 4) n refl p
      (λ i _ _.
      record {
        opened = longer (attribute_count n) wants.AttributeName n i.opened;
        l = record { number = i.l.number; type_name = i.l.type_name; attributes = [] };
        n = n;
        name = [];
        good = record { number = i.good.number; type_name = i.good.type_name; few = omega arith; attributes = tt };
        text = text_none;
        counts = (zero-add n, leb-true n most_attributes (holds (leb n most_attributes) 4 p.faultless));
        said = one_more (attribute_count n) i.said;
      })
      (λ i _ none.
      record {
        opened = i.opened;
        l = record { number = i.l.number; type_name = i.l.type_name; attributes = [] };
        good = record { number = i.good.number; type_name = i.good.type_name; few = omega arith; attributes = tt };
        said = one_more (attribute_count n) i.said ∙ ap (λ (m : ℕ). open_layout i.l.number ∷ type_name i.l.type_name ∷ attribute_count m ∷ []) none;
      })

  pub keep_attribute : (xs : List ℕ) → Each Octet xs → Keeps now (attribute_name xs)
  unfolding does
  keep_attribute xs o p =
      put_keeps now (adds told (attribute_name xs)) wants.AttributeName wants.AttributeType (breach Characters xs) (led_image xs) now.at.count now.at.start p λ i _ small.
      record {
        opened = longer (attribute_name xs) wants.AttributeType now.at.count i.opened;
        l = i.l;
        n = i.n;
        name = xs;
        good = i.good;
        text = is_text xs o p.faultless small;
        counts = i.counts;
        said = one_more (attribute_name xs) i.said;
      }

  -- A type that is taken, with the name before it, is one attribute more.
  typed : (t at next left : ℕ) → refused_by (kind_of at t next) ≡ fine → left ≡ now.at.count - 1 → 1 ≤ now.at.count → (i : Shape wants.AttributeType now.at now.done told)
      → (l : Layout) × GoodLayout l × (length l.attributes + left ≡ i.n) × (told.latest ++ attribute_type t ∷ [] ≡ attributed l i.n)
  typed t at next left e less one i =
      let (k, is, small) = kind_is t at next e in
      let l = i.l in
      let a : Attribute = record { name = i.name; kind = k } in
      let given : List Attribute = l.attributes ++ a ∷ [] in
      let long : length given ≡ length l.attributes + 1 = length-append l.attributes (a ∷ []) in
      let sum = i.counts in (
        record { number = l.number; type_name = l.type_name; attributes = given },
        record {
          number = i.good.number;
          type_name = i.good.type_name;
          few = omega arith;
          attributes = each_join GoodAttribute l.attributes (a ∷ []) i.good.attributes (record { name = i.text; derived = small }, tt);
        },
        omega arith,
        one_more (attribute_type t) i.said ∙ rw (each_snoc attribute_calls l.attributes a, is) (simp append_assoc),
      )

  pub keep_type : (t : ℕ) → Keeps now (attribute_type t)
  unfolding does
  keep_type t p =
      let left : ℕ = now.at.count - 1 in
      let place : ℕ = length now.done in
      attributes_keep (attribute_type t) wants.AttributeType (refused_by (kind_of place t (place + 4))) left refl p
      (λ i one _.
      let (l, good, sum, said) = typed t place (place + 4) left p.faultless refl one i in
      record {
        opened = longer (attribute_type t) wants.AttributeName left i.opened;
        l = l;
        n = i.n;
        name = [];
        good = good;
        text = text_none;
        counts = (sum, i.counts.1);
        said = said;
      })
      (λ i one none.
      let (l, good, sum, said) = typed t place (place + 4) left p.faultless refl one i in
      let all : i.n ≡ length l.attributes = omega arith in
      record { opened = i.opened; l = l; good = good; said = said ∙ ap (attributed l) all })
