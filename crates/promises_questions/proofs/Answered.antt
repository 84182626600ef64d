-- At each element of a reading by steps the questions answer that element, since they read what its own step reads; and of an accepted header all that it holds. Assumes nothing.
use Prim.Native.Nat.{ℕ, ◌+◌, ◌≤◌}
use mathlib.Core.Path.{◌≡◌, refl, ap, ◌∙◌, subst}
use mathlib.Core.List.{List, ◌∷◌, ◌++◌, append_assoc}
use native.Mathlib.Omega.{arith}
use native.Mathlib.Nat.{zero-add}
use lib.ListN.{length, drop, length-append}
use lib.Dec.{leb}
use Rattle.octets.specs.Limits.{longest}
use Rattle.octets.specs.Reading.{Read, ok, no, number}
use Rattle.octets.specs.Writing.{word, images, Each, Octet}
use Rattle.octets.proofs.Spans.{Spans, middle, length_word}
use Rattle.octets.proofs.Fields.{number_whole}
use Rattle.octets.proofs.Inverse.{chosen}
use Rattle.layouts.specs.Layout.{Attribute, Layout}
use Rattle.headers.specs.Header.{Namespace, Header, header_from, header_at, namespace_image, header_image, GoodHeader}
use Rattle.headers.proofs.Headers.{header_inverse}
use Rattle.rows.specs.Row.{Field, Row}
use Rattle.elements.specs.Element.{Element, item, layout, row, finish}
use Rattle.elements.specs.Walk.{Lent}
use Rattle.elements.specs.Reading.{Placed}
use Rattle.reading.specs.Answers.{head_tells}
use Rattle.octets.specs.Asked.{part_of}
use Rattle.questions.specs.Questions.{row_of, layout_of, row_asked}
use Rattle.kinds.specs.Values.{octets_of}
use Rattle.questions.specs.Answers.{field_tells, kind_tells}
use Rattle.octets.proofs.Asked.{nth_none, nth_some}
use Rattle.texts.specs.Texts.{led_image}
use Rattle.questions.proofs.Questions.{attribute_asked_lem, field_asked_lem, field_unasked}
use Rattle.questions.proofs.After.{row_after, layout_after}
use Rattle.header_questions.specs.Questions.{namespaces_place, services_place, namespace_asked, service_asked}
use Rattle.promises.specs.BySteps.{Ending, BySteps, Meets}
use Rattle.promises.proofs.Over.{meets}
use Rattle.promises_questions.specs.Answered.{field_over, layout_over, attribute_over, Items, RowAnswered, LayoutAnswered, Answered, HeaderAnswered, AllAsked}

-- A list that answers a question, item by item and behind its last.
module _ {A : Type 0} {question : ℕ → Read A} (place : ℕ) (xs : List A) (next : ℕ) (items : Items question place xs next) where
  item_there : (n : ℕ) (x : A) (rest : List A) → drop n xs ≡ x ∷ rest → question n ≡ ok x next
  item_there n x rest d = items n ∙ nth_some n place xs next d

  item_none : (n : ℕ) → length xs ≤ n → question n ≡ no 18 place
  item_none n h = items n ∙ nth_none n place xs next h

-- An element, from what its row and its layout are when asked.
abbrev row_over : List ℕ → Lent → Read Row
row_over s x = row_asked s x.at x.rows x.octets x.used

module _ (s : List ℕ) (x : Lent) (next : ℕ) where
  row_answered : (r : Row) → row_over s x ≡ ok r next → layout_over s x ≡ no 19 x.at → RowAnswered s x r next
  row_answered r a b =
      let items : Items (field_over s x) x.at r.fields next = λ n. field_asked_lem s x.at x.rows x.octets x.used n r next a in
      record {
        field = items;
        value = λ n f rest d. ap field_tells (item_there x.at r.fields next items n f rest d);
        name = λ n f rest d. ap (part_of (λ (y : Field). y.attribute.name)) (item_there x.at r.fields next items n f rest d);
        held = λ n f rest d. ap (part_of (λ (y : Field). octets_of y.value)) (item_there x.at r.fields next items n f rest d);
        behind = λ n h. ap field_tells (item_none x.at r.fields next items n h);
        other = b;
      }

  no_field : row_over s x ≡ no 19 x.at → (n : ℕ) → field_over s x n ≡ no 19 x.at
  no_field a n = field_unasked s x.at x.rows x.octets x.used n 19 x.at a

  layout_answered : (l : Layout) → row_over s x ≡ no 19 x.at → layout_over s x ≡ ok l next → LayoutAnswered s x l next
  layout_answered l a b =
      let items : Items (attribute_over s x) x.at l.attributes next = λ n. attribute_asked_lem s x.at x.rows x.octets x.used n l next b in
      record {
        type_name = ap (part_of (λ (y : Layout). y.type_name)) b;
        attribute = items;
        name = λ n y rest d. ap (part_of (λ (z : Attribute). z.name)) (item_there x.at l.attributes next items n y rest d);
        kind = λ n y rest d. ap kind_tells (item_there x.at l.attributes next items n y rest d);
        behind = λ n h. ap kind_tells (item_none x.at l.attributes next items n h);
        other = no_field a;
      }

  answered : (e : Element) → row_over s x ≡ row_of x.at e next → layout_over s x ≡ layout_of x.at e next → Answered s x e next
  answered (item (row r)) a b = row_answered r a b
  answered (item (layout l)) a b = layout_answered l a b
  answered (finish n t) a b = record { no_row = no_field a; no_layout = b }

-- What its row and its layout are when asked with what an element's own step is given.
module _ {s : List ℕ} {x : Lent} {before : List Placed} {p : Placed} (m : Meets s x before p) where
  pub row_is : row_over s m.given ≡ row_of m.given.at p.element m.next
  row_is =
      let g = m.given in
      row_after s g.at g.rows g.octets g.used m.stepped m.next m.steps ∙ ap (λ (e : Element). row_of g.at e m.next) m.element

  pub layout_is : layout_over s m.given ≡ layout_of m.given.at p.element m.next
  layout_is =
      let g = m.given in
      layout_after s g.at g.rows g.octets g.used m.stepped m.next m.steps ∙ ap (λ (e : Element). layout_of g.at e m.next) m.element

-- Each element of a reading by steps.
pub asked : {s : List ℕ} {x : Lent} {elements : List Placed} {e : Ending} → BySteps s x elements e → AllAsked s x elements
asked {s} d before p behind is =
    let m = meets before p behind d is in
    record { meets = m; answers = answered s m.given m.next p.element (row_is m) (layout_is m) }

-- An accepted header. Its octets are its image, in which each list's count stands behind what is before it.
module _ (s : List ℕ) (o : Each Octet s) (h : Header) (next : ℕ) (e : header_at s ≡ ok h next) where
  stands : GoodHeader h × Spans s (length s) 0 next (header_image h)
  unfolding header_at
  stands =
      let (t, from) = chosen (leb (length s) longest) (λ _. header_from s 0) 2 0 e in
      let (fits, good, spans) = (header_inverse s).forth o (omega arith) from in
      (good, spans)

  count_stands : (pre : List ℕ) (k : ℕ) (post : List ℕ) (place : ℕ) → k ≤ 16 → header_image h ≡ pre ++ (word 4 k ++ post) → length pre ≡ place
      → number 4 s place ≡ ok k (place + 4)
  count_stands pre k post place few is size =
      let rest = (middle pre (word 4 k ++ post) (subst (Spans s (length s) 0 next) is stands.1)).1 in
      let count = (number_whole s 4).back k tt (omega arith) (middle (word 4 k) post rest).0 in
      subst (λ (p : ℕ). number 4 s p ≡ ok k (p + 4)) size (rw (length_word, zero-add) at count)

  -- What stands before the first count, and behind the second.
  front : List ℕ
  front = word 4 4 ++ (led_image h.recorder ++ (word 8 h.start ++ led_image h.default))

  back : List ℕ
  back = images led_image h.services ++ (word 4 16 ++ (h.id ++ word 4 0xffffffff))

  namespaces_stand : number 4 s (namespaces_place h) ≡ ok (length h.others) (namespaces_place h + 4)
  unfolding header_image namespaces_place front back
  namespaces_stand =
      count_stands front (length h.others) (images namespace_image h.others ++ (word 4 (length h.services) ++ back)) (namespaces_place h) stands.0.few_others
      (simp append_assoc) (simp (length-append, length_word) (omega arith))

  services_stand : number 4 s (services_place h) ≡ ok (length h.services) (services_place h + 4)
  unfolding header_image namespaces_place services_place front back
  services_stand =
      count_stands (front ++ (word 4 (length h.others) ++ images namespace_image h.others)) (length h.services) back (services_place h) stands.0.few_services
      (simp append_assoc) (simp (length-append, length_word) (omega arith))

  pub header_answered : HeaderAnswered s h next
  unfolding namespace_asked service_asked
  header_answered =
      let namespaces : Items (namespace_asked s) (namespaces_place h) h.others next = λ n. rw e refl in
      let services : Items (service_asked s) (services_place h) h.services next = λ n. rw e refl in
      record {
        numbers = ap head_tells e;
        recorder = ap (part_of (λ (x : Header). x.recorder)) e;
        default = ap (part_of (λ (x : Header). x.default)) e;
        id = ap (part_of (λ (x : Header). x.id)) e;
        namespaces = namespaces_stand;
        namespace = namespaces;
        uri = λ n x rest d. ap (part_of (λ (y : Namespace). y.uri)) (item_there (namespaces_place h) h.others next namespaces n x rest d);
        short = λ n x rest d. ap (part_of (λ (y : Namespace). y.short)) (item_there (namespaces_place h) h.others next namespaces n x rest d);
        services = services_stand;
        service = services;
        definition = λ n x rest d. ap (part_of (λ (y : List ℕ). y)) (item_there (services_place h) h.services next services n x rest d);
      }
