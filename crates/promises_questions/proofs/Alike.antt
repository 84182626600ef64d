-- An element that two readings by steps meet is answered alike in both, whatever they were told and lent: a step's next place is behind the element's image. Assumes nothing.
use Prim.Native.Nat.{ℕ, ◌+◌}
use mathlib.Core.Path.{◌≡◌, sym, ap, ◌∙◌}
use mathlib.Core.List.{List}
use native.Mathlib.Omega.{arith}
use lib.ListN.{length}
use Rattle.octets.specs.Reading.{ok}
use Rattle.octets.specs.Writing.{Each, Octet}
use Rattle.octets.proofs.Inverse.{after}
use Rattle.layouts.specs.Book.{Book}
use Rattle.elements.specs.Element.{Element, item, finish, Stepped}
use Rattle.elements.specs.Steps.{lent_book, step_at}
use Rattle.elements.specs.Walk.{Lent}
use Rattle.elements.specs.Reading.{Placed}
use Rattle.elements.specs.Document.{item_image}
use Rattle.elements.proofs.Before.{lent_short}
use Rattle.elements.proofs.Elements.{end_image, Came, a_layout, a_row, an_end, element_forth}
use Rattle.elements.proofs.Behind.{element_inside}
use Rattle.questions.specs.Questions.{row_of, layout_of, field_asked, attribute_asked}
use Rattle.promises.specs.BySteps.{Meets}
use Rattle.promises_questions.specs.Answered.{SameAnswers}
use Rattle.promises_questions.proofs.Answered.{row_is, layout_is}

-- Where an element ends.
abbrev image_of : Element → List ℕ
image_of (item i) = item_image i
image_of (finish n t) = end_image n t

came_end : {s : List ℕ} {at rows next : ℕ} {book : Book} {st : Stepped} → Came s at rows book st next → next ≡ at + length (image_of st.element)
came_end (a_layout g m p) = p.place
came_end (a_row g p) = p.place
came_end (an_end g whole p) = p.place

step_end : (s : List ℕ) → Each Octet s → (at rows : ℕ) (octets : List ℕ) (used : ℕ) (st : Stepped) (next : ℕ) → step_at s at rows octets used ≡ ok st next
    → next ≡ at + length (image_of st.element)
unfolding step_at
step_end s o at rows octets used st next e =
    after (lent_book s rows octets used) _ e λ book mid lent f.
    let inside = element_inside s at rows book st next f in
    came_end (element_forth s (lent_short s rows octets used lent) at rows book o (omega arith) f)

meets_end : {s : List ℕ} {x : Lent} {before : List Placed} {p : Placed} → Each Octet s → (m : Meets s x before p) → m.next ≡ m.given.at + length (image_of p.element)
meets_end {s} o m =
    let g = m.given in
    step_end s o g.at g.rows g.octets g.used m.stepped m.next m.steps ∙ ap (λ (e : Element). g.at + length (image_of e)) m.element

pub alike : {s : List ℕ} {x y : Lent} {before others : List Placed} {p : Placed} → Each Octet s → (m : Meets s x before p) (k : Meets s y others p) → SameAnswers s m.given k.given
unfolding field_asked attribute_asked
alike {s} {p = p} o m k =
    let here : m.given.at ≡ k.given.at = m.there ∙ sym k.there in
    let end : m.next ≡ k.next = meets_end o m ∙ (ap (λ (a : ℕ). a + length (image_of p.element)) here ∙ sym (meets_end o k)) in
    let row_same = row_is m ∙ (ap (λ (a : ℕ). row_of a p.element m.next) here ∙ (ap (row_of k.given.at p.element) end ∙ sym (row_is k))) in
    let layout_same = layout_is m ∙ (ap (λ (a : ℕ). layout_of a p.element m.next) here ∙ (ap (layout_of k.given.at p.element) end ∙ sym (layout_is k))) in
    record {
      field = λ n. rw (row_same, here);
      layout = layout_same;
      attribute = λ n. rw (layout_same, here);
    }
