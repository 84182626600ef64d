-- `elements::layout_step` meets its contract: the layout is read to its last type, then judged; each answer by a law of both. Assumes nothing.
use Prim.Native.Nat.{ℕ, ◌+◌}
use mathlib.Core.Path.{◌≡◌, refl, sym, ap, ◌∙◌, subst}
use mathlib.Core.List.{[], ◌∷◌, ◌++◌}
use lib.ListN.{length, length-append}
use Rattle.std.specs.Prelude.{Result, Ok}
use Rattle.octets.specs.Reading.{ok, ends}
use Rattle.octets.specs.Answers.{says}
use Rattle.octets.proofs.Ends.{ended}
use Rattle.octets.specs.declared.Fault.{Fault}
use Rattle.layouts.specs.Layout.{Layout, layout_at, layout_image}
use Rattle.layouts.specs.Book.{Book, book_image}
use Rattle.layouts.specs.Answers.{Judges, Looks}
use Rattle.layouts.specs.declared.Learning.{Learning}
use Rattle.layouts.proofs.Books.{image_snoc}
use Rattle.layouts.proofs.Parts.{layout_number}
use Rattle.elements.specs.Answers.{tells, Over}
use Rattle.elements.proofs.Told.{layout_unlearnt, layout_learnt, looked_at}
use Rattle.elements.proofs.layout_step.Goals.{In_ok-next, After-judge_by}
use Rattle.elements.proofs.layout_step.Goals as goal

-- The layout that was read.
read_to : (k : In_ok-next) → ends (layout_at k.args.doc.now k.args.at) ≡ ok k.in_ok-next.next k.in_ok-next.next
read_to k = sym k.layout_end.ensures.0 ∙ ap says k.in_ok-next.was

layout : (k : In_ok-next) → (l : Layout) × (layout_at k.args.doc.now k.args.at ≡ ok l k.in_ok-next.next)
layout k = ended (layout_at k.args.doc.now k.args.at) k.in_ok-next.next (read_to k)

-- How it was judged.
judged : (v : After-judge_by) (l : Layout) → let a = v.args in layout_at a.doc.now a.at ≡ ok l v.in_ok-next.next → (b : Book) → Over a.doc.now a.at a.s.now a.looked a.used b
    → (x : Result Learning Fault) → v.judge_by.result ≡ x → Judges a.used b l a.at x
judged v l e b o x q =
    let a = v.args in
    let (room, number) = layout_number a.doc.now a.at e in
    subst (Judges a.used b l a.at) q
    (v.judge_by.ensures b l e (subst (λ (n : ℕ). Looks a.s.now n b a.looked) number (looked_at a.doc.now a.at a.s.now a.looked a.used b o room a.looked refl)) o.size)

pub returns-in-Err : goal.returns-in-Err
returns-in-Err c = λ b o.
    let a = c.args in
    let v = goal.at.returns-in-Err c in
    let (l, e) = layout v.In_ok-next in
    sym (ap tells (layout_unlearnt a.doc.now a.at a.rows b l _ e _ _ (judged v.After-judge_by l e b o _ c.in-Err.is)))

pub returns-in-Ok-Known : goal.returns-in-Ok-Known
returns-in-Ok-Known c = λ b o.
    let a = c.args in
    let v = goal.at.returns-in-Ok-Known c in
    let (l, e) = layout v.In_ok-next in
    ap Ok (c.layout_told.ensures l _ e b o.size) ∙ sym (ap tells (layout_learnt a.doc.now a.at a.rows b l _ e b _ (judged v.After-judge_by l e b o _ (c.in-Ok-Known.is ∙ ap Ok c.in-Ok-Known.field-0-is))))

pub returns-in-Ok-New : goal.returns-in-Ok-New
returns-in-Ok-New c = λ b o.
    let a = c.args in
    let v = goal.at.returns-in-Ok-New c in
    let (l, e) = layout v.In_ok-next in
    let w = judged v.After-judge_by l e b o _ (c.in-Ok-New.is ∙ ap Ok c.in-Ok-New.field-0-is) in
    let more : Book = b ++ l ∷ [] in
    let long = ap length (image_snoc b l) ∙ (length-append (book_image b) (layout_image l) ∙ ap (λ (n : ℕ). n + length (layout_image l)) o.size) in
    ap Ok (c.layout_told-in-Ok-New.ensures l _ e more (long ∙ sym w.1)) ∙ sym (ap tells (layout_learnt a.doc.now a.at a.rows b l _ e more _ w.0))
