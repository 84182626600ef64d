-- A plan being made: the steps that stand, and those of the attributes that are left. A store behind what stands leaves it.
use Prim.Native.Nat.{ℕ, suc, ◌+◌, ◌%◌, ◌≤◌, ◌<◌}
use mathlib.Core.Path.{◌≡◌, refl, sym, ap, ◌∙◌, subst}
use mathlib.Core.List.{List, [], ◌∷◌, ◌++◌, append_assoc}
use mathlib.Core.Bool.{Bool, true, false}
use native.Mathlib.Omega.{arith}
use lib.ListN.{length, set, take, drop, length-set, length-append}
use lib.Seq.{take-take, take-add, take-set-le, drop_at, drop-set-lt, length-take-le, get_or-set_same}
use lib.Dec.{eqb}
use borrow.Author.Tests.{eq-eqb, ne_eqb}
use Rattle.octets.specs.Reading.{ok, part, run, choose}
use Rattle.octets.proofs.Spans.{Spans, join, one_spans}
use Rattle.octets.proofs.Inverse.{after, ok_value, ok_place}
use Rattle.kinds.specs.Kinds.{form_of}
use Rattle.layouts.specs.Layout.{Attribute, attribute_at}
use Rattle.plans.specs.Plan.{mark, plan_of, Begins}
use Rattle.plans.proofs.Walking.{begins_spans, spans_begins}

-- A part before a place is as the list before that place is.
front : (s : List ℕ) (at n : ℕ) → at ≤ length s → drop at (take (at + n) s) ≡ part s at n
unfolding part
front s at n h = ap (drop at) (take-add at n s) ∙ drop_at (take at s) (take n (drop at s)) at (length-take-le at s h)

pub part_kept : (s t : List ℕ) (at n m : ℕ) → at + n ≤ m → m ≤ length s → length t ≡ length s → take m t ≡ take m s → part t at n ≡ part s at n
part_kept s t at n m h k l e =
    sym (front t at n (omega arith))
    ∙ (ap (drop at) (sym (take-take (at + n) m t h) ∙ (ap (take (at + n)) e ∙ take-take (at + n) m s h)) ∙ front s at n (omega arith))

pub begins_kept : (s t : List ℕ) (at m : ℕ) (xs : List ℕ) → at + length xs ≤ m → m ≤ length s → length t ≡ length s → take m t ≡ take m s → Begins s at xs → Begins t at xs
begins_kept s t at m xs h k l e b = record { inside = omega (arith, b.inside, l); is = part_kept s t at (length xs) m h k l e ∙ b.is }

-- A store before what stands.
pub begins_behind : (s : List ℕ) (at j x : ℕ) (xs : List ℕ) → j < at → Begins s at xs → Begins (set s j x) at xs
unfolding part
begins_behind s at j x xs h b =
    record { inside = simp length-set b.inside; is = ap (take (length xs)) (drop-set-lt at s j x h) ∙ b.is }

-- A store right behind what stands.
pub begins_set : (s : List ℕ) (at j x : ℕ) (xs : List ℕ) → Begins s at xs → j ≡ at + length xs → j < length s → Begins (set s j x) at (xs ++ x ∷ [])
begins_set s at j x xs b e h =
    let t = set s j x in
    let long : length t ≡ length s = length-set s j x in
    let old : Begins t at xs = begins_kept s t at j xs (omega arith) (omega arith) long (take-set-le j s j x (omega arith)) b in
    let one : Spans t (length t) j (j + 1) (x ∷ []) = subst (λ (y : ℕ). Spans t (length t) j (j + 1) (y ∷ [])) (get_or-set_same s j x 0 h) (one_spans j (omega arith) (omega arith)) in
    spans_begins t at (j + 1) (xs ++ x ∷ [])
    (join (begins_spans t at xs old) (subst (λ (k : ℕ). Spans t (length t) k (j + 1) (x ∷ [])) e one))

-- No plan is without a step.
plan_some : (sum : ℕ) (xs : List Attribute) → 0 < length (plan_of sum xs)
unfolding plan_of
plan_some sum [] = omega arith
plan_some sum (a ∷ others) = go (eqb (mark (form_of a.kind) % 4) 0) (plan_some (sum + mark (form_of a.kind)) others)
  where
    go : (b : Bool) → 0 < length (plan_of (sum + mark (form_of a.kind)) others)
        → 0 < length (choose b (λ _. plan_of (sum + mark (form_of a.kind)) others) (λ _. (sum + mark (form_of a.kind)) ∷ plan_of 0 others))
    go true h = h
    go false h = omega arith

-- The steps made before an attribute, and that these with the others' are the plan of all.
pub record Making (doc steps : List ℕ) (xs : List Attribute) (last from k place j sum : ℕ) : Type 0 where
  pub others : List Attribute
  pub reads : run (attribute_at doc) k place ≡ ok others last
  pub made : List ℕ
  pub here : j ≡ from + length made
  pub stands : Begins steps from made
  pub split : plan_of 0 xs ≡ made ++ plan_of sum others

module _ (doc : List ℕ) (xs : List Attribute) (last from : ℕ) where
  pub making_start : (steps : List ℕ) (k place : ℕ) → from ≤ length steps → run (attribute_at doc) k place ≡ ok xs last → Making doc steps xs last from k place from 0
  unfolding part
  making_start steps k place h e =
      record { others = xs; reads = e; made = []; here = omega arith; stands = record { inside = omega arith; is = refl }; split = refl }

  -- The attribute here, and the plan with its mark.
  module _ (steps : List ℕ) (k place j sum : ℕ) (m : Making doc steps xs last from (suc k) place j sum) where
    pub record Next : Type 0 where
      pub attribute : Attribute
      pub next : ℕ
      pub reads : attribute_at doc place ≡ ok attribute next
      pub on : mark (form_of attribute.kind) % 4 ≡ 0 → Making doc steps xs last from k next j (sum + mark (form_of attribute.kind))
      pub close : (mark (form_of attribute.kind) % 4 ≡ 0 → ⊥) → j < length steps
          → Making doc (set steps j (sum + mark (form_of attribute.kind))) xs last from k next (j + 1) 0

    pub making_next : Next
    unfolding run plan_of
    making_next =
        after (attribute_at doc place) _ m.reads λ a next e₁ e₂.
        after (run (attribute_at doc) k next) _ e₂ λ rest end e₃ e₄.
        let is : m.others ≡ a ∷ rest = ok_value e₄ refl in
        let place : last ≡ end = ok_place e₄ refl in
        let reads : run (attribute_at doc) k next ≡ ok rest last = e₃ ∙ ap (ok rest) (sym place) in
        let n = mark (form_of a.kind) in
        let split : plan_of 0 xs ≡ m.made ++ plan_of sum (a ∷ rest) = m.split ∙ ap (λ (ys : List Attribute). m.made ++ plan_of sum ys) is in
        record {
          attribute = a;
          next = next;
          reads = e₁;
          on = λ z. record { others = rest; reads = reads; made = m.made; here = m.here; stands = m.stands; split = split ∙ rw (eq-eqb (n % 4) 0 z) refl };
          close = λ z h. record {
            others = rest;
            reads = reads;
            made = m.made ++ (sum + n) ∷ [];
            here = omega (arith, m.here, length-append m.made ((sum + n) ∷ []));
            stands = begins_set steps from j (sum + n) m.made m.stands m.here h;
            split = split ∙ (rw (ne_eqb (n % 4) 0 z) refl ∙ sym (append_assoc m.made ((sum + n) ∷ []) (plan_of 0 rest)));
          };
        }

  -- A plan with a step that the steps do not hold.
  pub making_full : (steps : List ℕ) (k place j sum to : ℕ) → Making doc steps xs last from k place j sum → to ≤ j → to < from + length (plan_of 0 xs)
  making_full steps k place j sum to m h =
      omega (arith, m.here, ap length m.split, length-append m.made (plan_of sum m.others), plan_some sum m.others)

  -- The last step.
  pub making_last : (steps : List ℕ) (place j sum : ℕ) → Making doc steps xs last from 0 place j sum → j < length steps
      → (j + 1 ≡ from + length (plan_of 0 xs)) × Begins (set steps j sum) from (plan_of 0 xs)
  unfolding run plan_of
  making_last steps place j sum m h =
      let none : m.others ≡ [] = ok_value m.reads refl in
      let all : plan_of 0 xs ≡ m.made ++ sum ∷ [] = m.split ∙ ap (λ (ys : List Attribute). m.made ++ plan_of sum ys) none in (
        omega (arith, m.here, ap length all, length-append m.made (sum ∷ [])),
        subst (Begins (set steps j sum) from) (sym all) (begins_set steps from j sum m.made m.stands m.here h),
      )
