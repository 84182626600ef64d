-- What is kept of a book goes on with it: from nothing, by one layout behind the others, and with more octets behind the shelf's.
use Prim.Native.Nat.{ℕ, ◌+◌, ◌≤◌, ◌<◌}
use mathlib.Core.Path.{◌≡◌, refl, sym, ap, ◌∙◌, subst}
use mathlib.Core.List.{List, [], ◌∷◌, ◌++◌}
use mathlib.Core.Bool.{true, false}
use mathlib.Core.Option.{Option, some}
use native.Mathlib.Omega.{arith}
use native.Mathlib.Numerals.{add-one}
use lib.ListN.{length, get_or, set, take, replicate, length-set, length-append, length-replicate}
use lib.Seq.{get_or-set_same, get_or-set_other, get_or-take, take-suc-set}
use Rattle.octets.specs.Limits.{most_layouts}
use Rattle.octets.specs.Reading.{Read, ok, no}
use Rattle.octets.specs.Writing.{Each, Octet}
use Rattle.layouts.specs.Layout.{Layout, layout_at}
use Rattle.layouts.specs.Book.{Book, GoodBook}
use Rattle.layouts.proofs.Parts.{layout_extends}
use Rattle.layouts.proofs.Growing.{good_nil}
use Rattle.plans.specs.Plan.{plan_for, Begins}
use Rattle.plans.proofs.Making.{begins_kept, begins_behind}
use Rattle.walks.specs.Kept.{Tally, tally_of, nothing, empty, holds, grown, tallied, mark_of, marks, PlansFrom, as_option, standing, all, Numbered, Shelved, Kept, Keeps}
use Rattle.walks.specs.declared.Known.{Known}
use Rattle.walks.proofs.Marks.{tallied_more, marks_more, plans_stay, plans_more}

-- Nothing kept of the empty book, whatever stands in the numbers, places and steps.
pub kept_none : (shelf numbers places steps : List ℕ) → length numbers ≡ 64 → length places ≡ 64 → length steps ≡ 1216
    → Kept shelf (record { numbers = numbers; places = places; steps = steps; count = 0; filled = 64 }) []
kept_none shelf numbers places steps n p s =
    record {
      planned = record { numbered = record { good = good_nil; count = refl; long = n; marked = refl }; long = s; plans = tt };
      shelved = record { long = p; stands = refl };
      tally = refl;
    }

pub kept_empty : (shelf : List ℕ) → Kept shelf empty []
kept_empty shelf =
    let short : List ℕ = replicate 64 0 in
    let long : List ℕ = replicate 1216 0 in
    kept_none shelf short short long (length-replicate {A = ℕ} 64 0) (length-replicate {A = ℕ} 64 0) (length-replicate {A = ℕ} 1216 0)

-- One more in a list kept from its front.
put_behind : {A : Type 0} (xs : List A) (k : ℕ) (v : A) → k < length xs → take (k + 1) (set xs k v) ≡ take k xs ++ v ∷ []
put_behind xs k v h = rw (add-one k) (take-suc-set xs k v h)

standing_append : (s ps qs : List ℕ) → standing s (ps ++ qs) ≡ standing s ps ++ standing s qs
standing_append s [] qs = refl
standing_append s (p ∷ ps) qs = ap (λ (xs : List (Option Layout)). as_option (layout_at s p) ∷ xs) (standing_append s ps qs)

all_append : (b c : Book) → all (b ++ c) ≡ all b ++ all c
all_append [] c = refl
all_append (l ∷ b) c = ap (λ (xs : List (Option Layout)). some l ∷ xs) (all_append b c)

module _ (shelf : List ℕ) (k : Known) (book : Book) (kept : Kept shelf k book) (room : k.count < most_layouts) (l : Layout) (good : GoodBook (book ++ l ∷ []))
    (place next : ℕ) (reads : layout_at shelf place ≡ ok l next) (k₁ : Known) (h : Keeps l place k k₁) where
  counted : k₁.count ≡ k.count + 1
  counted = ap (λ (t : Tally). t.known) h.tally

  numbered_more : Numbered k₁ (book ++ l ∷ [])
  numbered_more =
      let n = kept.planned.numbered in
      record {
        good = good;
        count = length-append book (l ∷ []) ∙ (ap (λ (m : ℕ). m + 1) n.count ∙ sym counted);
        long = ap length h.number ∙ (length-set k.numbers k.count (mark_of (tally_of k) l) ∙ n.long);
        marked =
            rw (counted, h.number)
            (put_behind k.numbers k.count (mark_of (tally_of k) l) (omega (arith, n.long))
            ∙ (ap (λ (xs : List ℕ). xs ++ mark_of (tally_of k) l ∷ []) n.marked
            ∙ (ap (λ (x : Tally). marks nothing book ++ mark_of x l ∷ []) kept.tally ∙ sym (marks_more nothing book l))));
      }

  shelved_more : Shelved shelf k₁ (book ++ l ∷ [])
  shelved_more =
      let s = kept.shelved in
      record {
        long = ap length h.place_is ∙ (length-set k.places k.count place ∙ s.long);
        stands =
            rw (counted, h.place_is)
            (ap (standing shelf) (put_behind k.places k.count place (omega (arith, s.long)))
            ∙ (standing_append shelf (take k.count k.places) (place ∷ []) ∙ rw (s.stands, reads) (sym (all_append book (l ∷ [])))));
      }

  pub kept_more : Kept shelf k₁ (book ++ l ∷ [])
  kept_more =
      record {
        planned = record { numbered = numbered_more; long = h.long; plans = h.plans book kept.tally kept.planned.plans };
        shelved = shelved_more;
        tally = h.tally ∙ (ap (λ (x : Tally). grown x l) kept.tally ∙ sym (tallied_more nothing book l));
      }

-- More octets behind a shelf change nothing of what stands in it.
stands_on : (s more ps : List ℕ) (book : Book) → Each Octet s → standing s ps ≡ all book → standing (s ++ more) ps ≡ all book
stands_on s more [] [] o e = refl
stands_on s more [] (l ∷ book) o e = absurd (let z : ◌≡◌ {A = ℕ} 0 1 = cc in omega arith)
stands_on s more (p ∷ ps) [] o e = absurd (let z : ◌≡◌ {A = ℕ} 0 1 = cc in omega arith)
stands_on s more (p ∷ ps) (l ∷ book) o e =
    let first : as_option (layout_at s p) ≡ some l = cc in
    let rest : standing s ps ≡ all book = cc in
    rw (here (layout_at s p) refl first, stands_on s more ps book o rest) refl
  where
    here : (r : Read Layout) → layout_at s p ≡ r → as_option r ≡ some l → as_option (layout_at (s ++ more) p) ≡ some l
    here (ok m next) q f = ap as_option (layout_extends s more p m next o q) ∙ f
    here (no n m) q f = absurd (let z : ◌≡◌ {A = ℕ} 0 1 = cc in omega arith)

pub kept_extends : (shelf more : List ℕ) (k : Known) (book : Book) → Each Octet shelf → Kept shelf k book → Kept (shelf ++ more) k book
kept_extends shelf more k book o kept =
    record {
      planned = kept.planned;
      shelved = record { long = kept.shelved.long; stands = stands_on shelf more (take k.count k.places) book o kept.shelved.stands };
      tally = kept.tally;
    }

-- The plans of a book behind a plan that was put, or for which there was no room: what was put leaves the steps before it.
module _ (steps put : List ℕ) (t : Tally) (l : Layout) (room : t.known < most_layouts) (start : 64 ≤ t.filled) (long : length steps ≡ 1216) (inside : t.filled ≤ 1216)
    (kept : take t.filled put ≡ take t.filled steps) (put_long : length put ≡ 1216) where
  same_step : (i : ℕ) → i < t.known → get_or put i 0 ≡ get_or steps i 0
  same_step i h =
      let low : i < t.filled = omega arith in
      sym (get_or-take t.filled put i 0 low) ∙ (ap (λ (xs : List ℕ). get_or xs i 0) kept ∙ get_or-take t.filled steps i 0 low)

  same_plan : (at : ℕ) (xs : List ℕ) → at + length xs ≤ t.filled → Begins steps at xs → Begins put at xs
  same_plan at xs h b = begins_kept steps put at t.filled xs h (omega arith) (put_long ∙ sym long) kept b

  pub plans_full : holds t l ≡ false → (book : Book) → t ≡ tallied nothing book → PlansFrom steps nothing book → PlansFrom put nothing (book ++ l ∷ [])
  plans_full full book is p =
      let known = ap (λ (x : Tally). x.known) is in
      let filled = ap (λ (x : Tally). x.filled) is in
      plans_more put nothing book l
      (plans_stay steps put nothing book (omega arith) (λ i h. same_step i (omega arith)) (λ at xs _ h b. same_plan at xs (omega arith) b) p)
      (λ q. absurd (let z : true ≡ false = sym q ∙ (ap (λ (x : Tally). holds x l) (sym is) ∙ full) in let w : ◌≡◌ {A = ℕ} 0 1 = cc in omega arith))

  pub plans_put : Begins put t.filled (plan_for l) → (book : Book) → t ≡ tallied nothing book → PlansFrom steps nothing book
      → PlansFrom (set put t.known t.filled) nothing (book ++ l ∷ [])
  plans_put stands book is p =
      let known = ap (λ (x : Tally). x.known) is in
      let filled = ap (λ (x : Tally). x.filled) is in
      plans_more steps₁ nothing book l
      (plans_stay steps steps₁ nothing book (omega arith)
      (λ i h. get_or-set_other put t.known i t.filled 0 (λ z. omega arith) ∙ same_step i (omega arith))
      (λ at xs from h b. begins_behind put at t.known t.filled xs (omega arith) (same_plan at xs (omega arith) b)) p)
      (λ q. subst (λ (x : Tally). (get_or steps₁ x.known 0 ≡ x.filled) × Begins steps₁ x.filled (plan_for l)) is
      (get_or-set_same put t.known t.filled 0 (omega arith), begins_behind put t.filled t.known t.filled (plan_for l) (omega arith) stands))
    where
      steps₁ : List ℕ
      steps₁ = set put t.known t.filled
