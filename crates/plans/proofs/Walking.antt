-- Values passed by a plan: its first step is a sum of octets, and either the values end behind these or one more closes the step and the plan of the others follows.
-- By induction on the attributes.
use Prim.Native.Nat.{ℕ, ◌+◌, ◌*◌, ◌/◌, ◌%◌, ◌≤◌, ◌<◌}
use mathlib.Core.Path.{◌≡◌, refl, sym, ap, ◌∙◌, subst}
use mathlib.Core.List.{List, [], ◌∷◌}
use mathlib.Core.Bool.{Bool, true, false}
use native.Mathlib.Omega.{arith}
use lib.ListN.{length, get_or}
use lib.Dec.{leb}
use borrow.Author.Tests.{leb-true, leb-false, eq-eqb, ne_eqb}
use Rattle.std.specs.Prelude.{Result, Ok, Err}
use Rattle.octets.specs.Reading.{ok, ends, is_ok, reach}
use Rattle.octets.specs.Answers.{says, Within}
use Rattle.octets.specs.declared.Room.{Room}
use Rattle.octets.specs.declared.Room.TheVariants.{Stated}
use Rattle.octets.specs.declared.Refused.{Refused}
use Rattle.octets.proofs.Spans.{Spans, middle, one_is, part_spans, part_is}
use Rattle.texts.specs.declared.Rule.TheVariants as rule
use Rattle.kinds.specs.declared.Form.{Form}
use Rattle.kinds.specs.declared.Form.TheVariants as form
use Rattle.kinds.specs.Kinds.{form_of}
use Rattle.layouts.specs.Layout.{Attribute}
use Rattle.rows.specs.Row.{fields_in}
use Rattle.kinds.specs.Forms.{value_in}
use Rattle.octets.proofs.Ends.{ends_ok, ok_alike, number_in_lem, number_over, overrun_ends, overrun_no}
use Rattle.texts.specs.Texts.{holds, led_in}
use Rattle.kinds.proofs.Forms.{fixed_ends, led_ends, value_ends, value_refused}
use Rattle.rows.proofs.Values.{fields_none, fields_on, fields_no}
use Rattle.plans.specs.Plan.{mark, plan_of, Begins}
use Rattle.plans.specs.Answers.{passed_of, rule_at, closing, Closes}

-- What the first step of a plan behind v octets says, of values that end and of values that are refused.
pub data Walk (v : ℕ) (xs : List Attribute) : Type 0 where
  last : (w : ℕ) → plan_of (v * 4) xs ≡ ((v + w) * 4) ∷ []
      → ((room : Room) (s : List ℕ) (at : ℕ) → at + w ≤ reach room s → ends (fields_in room xs s at) ≡ ok (at + w) (at + w))
      → ((room : Room) (s : List ℕ) (at : ℕ) → at ≤ reach room s → reach room s < at + w → is_ok (fields_in room xs s at) ≡ false) → Walk v xs
  more : (w k : ℕ) (ys : List Attribute) → 0 < k → k < 4 → plan_of (v * 4) xs ≡ ((v + w) * 4 + k) ∷ plan_of 0 ys
      → ((room : Room) (s : List ℕ) (at p : ℕ) → at + w ≤ reach room s → ends (value_in room (closing k) s (at + w)) ≡ ok p p → ends (fields_in room xs s at) ≡ ends (fields_in room ys s p))
      → ((room : Room) (s : List ℕ) (at : ℕ) → is_ok (value_in room (closing k) s (at + w)) ≡ false → is_ok (fields_in room xs s at) ≡ false) → Walk v xs

module _ (v : ℕ) (a : Attribute) (others : List Attribute) where
  plan_on : mark (form_of a.kind) % 4 ≡ 0 → plan_of (v * 4) (a ∷ others) ≡ plan_of (v * 4 + mark (form_of a.kind)) others
  unfolding plan_of
  plan_on e = rw (eq-eqb (mark (form_of a.kind) % 4) 0 e) refl

  plan_close : (mark (form_of a.kind) % 4 ≡ 0 → ⊥) → plan_of (v * 4) (a ∷ others) ≡ (v * 4 + mark (form_of a.kind)) ∷ plan_of 0 others
  unfolding plan_of
  plan_close e = rw (ne_eqb (mark (form_of a.kind) % 4) 0 e) refl

  -- A number joins the sum.
  fixed : (w : ℕ) → form_of a.kind ≡ form.Fixed w → Walk (v + w) others → Walk v (a ∷ others)
  fixed w f walk = go walk
    where
      value : (room : Room) (s : List ℕ) (at : ℕ) → at + w ≤ reach room s → ends (fields_in room (a ∷ others) s at) ≡ ends (fields_in room others s (at + w))
      value room s at h =
          fields_on room s at a others (at + w)
          (ap (λ (x : Form). ends (value_in room x s at)) f ∙ (fixed_ends room s at w ∙ ap ends (number_in_lem room s at w h)))

      -- Where the values behind it are refused, or it passes the end, all are.
      refused : (room : Room) (s : List ℕ) (at : ℕ) → (at + w ≤ reach room s → is_ok (fields_in room others s (at + w)) ≡ false) → is_ok (fields_in room (a ∷ others) s at) ≡ false
      refused room s at behind = split (leb (at + w) (reach room s)) refl
        where
          split : (b : Bool) → leb (at + w) (reach room s) ≡ b → is_ok (fields_in room (a ∷ others) s at) ≡ false
          split true t =
              let h = leb-true (at + w) (reach room s) t in
              ok_alike (fields_in room (a ∷ others) s at) (fields_in room others s (at + w)) (value room s at h) ∙ behind h
          split false t =
              fields_no room s at a others
              (ap (λ (x : Form). is_ok (value_in room x s at)) f
              ∙ overrun_no (value_in room (form.Fixed w) s at) room at
              (fixed_ends room s at w ∙ (ap ends (number_over room s at w (leb-false (at + w) (reach room s) t)) ∙ overrun_ends ℕ room at)))

      plan : plan_of (v * 4) (a ∷ others) ≡ plan_of ((v + w) * 4) others
      plan = plan_on (ap (λ (x : Form). mark x % 4) f ∙ omega arith) ∙ ap (λ (n : ℕ). plan_of n others) (ap (λ (x : Form). v * 4 + mark x) f ∙ omega arith)

      go : Walk (v + w) others → Walk v (a ∷ others)
      go (last n e g bad) =
          last (w + n) (plan ∙ (e ∙ ap (λ (m : ℕ). m ∷ []) (omega arith)))
          (λ room s at h. value room s at (omega arith) ∙ (g room s (at + w) (omega arith) ∙ ap (λ (m : ℕ). ok m m) (omega arith)))
          λ room s at h q. refused room s at λ m. bad room s (at + w) m (omega arith)
      go (more n k ys z y e g bad) =
          more (w + n) k ys z y (plan ∙ (e ∙ ap (λ (m : ℕ). m ∷ plan_of 0 ys) (omega arith)))
          (λ room s at p h q.
          value room s at (omega arith) ∙ g room s (at + w) p (omega arith) (subst (λ (m : ℕ). ends (value_in room (closing k) s m) ≡ ok p p) (omega arith) q))
          λ room s at q. refused room s at λ m. bad room s (at + w) (subst (λ (m : ℕ). is_ok (value_in room (closing k) s m) ≡ false) (omega arith) q)

  -- Any other value closes the step.
  closes : (f : Form) (k : ℕ) → form_of a.kind ≡ f → mark f ≡ k → 0 < k → k < 4 → closing k ≡ f → Walk v (a ∷ others)
  closes f k e m z y is_form =
      let is : mark (form_of a.kind) ≡ k = ap mark e ∙ m in
      let same : form_of a.kind ≡ closing k = e ∙ sym is_form in
      more 0 k others z y (plan_close (λ q. absurd (never k z y (sym (ap (λ (n : ℕ). n % 4) is) ∙ q))) ∙ ap (λ (n : ℕ). n ∷ plan_of 0 others) (sum (mark (form_of a.kind)) is))
      (λ room s at p h q.
      fields_on room s at a others p
      (ap (λ (x : Form). ends (value_in room x s at)) same ∙ subst (λ (n : ℕ). ends (value_in room (closing k) s n) ≡ ok p p) (omega arith) q))
      λ room s at q.
      fields_no room s at a others
      (ap (λ (x : Form). is_ok (value_in room x s at)) same ∙ subst (λ (n : ℕ). is_ok (value_in room (closing k) s n) ≡ false) (omega arith) q)
    where
      never : (k : ℕ) → 0 < k → k < 4 → k % 4 ≡ 0 → ⊥
      never k z y q = omega arith

      sum : (n : ℕ) → n ≡ k → v * 4 + n ≡ (v + 0) * 4 + k
      sum n q = omega arith

pub walk : (v : ℕ) (xs : List Attribute) → Walk v xs
unfolding plan_of
walk v [] =
    last 0 (ap (λ (m : ℕ). m ∷ []) (omega arith)) (λ room s at h. fields_none room s at ∙ ap (λ (m : ℕ). ok m m) (omega arith)) λ room s at h q. absurd (omega arith)
walk v (a ∷ others) = go (form_of a.kind) refl (λ w. walk (v + w) others)
  where
    go : (f : Form) → form_of a.kind ≡ f → ((w : ℕ) → Walk (v + w) others) → Walk v (a ∷ others)
    go (form.Fixed w) e again = fixed v a others w e (again w)
    go form.Truth e again = closes v a others form.Truth 2 e refl (omega arith) (omega arith) refl
    go (form.Led rule.Free) e again = closes v a others (form.Led rule.Free) 1 e refl (omega arith) (omega arith) refl
    go (form.Led rule.Characters) e again = closes v a others (form.Led rule.Characters) 3 e refl (omega arith) (omega arith) refl

-- What begins at a place, as a span and back.
pub begins_spans : (s : List ℕ) (at : ℕ) (xs : List ℕ) → Begins s at xs → Spans s (length s) at (at + length xs) xs
begins_spans s at xs b = subst (λ (t : List ℕ). Spans s (length s) at (at + length xs) t) b.is (part_spans at (length xs) b.inside (omega arith)).1

pub spans_begins : (s : List ℕ) (at next : ℕ) (xs : List ℕ) → Spans s (length s) at next xs → Begins s at xs
spans_begins s at next xs p = record { inside = omega (arith, p.place, p.inside); is = part_is p }

-- The first of a list that begins at a place, and the others behind it.
pub begins_cons : (s : List ℕ) (at x : ℕ) (xs : List ℕ) → Begins s at (x ∷ xs) → (at < length s) × (get_or s at 0 ≡ x) × Begins s (at + 1) xs
begins_cons s at x xs b =
    let (one, rest) = middle (x ∷ []) xs (begins_spans s at (x ∷ xs) b) in
    (omega (arith, b.inside), one_is one, spans_begins s (at + 1) _ xs rest)

-- A walk on its way: the values of all attributes end where those of the others do, from here, and the others' plan stands here.
pub record Onward (s steps : List ℕ) (end : ℕ) (xs : List Attribute) (at pos j : ℕ) : Type 0 where
  pub others : List Attribute
  pub stands : Begins steps j (plan_of 0 others)
  pub same : (room : Room) → reach room s ≡ end → ends (fields_in room xs s at) ≡ ends (fields_in room others s pos)

module _ (s steps : List ℕ) (end : ℕ) (xs : List Attribute) (at pos j : ℕ) (o : Onward s steps end xs at pos j) where
  -- There is a step.
  pub onward_room : j < length steps
  onward_room = go (walk 0 o.others)
    where
      go : Walk 0 o.others → j < length steps
      go (last w e g bad) = (begins_cons steps j ((0 + w) * 4) [] (subst (Begins steps j) e o.stands)).0
      go (more w k ys z y e g bad) = (begins_cons steps j ((0 + w) * 4 + k) (plan_of 0 ys) (subst (Begins steps j) e o.stands)).0

  module _ (step : ℕ) (here : step ≡ get_or steps j 0) where
    -- At the last step the values end behind its octets, or are refused where these pass the end.
    abbrev pub AtLast : Room → Type 0
    AtLast room =
        (pos + step / 4 ≤ end → ends (fields_in room xs s at) ≡ ok (pos + step / 4) (pos + step / 4))
        × (pos ≤ end → end < pos + step / 4 → is_ok (fields_in room xs s at) ≡ false)

    pub onward_last : step % 4 ≡ 0 → (room : Room) → reach room s ≡ end → AtLast room
    onward_last k room r = go (walk 0 o.others)
      where
        go : Walk 0 o.others → AtLast room
        go (last w e g bad) =
            let is : get_or steps j 0 ≡ (0 + w) * 4 = (begins_cons steps j ((0 + w) * 4) [] (subst (Begins steps j) e o.stands)).1 in
            let q : w ≡ step / 4 = quarter w (here ∙ is) in (
              λ h. o.same room r ∙ (g room s pos (omega arith) ∙ ap (λ (n : ℕ). ok (pos + n) (pos + n)) q),
              λ h l. ok_alike (fields_in room xs s at) (fields_in room o.others s pos) (o.same room r) ∙ bad room s pos (omega arith) (omega arith),
            )
          where
            quarter : (w : ℕ) → step ≡ (0 + w) * 4 → w ≡ step / 4
            quarter w e = omega arith
        go (more w m ys z y e g bad) =
            let is : get_or steps j 0 ≡ (0 + w) * 4 + m = (begins_cons steps j ((0 + w) * 4 + m) (plan_of 0 ys) (subst (Begins steps j) e o.stands)).1 in
            absurd (never w m z y (here ∙ is))
          where
            never : (w m : ℕ) → 0 < m → m < 4 → step ≡ (0 + w) * 4 + m → ⊥
            never w m z y e = omega arith

    -- At any other the walk goes on behind the value that closes it, or the values are refused where that one is.
    abbrev pub AtOther : Type 0
    AtOther =
        ((p : ℕ) → pos + step / 4 ≤ end → ((room : Room) → reach room s ≡ end → ends (value_in room (closing (step % 4)) s (pos + step / 4)) ≡ ok p p)
        → Onward s steps end xs at p (j + 1))
        × ((room : Room) → reach room s ≡ end → is_ok (value_in room (closing (step % 4)) s (pos + step / 4)) ≡ false → is_ok (fields_in room xs s at) ≡ false)

    pub onward_on : (step % 4 ≡ 0 → ⊥) → AtOther
    onward_on k = go (walk 0 o.others)
      where
        go : Walk 0 o.others → AtOther
        go (last w e g bad) =
            let is : get_or steps j 0 ≡ (0 + w) * 4 = (begins_cons steps j ((0 + w) * 4) [] (subst (Begins steps j) e o.stands)).1 in
            absurd (k (four w (here ∙ is)))
          where
            four : (w : ℕ) → step ≡ (0 + w) * 4 → step % 4 ≡ 0
            four w e = omega arith
        go (more w m ys z y e g bad) =
            let b = begins_cons steps j ((0 + w) * 4 + m) (plan_of 0 ys) (subst (Begins steps j) e o.stands) in
            let q : w ≡ step / 4 = quarter w m z y (here ∙ b.1) in
            let r : m ≡ step % 4 = rest w m z y (here ∙ b.1) in
            let same : (room : Room) → value_in room (closing m) s (pos + w) ≡ value_in room (closing (step % 4)) s (pos + step / 4) =
            λ room. ap (λ (n : ℕ). value_in room (closing n) s (pos + w)) r ∙ ap (λ (n : ℕ). value_in room (closing (step % 4)) s (pos + n)) q in (
              λ p h value.
                  record { others = ys; stands = b.2; same = λ room f. o.same room f ∙ g room s pos p (omega arith) (ap ends (same room) ∙ value room f) },
              λ room f value. ok_alike (fields_in room xs s at) (fields_in room o.others s pos) (o.same room f) ∙ bad room s pos (ap is_ok (same room) ∙ value),
            )
          where
            quarter : (w m : ℕ) → 0 < m → m < 4 → step ≡ (0 + w) * 4 + m → w ≡ step / 4
            quarter w m z y e = omega arith

            rest : (w m : ℕ) → 0 < m → m < 4 → step ≡ (0 + w) * 4 + m → m ≡ step % 4
            rest w m z y e = omega arith

-- The rule of octets that close a step: a string's, or none.
module _ (kind : ℕ) (xs : List ℕ) where
  pub string_rule : kind ≡ 3 → holds (rule_at kind) xs ≡ holds rule.Characters xs
  string_rule e = rw (eq-eqb kind 3 e) refl

  pub free_rule : (kind ≡ 3 → ⊥) → holds (rule_at kind) xs ≡ true
  free_rule e = rw (ne_eqb kind 3 e) refl

-- Octets that close a step, by their end in one room of that reach.
pub closes_led : (s : List ℕ) (at end kind : ℕ) (x : Result ℕ Refused) → (kind ≡ 2 → ⊥) → says x ≡ ends (led_in (rule_at kind) (Stated end 0) s at) → Within at x end
    → Closes s at end kind (passed_of x)
closes_led s at end kind (Ok p) k e w =
    (w.0, w.1, λ room h. rw (ne_eqb kind 2 k) (value_ends s at (form.Led (rule_at kind)) (Stated end 0) room (sym h) p (led_ends (Stated end 0) s at (rule_at kind) ∙ sym e)))
closes_led s at end kind (Err r) k e w = λ room h.
    rw (ne_eqb kind 2 k)
    (value_refused s at (form.Led (rule_at kind)) (Stated end 0) room (sym h)
    (sym (ends_ok (value_in (Stated end 0) (form.Led (rule_at kind)) s at)) ∙ (ap is_ok (led_ends (Stated end 0) s at (rule_at kind)) ∙ sym (ap is_ok e))))
