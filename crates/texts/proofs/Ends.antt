-- The equations of reading octets behind a length that a function answering places cites, once over the room, and by a rule; and what accepted octets tell.
use Prim.Native.Nat.{ℕ, ◌+◌, ◌-◌, ◌≤◌, ◌<◌}
use mathlib.Core.Path.{◌≡◌, refl, sym, ap, ◌∙◌}
use mathlib.Core.List.{List}
use mathlib.Core.Bool.{true, false}
use native.Mathlib.Omega.{arith}
use lib.Dec.{leb}
use borrow.Author.Tests.{le-leb, lt-leb, leb-true}
use Rattle.octets.specs.Reading.{ok, no, ends, is_ok, be, part, reach, overrun, number_in}
use Rattle.octets.specs.declared.Room.{Room}
use Rattle.octets.specs.declared.Room.TheVariants.{Document, Stated}
use Rattle.std.specs.Prelude.{Result, Ok, Err}
use Rattle.octets.specs.declared.Refused.{Refused}
use Rattle.octets.specs.Answers.{says, Within}
use Rattle.octets.proofs.Inverse.{after, chosen, ok_value, ok_place}
use Rattle.octets.proofs.Fields.{roomy}
use Rattle.octets.proofs.Ends.{number_in_lem, number_over, number_ended, overrun_then, ended, stop, value_is}
use Rattle.texts.specs.Texts.{holds, fault, octets_in, led_in, text}
use Rattle.texts.specs.Answers.{Behind, Stands}
use Rattle.texts.specs.declared.Rule.{Rule}
use Rattle.texts.specs.declared.Rule.TheVariants.{Characters}

-- Octets where they stand: behind their length, and inside their room.
pub record OctetsAt (room : Room) (s : List ℕ) (at : ℕ) (xs : List ℕ) (next : ℕ) : Type 0 where
  pub head : at + 4 ≤ reach room s
  pub inside : next ≤ reach room s
  pub place : next ≡ at + 4 + be 4 s at
  pub is : part s (at + 4) (be 4 s at) ≡ xs

module _ (room : Room) (s : List ℕ) (at : ℕ) where
  pub octets_in_lem : at + 4 ≤ reach room s → at + 4 + be 4 s at ≤ reach room s → octets_in room s at ≡ ok (part s (at + 4) (be 4 s at)) (at + 4 + be 4 s at)
  unfolding octets_in
  octets_in_lem h g = rw (number_in_lem room s at 4 h, le-leb (at + 4 + be 4 s at) (reach room s) g) refl

  pub octets_cut : reach room s < at + 4 → octets_in room s at ≡ overrun room at
  unfolding octets_in
  octets_cut h = rw (number_over room s at 4 h) (overrun_then room at _)

  pub octets_over : at + 4 ≤ reach room s → reach room s < at + 4 + be 4 s at → octets_in room s at ≡ overrun room at
  unfolding octets_in
  octets_over h g = rw (number_in_lem room s at 4 h, lt-leb (at + 4 + be 4 s at) (reach room s) g) refl

  pub octets_stand : {xs : List ℕ} {next : ℕ} → octets_in room s at ≡ ok xs next → OctetsAt room s at xs next
  unfolding octets_in
  octets_stand {xs} {next} e =
      after (number_in room 4 s at) _ e λ n mid e₁ e₂.
      let h = number_ended room s at 4 mid (ap ends e₁) in
      let n_is : be 4 s at ≡ n = ok_value (number_in_lem room s at 4 h.0) e₁ in
      let (t, e₃) = roomy room at (leb (mid + n) (reach room s)) _ e₂ in
      let fits = leb-true (mid + n) (reach room s) t in
      let place : mid + n ≡ next = ok_place refl e₃ in
      record {
        head = h.0;
        inside = omega arith;
        place = omega (arith, h.1);
        is = ap (λ (k : ℕ). part s k (be 4 s at)) (sym h.1) ∙ (ap (part s mid) n_is ∙ ok_value refl e₃);
      }

  -- By a rule: what is accepted is there and holds; what is not there is refused alike; what is there ends where it does, or breaks the rule.
  module _ (rule : Rule) where
    pub led_forth : {xs : List ℕ} {next : ℕ} → led_in rule room s at ≡ ok xs next → (octets_in room s at ≡ ok xs next) × (holds rule xs ≡ true)
    unfolding led_in
    led_forth {xs} {next} e =
        after (octets_in room s at) _ e λ ys mid e₁ e₂.
        let (t, e₃) = chosen (holds rule ys) _ (fault rule) at e₂ in
        (e₁ ∙ e₃, rw (ok_value refl e₃) at t)

    pub led_back : {xs : List ℕ} {next : ℕ} → octets_in room s at ≡ ok xs next → holds rule xs ≡ true → led_in rule room s at ≡ ok xs next
    unfolding led_in
    led_back e t = rw (e, t) refl

    pub led_stop : (n p : ℕ) → ends (octets_in room s at) ≡ no n p → ends (led_in rule room s at) ≡ no n p
    unfolding led_in
    led_stop n p e = stop (octets_in room s at) _ n p e

    -- The octets before an end, and what the rule says of them.
    module _ (next : ℕ) (e : ends (octets_in room s at) ≡ ok next next) where
      abbrev before : List ℕ
      before = part s (at + 4) (next - (at + 4))

      are : octets_in room s at ≡ ok before next
      are =
          let (xs, is) = ended (octets_in room s at) next e in
          let w = octets_stand is in
          let width : next - (at + 4) ≡ be 4 s at = omega (arith, w.place) in
          is ∙ ap (λ (ys : List ℕ). ok ys next) (sym (ap (part s (at + 4)) width ∙ w.is))

      pub led_kept : holds rule before ≡ true → ends (led_in rule room s at) ≡ ok next next
      led_kept t = ap ends (led_back are t)

      pub led_broken : holds rule before ≡ false → ends (led_in rule room s at) ≡ no (fault rule) at
      unfolding led_in
      led_broken t = rw (are, t) refl

-- What a function answers of octets by their rule, from what it was answered of them without.
module _ (rule : Rule) (room : Room) (s : List ℕ) (at : ℕ) where
  abbrev pub Answers : Result ℕ Refused → Type 0
  Answers x = (says x ≡ ends (led_in rule room s at)) × Within at x (reach room s)

  pub answers_none : {x : Result ℕ Refused} (r : Refused) → x ≡ Err r → says x ≡ ends (octets_in room s at) → Answers (Err r)
  answers_none r is e = (sym (led_stop room s at rule r.number r.place (sym e ∙ ap says is)), tt)

  module _ {x : Result ℕ Refused} (next : ℕ) (is : x ≡ Ok next) (e : says x ≡ ends (octets_in room s at)) where
    pub answers_end : Behind at x (reach room s) → holds rule (part s (at + 4) (next - (at + 4))) ≡ true → Answers (Ok next)
    answers_end w t = let (h, g) = rw is at w in (sym (led_kept room s at rule next (sym e ∙ ap says is) t), (omega arith, g))

    pub answers_bad : (n : ℕ) → n ≡ fault rule → holds rule (part s (at + 4) (next - (at + 4))) ≡ false → Answers (Err (record { number = n; place = at }))
    answers_bad n q t = (ap (λ (k : ℕ). no k at) q ∙ sym (led_broken room s at rule next (sym e ∙ ap says is) t), tt)

-- What passes its room's end is no end.
pub overrun_behind : (x : Result ℕ Refused) (room : Room) (at end : ℕ) → says x ≡ overrun room at → Behind at x end
overrun_behind (Err r) room at end e = tt
overrun_behind (Ok q) Document at end e = absurd (let z : ◌≡◌ {A = ℕ} 0 1 = cc in omega arith)
overrun_behind (Ok q) (Stated end' l) at end e = absurd (let z : ◌≡◌ {A = ℕ} 0 1 = cc in omega arith)

-- What a room accepts, each that reaches as far does.
pub led_carries : (rule : Rule) (s : List ℕ) (at : ℕ) (r q : Room) → reach r s ≤ reach q s → {xs : List ℕ} {m : ℕ} → led_in rule r s at ≡ ok xs m → led_in rule q s at ≡ ok xs m
led_carries rule s at r q far e =
    let (is, t) = led_forth r s at rule e in
    let w = octets_stand r s at is in
    let g : at + 4 + be 4 s at ≤ reach r s = omega (arith, w.inside, w.place) in
    led_back q s at rule (octets_in_lem q s at (omega (arith, far, w.head)) (omega (arith, far, g)) ∙ (sym (octets_in_lem r s at w.head g) ∙ is)) t

-- Octets in a document that are accepted by a rule, where they stand.
pub led_stands : (rule : Rule) (s : List ℕ) (at : ℕ) {xs : List ℕ} {next : ℕ} → led_in rule Document s at ≡ ok xs next → OctetsAt Document s at xs next
led_stands rule s at e = octets_stand Document s at (led_forth Document s at rule e).0

pub text_stands : (s : List ℕ) (at : ℕ) {xs : List ℕ} {next : ℕ} → text s at ≡ ok xs next → OctetsAt Document s at xs next
text_stands s at e = led_stands Characters s at e

pub text_there : (s : List ℕ) (at : ℕ) → is_ok (text s at) ≡ true → Stands s at
text_there s at t = let (xs, next, is) = value_is (text s at) t in record { rule = Characters; octets = xs; next = next; reads = is }
