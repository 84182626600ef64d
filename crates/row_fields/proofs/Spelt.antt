-- What a value that stands at a place is: a number by the octets of its width, or octets behind a length.
use Prim.Native.Nat.{ℕ, ◌+◌, ◌≤◌}
use mathlib.Core.Path.{◌≡◌, refl, sym, ap, ◌∙◌, subst}
use mathlib.Core.List.{List, []}
use mathlib.Core.Bool.{true, false}
use native.Mathlib.Omega.{arith}
use lib.ListN.{length}
use lib.Dec.{leb}
use borrow.Author.Tests.{leb-true}
use Rattle.octets.specs.Reading.{ok, be, number_in}
use Rattle.octets.specs.declared.Room.TheVariants.{Document, Stated}
use Rattle.octets.proofs.Inverse.{after, chosen, ok_value, ok_place}
use Rattle.texts.specs.Texts.{led_in}
use Rattle.texts.specs.declared.Rule.{Rule}
use Rattle.texts.proofs.Ends.{led_carries}
use Rattle.kinds.specs.declared.Basic.{Basic}
use Rattle.kinds.specs.declared.Form.{Form}
use Rattle.kinds.specs.declared.Form.TheVariants as form
use Rattle.kinds.specs.Kinds.{form_by}
use Rattle.kinds.specs.Forms.{Value, bits, value_in}
use Rattle.kinds.specs.Values.{numeral, bits_of, octets_of, value_of}
use Rattle.row_fields.specs.Places.{Stood, is_held}

module _ (s : List ℕ) (end at : ℕ) where
  number_stood : (w : ℕ) {n next : ℕ} → number_in (Stated end 0) w s at ≡ ok n next → (at + w ≤ end) × (n ≡ be w s at) × (next ≡ at + w)
  unfolding number_in
  number_stood w e =
      let (t, f) = chosen (leb (at + w) end) (λ _. ok (be w s at) (at + w)) 13 0 e in
      (leb-true (at + w) end t, sym (ok_value refl f), sym (ok_place refl f))

  fixed_stood : (w : ℕ) {v : Value} {next : ℕ} → value_in (Stated end 0) (form.Fixed w) s at ≡ ok v next → (at + w ≤ end) × (bits_of v ≡ be w s at)
  unfolding value_in
  fixed_stood w e =
      after (number_in (Stated end 0) w s at) _ e λ n mid e₁ e₂.
      let (h, is, p) = number_stood w e₁ in
      (h, sym (ap bits_of (ok_value refl e₂)) ∙ is)

  truth_stood : {v : Value} {next : ℕ} → value_in (Stated end 0) form.Truth s at ≡ ok v next → (at + 1 ≤ end) × (bits_of v ≡ be 1 s at)
  unfolding value_in
  truth_stood e =
      after (number_in (Stated end 0) 1 s at) _ e λ n mid e₁ e₂.
      let (h, is, p) = number_stood 1 e₁ in
      let (t, f) = chosen (leb n 1) (λ _. ok (bits n) mid) 14 at e₂ in
      (h, sym (ap bits_of (ok_value refl f)) ∙ is)

  -- Octets are read by their rule in the document, and a number holds none.
  pub held_stood : (f : Form) (inside : end ≤ length s) {v : Value} {next : ℕ} → is_held f ≡ true → value_in (Stated end 0) f s at ≡ ok v next
      → (rule : Rule) × (led_in rule Document s at ≡ ok (octets_of v) next)
  unfolding value_in
  held_stood (form.Fixed w) inside t e = absurd (let z : ◌≡◌ {A = ℕ} 0 1 = cc in omega arith)
  held_stood form.Truth inside t e = absurd (let z : ◌≡◌ {A = ℕ} 0 1 = cc in omega arith)
  held_stood (form.Led rule) inside {next = next} t e =
      after (led_in rule (Stated end 0) s at) _ e λ xs mid e₁ e₂.
      (rule, led_carries rule s at (Stated end 0) Document inside e₁ ∙ (ap (ok xs) (ok_place refl e₂) ∙ ap (λ (x : Value). ok (octets_of x) next) (ok_value refl e₂)))

  pub number_held : (f : Form) {v : Value} {next : ℕ} → is_held f ≡ false → value_in (Stated end 0) f s at ≡ ok v next → octets_of v ≡ []
  unfolding value_in
  number_held (form.Fixed w) t e =
      after (number_in (Stated end 0) w s at) _ e λ n mid e₁ e₂.
      sym (ap octets_of (ok_value refl e₂))
  number_held form.Truth t e =
      after (number_in (Stated end 0) 1 s at) _ e λ n mid e₁ e₂.
      let (t₁, f) = chosen (leb n 1) (λ _. ok (bits n) mid) 14 at e₂ in
      sym (ap octets_of (ok_value refl f))
  number_held (form.Led rule) t e = absurd (let z : ◌≡◌ {A = ℕ} 0 1 = cc in omega arith)

-- The width of a number.
abbrev pub Wide : Form → ℕ → Type 0
Wide (form.Fixed v) w = v ≡ w
Wide form.Truth w = 1 ≡ w
Wide (form.Led rule) w = ⊥

-- A number of w octets stands within the document, and by its octets its value is said.
module _ (s : List ℕ) (b c : Basic) (at w : ℕ) (told : b ≡ c) (wide : Wide (form_by c) w) (v : Stood s b at) where
  by_form : (f : Form) → Wide f w → value_in (Stated v.end 0) f s at ≡ ok v.value v.next → (at + w ≤ v.end) × (bits_of v.value ≡ be w s at)
  by_form (form.Fixed u) e r = subst (λ (x : ℕ). (at + x ≤ v.end) × (bits_of v.value ≡ be x s at)) e (fixed_stood s v.end at u r)
  by_form form.Truth e r = subst (λ (x : ℕ). (at + x ≤ v.end) × (bits_of v.value ≡ be x s at)) e (truth_stood s v.end at r)
  by_form (form.Led rule) e r = absurd e

  spelt : (at + w ≤ v.end) × (bits_of v.value ≡ be w s at)
  spelt = by_form (form_by b) (subst (λ (x : Basic). Wide (form_by x) w) (sym told) wide) v.reads

  pub stood_room : at + w ≤ length s
  stood_room = omega (arith, spelt.0, v.inside)

  pub stood_says : (n : ℕ) → n ≡ be w s at → numeral c n ≡ value_of b v.value
  stood_says n e = ap (numeral c) (e ∙ sym spelt.1) ∙ ap (λ (x : Basic). numeral x (bits_of v.value)) (sym told)
