-- A value by its form: what functions answering places cite, that its reading and its image are inverse, and that rooms of one reach accept alike.
use Prim.Native.Nat.{ℕ, ◌+◌, ◌≤◌, ◌<◌}
use mathlib.Core.Path.{◌≡◌, refl, sym, ap, ◌∙◌}
use mathlib.Core.List.{List}
use mathlib.Core.Bool.{Bool, true, false}
use native.Mathlib.Omega.{arith}
use lib.ListN.{length}
use lib.Dec.{leb}
use borrow.Author.Tests.{leb-true, le-leb, lt-leb}
use Rattle.octets.specs.Reading.{ok, no, ends, is_ok, be, reach, overrun, number_in}
use Rattle.octets.specs.Writing.{Each, Octet}
use Rattle.octets.specs.declared.Room.{Room}
use Rattle.octets.proofs.Spans.{Spans, word_octets}
use Rattle.octets.proofs.Inverse.{Inverse, Answer, Any, after, settle, chosen}
use Rattle.octets.proofs.Fields.{number_inverse}
use Rattle.octets.proofs.Ends.{number_in_lem, number_over, overrun_then, overrun_ends, number_carries, made, stop, ended, value_is}
use Rattle.texts.specs.Texts.{led_in}
use Rattle.texts.proofs.Fields.{led_inverse}
use Rattle.texts.proofs.Ends.{led_carries}
use Rattle.texts.specs.declared.Rule.{Rule}
use Rattle.kinds.specs.Forms.{Value, bits, held, value_in, value_image, GoodValue}
use Rattle.kinds.specs.declared.Form.{Form}
use Rattle.kinds.specs.declared.Form.TheVariants.{Fixed, Truth, Led}

module _ (room : Room) (s : List ℕ) (at : ℕ) where
  pub fixed_ends : (w : ℕ) → ends (value_in room (Fixed w) s at) ≡ ends (number_in room w s at)
  unfolding value_in
  fixed_ends w = made (number_in room w s at) _

  pub led_ends : (rule : Rule) → ends (value_in room (Led rule) s at) ≡ ends (led_in rule room s at)
  unfolding value_in
  led_ends rule = made (led_in rule room s at) _

  pub truth_no : (n p : ℕ) → ends (number_in room 1 s at) ≡ no n p → ends (value_in room Truth s at) ≡ no n p
  unfolding value_in
  truth_no n p e = stop (number_in room 1 s at) _ n p e

  pub truth_over : reach room s < at + 1 → ends (value_in room Truth s at) ≡ overrun room at
  unfolding value_in
  truth_over h = rw (number_over room s at 1 h) (ap ends (overrun_then room at _) ∙ overrun_ends Value room at)

  module _ (h : at + 1 ≤ reach room s) where
    pub truth_ok : be 1 s at ≤ 1 → ends (value_in room Truth s at) ≡ ok (at + 1) (at + 1)
    unfolding value_in
    truth_ok g = rw (number_in_lem room s at 1 h, le-leb (be 1 s at) 1 g) refl

    pub truth_bad : 1 < be 1 s at → ends (value_in room Truth s at) ≡ no 14 at
    unfolding value_in
    truth_bad g = rw (number_in_lem room s at 1 h, lt-leb (be 1 s at) 1 g) refl

module _ (s : List ℕ) (room : Room) (fits : reach room s ≤ length s) where
  value_back : (f : Form) (v : Value) {at next : ℕ} → GoodValue f v → Spans s (reach room s) at next (value_image f v)
      → value_in room f s at ≡ ok v next
  unfolding value_in
  value_back (Fixed w) (bits n) g p = rw ((number_inverse s room fits w).back n tt g p)
  value_back (Fixed w) (held xs) g p = absurd g
  value_back Truth (bits n) g p = rw ((number_inverse s room fits 1).back n tt (omega arith) p, le-leb n 1 g)
  value_back Truth (held xs) g p = absurd g
  value_back (Led rule) (bits n) g p = absurd g
  value_back (Led rule) (held xs) g p = rw ((led_inverse rule s room fits).back xs tt g p)

  value_forth : (f : Form) → Each Octet s → {v : Value} {at next : ℕ} → at ≤ reach room s → value_in room f s at ≡ ok v next
      → Answer s (reach room s) (value_image f) Any (GoodValue f) at v next
  unfolding value_in
  value_forth (Fixed w) o {at = at} h e =
      after (number_in room w s at) _ e λ n next e₁ e₂.
      settle (Answer s (reach room s) (value_image (Fixed w)) Any (GoodValue (Fixed w)) at) e₂ ((number_inverse s room fits w).forth o h e₁)
  value_forth Truth o {at = at} h e =
      after (number_in room 1 s at) _ e λ n next e₁ e₂.
      let (t, e₃) = chosen (leb n 1) (λ _. ok (bits n) next) 14 at e₂ in
      settle (Answer s (reach room s) (value_image Truth) Any (GoodValue Truth) at) e₃ (tt, leb-true n 1 t, ((number_inverse s room fits 1).forth o h e₁).2)
  value_forth (Led rule) o {at = at} h e =
      after (led_in rule room s at) _ e λ xs next e₁ e₂.
      settle (Answer s (reach room s) (value_image (Led rule)) Any (GoodValue (Led rule)) at) e₂ ((led_inverse rule s room fits).forth o h e₁)

  value_octets_lem : (f : Form) (v : Value) → GoodValue f v → Each Octet (value_image f v)
  value_octets_lem (Fixed w) (bits n) g = word_octets w n
  value_octets_lem (Fixed w) (held xs) g = absurd g
  value_octets_lem Truth (bits n) g = word_octets 1 n
  value_octets_lem Truth (held xs) g = absurd g
  value_octets_lem (Led rule) (bits n) g = absurd g
  value_octets_lem (Led rule) (held xs) g = (led_inverse rule s room fits).octets xs tt g

  pub value_inverse : (f : Form) → Inverse s (reach room s) (value_in room f s) (value_image f) Any (GoodValue f)
  value_inverse f = record { back = λ v _ g p. value_back f v g p; forth = value_forth f; octets = λ v _ g. value_octets_lem f v g }

-- What a room accepts, each that reaches as far does; one of the same reach refuses what it refuses.
module _ (s : List ℕ) (at : ℕ) where
  pub value_carries : (f : Form) (r q : Room) → reach r s ≤ reach q s → {v : Value} {m : ℕ} → value_in r f s at ≡ ok v m → value_in q f s at ≡ ok v m
  unfolding value_in
  value_carries (Fixed w) r q far e = after (number_in r w s at) _ e λ n next e₁ e₂. rw (number_carries s at r q far w e₁) e₂
  value_carries Truth r q far e = after (number_in r 1 s at) _ e λ n next e₁ e₂. rw (number_carries s at r q far 1 e₁) e₂
  value_carries (Led rule) r q far e = after (led_in rule r s at) _ e λ xs next e₁ e₂. rw (led_carries rule s at r q far e₁) e₂

  module _ (f : Form) (r q : Room) (same : reach r s ≡ reach q s) where
    pub value_ends : (p : ℕ) → ends (value_in r f s at) ≡ ok p p → ends (value_in q f s at) ≡ ok p p
    value_ends p e = let (v, is) = ended (value_in r f s at) p e in ap ends (value_carries f r q (omega (arith, same)) is)

    pub value_refused : is_ok (value_in r f s at) ≡ false → is_ok (value_in q f s at) ≡ false
    value_refused e = go (is_ok (value_in q f s at)) refl
      where
        go : (b : Bool) → is_ok (value_in q f s at) ≡ b → is_ok (value_in q f s at) ≡ false
        go false t = t
        go true t =
            let (v, m, is) = value_is (value_in q f s at) t in
            let w : true ≡ false = sym (ap is_ok (value_carries f q r (omega (arith, same)) is)) ∙ e in
            absurd (let z : ◌≡◌ {A = ℕ} 0 1 = cc in omega arith)
