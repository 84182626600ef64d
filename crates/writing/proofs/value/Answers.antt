-- `writing::value` meets its contract: its octets are given where its type has those, else its number. Assumes nothing.
use native.Mathlib.Omega.{arith}
use Prim.Native.Nat.{ℕ}
use mathlib.Core.Path.{◌≡◌, refl, sym, ap, ◌∙◌}
use mathlib.Core.Bool.{true, false}
use mathlib.Core.List.{List}
use Rattle.kinds.specs.declared.Basic.{Basic}
use Rattle.kinds.specs.declared.Form.{Form}
use Rattle.kinds.specs.declared.Form.TheVariants as form
use Rattle.kinds.specs.declared.Value as declared
use Rattle.kinds.specs.Kinds.{form_by}
use Rattle.kinds.specs.Values.{basic_of_value, bits_of_value}
use Rattle.kinds.specs.Forms.{bits, held}
use Rattle.writer.specs.Writer.{value, suits, in_form, value_call}
use Rattle.writer.specs.Answers.{call_leaves}
use Rattle.writing.proofs.value.Goals as goal

of_octets : (f : Form) (n : ℕ) (xs : List ℕ) → suits f (held xs) ≡ true → held xs ≡ in_form f n xs
of_octets (form.Fixed w) n xs e = let z : ◌≡◌ {A = ℕ} 0 1 = cc in absurd (omega arith)
of_octets form.Truth n xs e = let z : ◌≡◌ {A = ℕ} 0 1 = cc in absurd (omega arith)
of_octets (form.Led rule) n xs e = refl

of_number : (f : Form) (n : ℕ) (xs : List ℕ) → suits f (held xs) ≡ false → bits n ≡ in_form f n xs
of_number (form.Fixed w) n xs e = refl
of_number form.Truth n xs e = refl
of_number (form.Led rule) n xs e = let z : ◌≡◌ {A = ℕ} 0 1 = cc in absurd (omega arith)

module _ (v : declared.Value) (xs : List ℕ) (b : Basic) (is : b ≡ basic_of_value v) where
  typed : {n : ℕ} → n ≡ bits_of_value v → value b (in_form (form_by b) n xs) ≡ value_call v xs
  typed m = rw (is, m) refl

  octets_given : suits (form_by b) (held xs) ≡ true → value b (held xs) ≡ value_call v xs
  octets_given e = ap (value b) (of_octets (form_by b) (bits_of_value v) xs e) ∙ typed refl

  number_given : {n : ℕ} → n ≡ bits_of_value v → suits (form_by b) (held xs) ≡ false → value b (bits n) ≡ value_call v xs
  number_given {n} m e = ap (value b) (of_number (form_by b) n xs e) ∙ typed m

pub returns-then-suits_octets : goal.returns-then-suits_octets
returns-then-suits_octets c =
    let a = c.args in
    let xs = a.xs.now in
    c.value_octets.ensures
    ∙ ap (call_leaves a.from.state a.buf.now a.book.now a.from.used)
    (octets_given a.v xs c.basic_of_value-b.result c.basic_of_value-b.ensures (sym (c.suits_octets.ensures xs) ∙ c.if-suits_octets.true))

pub returns-else-suits_octets : goal.returns-else-suits_octets
returns-else-suits_octets c =
    let a = c.args in
    let xs = a.xs.now in
    c.value_number.ensures
    ∙ ap (call_leaves a.from.state a.buf.now a.book.now a.from.used)
    (number_given a.v xs c.basic_of_value-b.result c.basic_of_value-b.ensures c.bits_of_value.ensures (sym (c.suits_octets.ensures xs) ∙ c.if-suits_octets.false))
