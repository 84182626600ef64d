-- `writing::value_octets` meets its contract: the length and the octets are its image. Assumes nothing.
use native.Mathlib.Omega.{arith}
use Prim.Native.Nat.{ℕ}
use mathlib.Core.Path.{◌≡◌, refl, sym, ◌∙◌}
use mathlib.Core.Bool.{true}
use mathlib.Core.List.{List, ◌++◌}
use lib.ListN.{length}
use Rattle.octets.specs.Writing.{word}
use Rattle.texts.specs.Texts.{led_image}
use Rattle.kinds.specs.declared.Form.{Form}
use Rattle.kinds.specs.declared.Form.TheVariants as form
use Rattle.kinds.specs.Kinds.{form_by}
use Rattle.kinds.specs.Forms.{held, value_image}
use Rattle.writer.specs.Writer.{suits}
use Rattle.writing.proofs.value_octets.Goals as goal

image : (f : Form) (xs : List ℕ) {h : List ℕ} → suits f (held xs) ≡ true → h ≡ word 4 (length xs) → h ++ xs ≡ value_image f (held xs)
unfolding led_image
image (form.Fixed w) xs e h = let z : ◌≡◌ {A = ℕ} 0 1 = cc in absurd (omega arith)
image form.Truth xs e h = let z : ◌≡◌ {A = ℕ} 0 1 = cc in absurd (omega arith)
image (form.Led rule) xs e h = rw h refl

pub returns : goal.returns
returns c =
    let a = c.args in
    let xs = a.xs.now in
    let is = c.suits_octets-fits.ensures xs in
    c.give_value.ensures (held xs) is c.value_breach-breach.ensures (λ q. image (form_by a.b) xs (sym is ∙ q) c.word4-head.ensures)
