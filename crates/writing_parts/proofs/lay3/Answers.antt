-- `writing_parts::lay3` meets its contract: three runs laid one behind another are one run laid. Assumes nothing.
use borrow.Author.Rules.{rules}
use native.Mathlib.Omega.{arith}
use Prim.Native.Nat.{ℕ, ◌+◌, ◌≤◌}
use mathlib.Core.Path.{◌≡◌, ◌∙◌}
use mathlib.Core.List.{List, ◌++◌}
use lib.ListN.{length}
use Rattle.octets.specs.Writing.{over}
use Rattle.writing_parts.proofs.Over.{over_three, length_three}
use Rattle.writing_parts.proofs.lay3.Goals as goal

three : (s a b c : List ℕ) (at : ℕ) {y₁ y₂ y₃ : List ℕ} {r₁ r₂ r₃ : ℕ} → at + (length a + (length b + length c)) ≤ length s
    → (r₁ ≡ at + length a) × (y₁ ≡ over s at a) → (r₂ ≡ r₁ + length b) × (y₂ ≡ over y₁ r₁ b) → (r₃ ≡ r₂ + length c) × (y₃ ≡ over y₂ r₂ c)
    → (r₃ ≡ at + length (a ++ (b ++ c))) × (y₃ ≡ over s at (a ++ (b ++ c)))
three s a b c at h (p₁, q₁) (p₂, q₂) (p₃, q₃) =
    (omega (arith, length_three a b c), q₃ ∙ rw (q₂, q₁, p₂, p₁) (over_three s a b c at h))

pub returns : goal.returns
returns c =
    let a = c.args in
    three a.buf.now a.head.now a.body.now a.tail.now a.at (search rules) c.lay-a.ensures c.lay-b.ensures c.lay.ensures
