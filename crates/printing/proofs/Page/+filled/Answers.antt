-- `printing::Page::filled` meets its contract: the call of itself puts all digits but the last.
use native.Mathlib.Omega.{arith}
use Prim.Native.Nat.{ℕ, zero, suc, ◌+◌, ◌-◌, ◌/◌, ◌%◌}
use mathlib.Core.Path.{◌≡◌, refl}
use mathlib.Core.List.{[], ◌∷◌, ◌++◌}
use Rattle.printing.specs.Text.{filled}
use Rattle.printing.proofs.Pages.{nothing, then, says}
use Rattle.printing.proofs.Page.+filled.Goals as goal

none : (k v : ℕ) → k ≡ 0 → [] ≡ filled k v
unfolding filled
none k v e = rw e refl

one_more : (k v : ℕ) → (k ≡ 0 → ⊥) → filled (k - 1) (v / 10) ++ (48 + v % 10) ∷ [] ≡ filled k v
unfolding filled
one_more zero v h = absurd (h refl)
one_more (suc k) v h =
    let low : suc k - 1 ≡ k = omega arith in
    rw low refl

pub returns-then-k-eq0 : goal.returns-then-k-eq0
returns-then-k-eq0 t c = let a = c.args in says (none a.k a.v c.if-k-eq0.true) (nothing a.self.now)

pub returns : goal.returns
returns t c = says (one_more c.args.k c.args.v c.if-k-eq0.false) (then c.filled.ensures c.octet.ensures)
