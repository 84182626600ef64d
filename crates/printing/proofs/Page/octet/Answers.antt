-- `printing::Page::octet` meets its contract. Assumes nothing.
use native.Mathlib.Omega.{arith}
use Prim.Native.Nat.{ℕ, ◌≤◌, ◌<◌}
use mathlib.Core.Path.{◌≡◌, refl, sym, subst}
use mathlib.Core.List.{[], ◌∷◌}
use lib.ListN.{length, set}
use denote.MutBor.{at_last}
use Rattle.printing.specs.Pages.{Shows}
use Rattle.printing.specs.declared.Page.{Page}
use Rattle.printing.proofs.Puts.{inside, anew, away}
use Rattle.printing.proofs.Page.octet.Goals as goal

-- A full buffer was written out: without one the octet goes too, else it is the first.
module _ (p q : Page) (x : ℕ) (clear : q ≡ record p { n = 0 }) (full : length p.out.now ≤ p.n) where
  without : length q.out.now ≡ 0 → Shows p (x ∷ []) q
  without none =
      subst (λ (z : Page). length z.out.now ≡ 0 → Shows p (x ∷ []) z) (sym clear)
      (λ none. record { prints = away p.out.now p.n x none; same = refl }) none

  first : 0 < length q.out.now → Shows p (x ∷ []) (record { out = at_last q.out (set q.out.now 0 x); n = 1 })
  first some =
      subst (λ (z : Page). 0 < length z.out.now → Shows p (x ∷ []) (record { out = at_last z.out (set z.out.now 0 x); n = 1 })) (sym clear)
      (λ some. record { prints = anew p.out.now p.n x full some; same = refl }) some

pub returns-then-self : goal.returns-then-self
returns-then-self c =
    let p = c.args.self.now in
    record { prints = inside p.out.now p.n c.args.x c.if-self.true; same = refl }

pub returns-then-self-eq0 : goal.returns-then-self-eq0
returns-then-self-eq0 c = without c.args.self.now c.flush.new.self c.args.x c.flush.ensures (omega arith) (omega arith)

pub returns : goal.returns
returns c = first c.args.self.now c.flush.new.self c.args.x c.flush.ensures (omega arith) (omega arith)
