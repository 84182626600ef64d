-- `kinds::kind_at` meets its contract: the type is what its number stands for. Assumes nothing.
use borrow.Author.Rules.{rules}
use mathlib.Core.Path.{◌≡◌, refl, sym, ap, ◌∙◌}
use Prim.Native.Nat.{ℕ, ◌+◌, ◌≤◌}
use lib.ListN.{length}
use Rattle.std.specs.Prelude.{Result, Ok, Err}
use Rattle.octets.specs.declared.Fault.{Fault}
use Rattle.octets.proofs.Passed.{placed, placed_is}
use Rattle.kinds.specs.Kinds.{kind_of}
use Rattle.kinds.specs.Answers.{kinds, kind_says, Fitting}
use Rattle.kinds.specs.declared.Kind.{Kind}
use Rattle.kinds.proofs.Table.{kind_no, kind_ok}
use Rattle.kinds.proofs.kind_at.Goals as goal

pub returns-then-s-at : goal.returns-then-s-at
returns-then-s-at c = let a = c.args in (sym (kind_no a.s.now a.at c.if-s-at.true), tt)

-- What the number stands for, at its place.
said : (at end : ℕ) (x : Result Kind Fault) → at + 4 ≤ end → (kind_says at (placed at x) ≡ kinds at (at + 4) x) × Fitting at (placed at x) end
said at end (Ok k) h = (refl, h)
said at end (Err f) h = (refl, tt)

pub returns : goal.returns
returns c =
    let a = c.args in
    let t = c.u32_at.result in
    let (is, fits) = said a.at (length a.s.now) c.kind_of.result c.if-s-at.false in
    rw (placed_is a.at _ (λ f q p. search rules) c.kind_of.result c.map_err.result c.map_err.ensures.cases)
    (is ∙ (c.kind_of.ensures a.at (a.at + 4) ∙ (ap (λ (n : ℕ). kind_of a.at n (a.at + 4)) c.u32_at.ensures ∙ sym (kind_ok a.s.now a.at c.if-s-at.false))), fits)
