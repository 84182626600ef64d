-- `writing_parts::next_at` meets its contract: there are no more attributes, or attribute n has its type. Assumes nothing.
use native.Mathlib.Omega.{arith}
use Prim.Native.Nat.{ℕ, ◌-◌, ◌<◌}
use mathlib.Core.Path.{◌≡◌, refl, sym, ap}
use mathlib.Core.List.{List, [], ◌∷◌}
use lib.ListN.{length, drop, length-drop}
use Rattle.kinds.specs.declared.Kind.{Kind}
use Rattle.layouts.specs.Layout.{Attribute}
use Rattle.writing_parts.specs.Answers.{first_of}
use Rattle.writing_parts.specs.declared.Next.TheVariants.{Of}
use Rattle.writing_parts.proofs.next_at.Goals as goal

inside : (xs : List Attribute) (n : ℕ) (k : Kind) → n < length xs → ((a : Attribute) (more : List Attribute) → drop n xs ≡ a ∷ more → k ≡ a.kind)
    → Of k.basic ≡ first_of (drop n xs)
inside xs n k h f = go (drop n xs) refl (length-drop n xs)
  where
    go : (ys : List Attribute) → drop n xs ≡ ys → length (drop n xs) ≡ length xs - n → Of k.basic ≡ first_of ys
    go [] e l = let z : 0 ≡ length (drop n xs) = ap length (sym e) in absurd (omega arith)
    go (a ∷ more) e l = ap (λ (x : Kind). Of x.basic) (f a more e)

pub returns : goal.returns
returns c = λ l end e.
    let n = c.attribute_count.ensures l end e in
    inside l.attributes c.args.n c.attribute_kind-kind.result (omega (arith, c.if-attribute_count-n.false)) (λ a more q. c.attribute_kind-kind.ensures l end a more e q)
