-- The contracts of elements themselves: each allows one answer and one content of the book. Assumes nothing.
use Prim.Native.Nat.{ℕ, ◌≤◌, ◌<◌}
use mathlib.Core.Path.{◌≡◌, refl, sym, ap, ◌∙◌}
use Rattle.std.specs.Prelude.{Result, Ok, Err}
use mathlib.Core.Bool.{Bool, true, false}
use lib.Dec.{leb}
use borrow.Author.Tests.{leb-true, leb-false}
use native.Mathlib.Omega.{arith}
use Rattle.octets.specs.OfContracts.{Once, Settled}
use Rattle.octets.proofs.Alike.{◌also◌}
use Rattle.octets.specs.declared.Fault.{Fault}
use Rattle.elements.specs.Kinds.{number_of_kind, OfNumber}
use Rattle.elements.specs.declared.ElementKind.{ElementKind}
use Rattle.elements.specs.declared.ElementKind.TheVariants as kind
use Rattle.elements.proofs.U32FromElementKind.from as from_kind
use Rattle.elements.proofs.ElementKindTryFromU32.try_from as try_from
use Rattle.elements.proofs.lent_refusal as lent_refusal
use Rattle.elements.proofs.number_behind as number_behind
use Rattle.elements.proofs.grow as grow
use Rattle.elements.proofs.element as element

pub record Contracts : Type 0 where
  pub of_from_kind : Once from_kind.Kinds.ps from_kind.Kinds.r from_kind.Reads.Pre from_kind.Reads.Post
  pub of_try_from : Once try_from.Kinds.ps try_from.Kinds.r try_from.Reads.Pre try_from.Reads.Post
  pub of_lent_refusal : Settled lent_refusal.Kinds.ps lent_refusal.Kinds.r lent_refusal.Reads.Pre lent_refusal.Reads.Post
  pub of_number_behind : Once number_behind.Kinds.ps number_behind.Kinds.r number_behind.Reads.Pre number_behind.Reads.Post
  pub of_grow : Once grow.Kinds.ps grow.Kinds.r grow.Reads.Pre grow.Reads.Post
  pub of_element : Once element.Kinds.ps element.Kinds.r element.Reads.Pre element.Reads.Post

-- No two kinds have one number, so a number is of one kind or of none.
kind_once : (k l : ElementKind) → number_of_kind k ≡ number_of_kind l → k ≡ l
kind_once kind.Layout kind.Layout e = refl
kind_once kind.Layout kind.Row e = absurd (omega (arith, e))
kind_once kind.Layout kind.End e = absurd (omega (arith, e))
kind_once kind.Row kind.Layout e = absurd (omega (arith, e))
kind_once kind.Row kind.Row e = refl
kind_once kind.Row kind.End e = absurd (omega (arith, e))
kind_once kind.End kind.Layout e = absurd (omega (arith, e))
kind_once kind.End kind.Row e = absurd (omega (arith, e))
kind_once kind.End kind.End e = refl

of_number_once : (n : ℕ) (x y : Result ElementKind Fault) → OfNumber n x → OfNumber n y → x ≡ y
of_number_once n (Ok k) (Ok l) e f = ap Ok (kind_once k l (e ∙ sym f))
of_number_once n (Ok k) (Err g) e f = absurd (f.1 k e)
of_number_once n (Err f) (Ok k) e g = absurd (e.1 k g)
of_number_once n (Err f) (Err g) e h = ap Err (e.0 ∙ sym h.0)

-- A number that is said for both sides of a bound.
told_once : (a b n : ℕ) (x y : ℕ) → (a ≤ b → x ≡ n) × (b < a → x ≡ 0) → (a ≤ b → y ≡ n) × (b < a → y ≡ 0) → x ≡ y
told_once a b n x y e f = go (leb a b) refl
  where
    go : (t : Bool) → leb a b ≡ t → x ≡ y
    go true h = e.0 (leb-true a b h) ∙ sym (f.0 (leb-true a b h))
    go false h = e.1 (leb-false a b h) ∙ sym (f.1 (leb-false a b h))

pub contracts : Contracts
contracts =
    record {
      of_from_kind = λ κs a p x y u v e f. (e ∙ sym f, refl);
      of_try_from = λ κs a p x y u v e f. (of_number_once _ x y e f, refl);
      of_lent_refusal = (λ κs a. tt, λ κs a p x y u v e f. (e ∙ sym f, refl));
      of_number_behind = λ κs a p x y u v e f. (told_once _ _ _ x y e f, refl);
      of_grow = λ κs a p x y u v e f. (refl, refl also refl also refl also (let g = p.2 in e g.rows g.stepped g.reads ∙ sym (f g.rows g.stepped g.reads)) also refl);
      of_element = λ κs a p x y u v e f. (e.0 ∙ sym f.0, refl also refl also refl also (e.1 ∙ sym f.1) also refl);
    }
