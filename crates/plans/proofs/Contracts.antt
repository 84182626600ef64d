-- The contracts of plans themselves that settle the answer: where a plan stands, a row's values end at one place or are refused; and a step as it is. Assumes nothing.
use Prim.Native.Nat.{ℕ}
use mathlib.Core.Path.{◌≡◌, refl, sym, ap, ◌∙◌}
use mathlib.Core.List.{List}
use mathlib.Core.Bool.{true, false}
use native.Mathlib.Omega.{arith}
use Rattle.std.specs.Prelude.{Option, Some, None}
use Rattle.octets.specs.Reading.{Read, ok, ends, is_ok, be}
use Rattle.octets.specs.OfContracts.{Once}
use Rattle.octets.proofs.Ends.{ends_ok}
use Rattle.octets.proofs.Inverse.{ok_place}
use Rattle.rows.specs.Row.{Field, values_at}
use Rattle.plans.specs.Plan.{Plan}
use Rattle.plans.specs.Answers.{Lasts}
use Rattle.plans.proofs.values_to as values_to

pub record Contracts : Type 0 where
  pub of_values_to : Once values_to.Kinds.ps values_to.Kinds.r values_to.Reads.Pre values_to.Reads.Post

-- Values that end are not refused.
apart : (r : Read (List Field)) (p : ℕ) → ends r ≡ ok p p → is_ok r ≡ false → ⊥
apart r p e f = let both : true ≡ false = ap is_ok (sym e) ∙ (ends_ok r ∙ f) in let z : ◌≡◌ {A = ℕ} 0 1 = cc in omega arith

lasts_once : (s : List ℕ) (at : ℕ) (steps : List ℕ) (from : ℕ) → Plan steps from → (x y : Option ℕ) → Lasts s at steps from x → Lasts s at steps from y → x ≡ y
lasts_once s at steps from p (Some a) (Some b) e f = ap (λ (n : ℕ). Some n) (sym (ok_place (f p.attributes p.stands) (e p.attributes p.stands)))
lasts_once s at steps from p (Some a) None e f = absurd (apart (values_at p.attributes s at (be 4 s at)) a (e p.attributes p.stands) (f p.attributes p.stands))
lasts_once s at steps from p None (Some b) e f = absurd (apart (values_at p.attributes s at (be 4 s at)) b (f p.attributes p.stands) (e p.attributes p.stands))
lasts_once s at steps from p None None e f = refl

pub contracts : Contracts
contracts =
    record {
      of_values_to = λ κs a p x y u v e f. (lasts_once _ _ _ _ p.2 x y e f, refl);
    }
