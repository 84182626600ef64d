-- The values behind a row's length, passed by a plan or refused: unstated, or by the length that is stated.
use Prim.Native.Nat.{ℕ, ◌+◌, ◌≤◌, ◌<◌}
use mathlib.Core.Path.{◌≡◌, refl, sym, ap, ◌∙◌, subst}
use mathlib.Core.List.{List}
use mathlib.Core.Bool.{false}
use lib.ListN.{length}
use Rattle.std.specs.Prelude.{Option, Some, None}
use Rattle.octets.specs.Reading.{ok, ends, is_ok, be}
use Rattle.octets.specs.declared.Room.TheVariants.{Document, Stated}
use Rattle.octets.proofs.Ends.{ends_ok, first_no}
use Rattle.layouts.specs.Layout.{Attribute}
use Rattle.rows.specs.Row.{fields_in, filled, values_at}
use Rattle.rows.proofs.Lengths.{values_open, values_past, values_stated, filled_ok, filled_short}
use Rattle.plans.specs.Plan.{plan_of, Begins}
use Rattle.plans.specs.Answers.{Follows, Lasts}

module _ (s : List ℕ) (at : ℕ) (steps : List ℕ) (from : ℕ) where
  pub lasts_open : be 4 s at ≡ 0xffffffff → (x : Option ℕ) → Follows s (at + 4) (length s) steps from x → Lasts s at steps from x
  lasts_open e (Some p) f = λ xs b. ap ends (values_open xs s at (be 4 s at) e) ∙ f.2 xs b Document refl
  lasts_open e None f = λ xs b. ap is_ok (values_open xs s at (be 4 s at) e) ∙ f xs b Document refl

  pub lasts_stated : (size p : ℕ) → size ≡ be 4 s at → (size ≡ 0xffffffff → ⊥) → at + 4 + size ≤ length s → Follows s (at + 4) (at + 4 + size) steps from (Some p) → p ≡ at + 4 + size
      → Lasts s at steps from (Some p)
  lasts_stated size p is other inside f e = λ xs b.
      subst (λ (n : ℕ). ends (values_at xs s at n) ≡ ok p p) is
      (ap ends (values_stated xs s at size other inside) ∙ filled_ok xs s at (at + 4 + size) p (f.2 xs b (Stated (at + 4 + size) at) refl) e)

  -- A stated length that passes the document's end, values that are refused, and values that end elsewhere.
  module _ (size : ℕ) (is : size ≡ be 4 s at) (other : size ≡ 0xffffffff → ⊥) where
    stated_no : ((xs : List Attribute) → Begins steps from (plan_of 0 xs) → is_ok (values_at xs s at size) ≡ false) → Lasts s at steps from None
    stated_no f = λ xs b. subst (λ (n : ℕ). is_ok (values_at xs s at n) ≡ false) is (f xs b)

    pub lasts_past : length s < at + 4 + size → Lasts s at steps from None
    lasts_past h = stated_no λ xs b. ap is_ok (values_past xs s at size other h)

    module _ (inside : at + 4 + size ≤ length s) where
      pub lasts_no : Follows s (at + 4) (at + 4 + size) steps from None → Lasts s at steps from None
      lasts_no f =
          stated_no λ xs b.
          ap is_ok (values_stated xs s at size other inside)
          ∙ first_no (fields_in (Stated (at + 4 + size) at) xs s (at + 4)) _ (f xs b (Stated (at + 4 + size) at) refl)

      pub lasts_short : (p : ℕ) → Follows s (at + 4) (at + 4 + size) steps from (Some p) → (p ≡ at + 4 + size → ⊥) → Lasts s at steps from None
      lasts_short p f e =
          stated_no λ xs b.
          ap is_ok (values_stated xs s at size other inside)
          ∙ (sym (ends_ok (filled xs s at (at + 4 + size))) ∙ ap is_ok (filled_short xs s at (at + 4 + size) p (f.2 xs b (Stated (at + 4 + size) at) refl) e))
