-- Values and the closing of a row: their own faults by what the book was asked, and the octets of a number. Assumes nothing.
use mathlib.Core.Path.{◌≡◌, refl, ap}
use mathlib.Core.List.{List, [], ◌∷◌}
use mathlib.Core.Bool.{Bool, true, false, ◌&&◌}
use mathlib.Core.Option.{Option, some, none}
use Prim.Native.Nat.{ℕ, ◌-◌}
use native.Mathlib.Omega.{arith}
use lib.ListN.{length, drop, length-drop}
use lib.Dec.{leb, eqb}
use borrow.Author.Tests.{le-leb, lt-leb}
use Rattle.octets.specs.Writing.{word}
use Rattle.texts.specs.Texts as texts
use Rattle.texts.specs.declared.Rule.{Rule}
use Rattle.kinds.specs.declared.Basic.{Basic}
use Rattle.kinds.specs.declared.Form.{Form}
use Rattle.kinds.specs.declared.Form.TheVariants as form
use Rattle.kinds.specs.Kinds.{code_of, form_by}
use Rattle.layouts.specs.Layout.{Attribute, Layout}
use Rattle.kinds.specs.Forms.{Value, bits, value_image}
use Rattle.writing_parts.specs.Faults.{Refused, fine, unless, ◌or◌}
use Rattle.writing_parts.proofs.Faults.{holds}
use Rattle.writing_parts.specs.Answers.{first_of, next_of}
use Rattle.writing_parts.specs.declared.Next.{Next}
use Rattle.writing_parts.specs.declared.Next.TheVariants as next
use Rattle.writer.specs.Writer.{in_book, suits, breach, value_breach, is_next}
use Rattle.writer.specs.Own.{width_of, value_fault, close_fault}

-- A value's own fault, by the next field.
pub value_own : (o : Option Layout) (n : ℕ) (b : Basic) (v : Value)
    → (value_fault (next_of o n) b (suits (form_by b) v) or value_breach (form_by b) v) ≡ in_book o (λ l. unless (is_next (drop n l.attributes) b v) 21 or value_breach (form_by b) v)
value_own none n b v = refl
value_own (some l) n b v = go (drop n l.attributes)
  where
    go : (xs : List Attribute) → (value_fault (first_of xs) b (suits (form_by b) v) or value_breach (form_by b) v) ≡ (unless (is_next xs b v) 21 or value_breach (form_by b) v)
    go [] = refl
    go (a ∷ rest) = refl

-- A value that does not suit its own type is always refused.
pub unfit : (x : Next) (b : Basic) → (n : ℕ) × (value_fault x b false ≡ Refused n)
unfit next.Unknown b = (12, refl)
unfit next.Missing b = (21, refl)
unfit (next.Of a) b = (21, go (eqb (code_of a) (code_of b)))
  where
    go : (t : Bool) → unless (t && false) 21 ≡ Refused 21
    go true = refl
    go false = refl

-- The own fault of closing a row, by the next field.
pub close_own : (o : Option Layout) (n : ℕ) → close_fault (next_of o n) ≡ in_book o (λ l. unless (leb (length l.attributes) n) 22)
close_own none n = refl
close_own (some l) n = go (drop n l.attributes) (length-drop n l.attributes)
  where
    go : (xs : List Attribute) → length xs ≡ length l.attributes - n → close_fault (first_of xs) ≡ unless (leb (length l.attributes) n) 22
    go [] e = rw (le-leb (length l.attributes) n (omega arith)) refl
    go (a ∷ rest) e = rw (lt-leb (length l.attributes) n (omega arith)) refl

-- Octets that are what their rule asks have no fault, and those without it are.
module _ (rule : Rule) (xs : List ℕ) where
  pub unbroken : texts.holds rule xs ≡ true → breach rule xs ≡ fine
  unbroken e = ap (λ (t : Bool). unless t (texts.fault rule)) e

  pub obeyed : breach rule xs ≡ fine → texts.holds rule xs ≡ true
  obeyed e = holds (texts.holds rule xs) (texts.fault rule) e

-- A number breaks no rule.
pub number_free : (f : Form) (n : ℕ) → fine ≡ value_breach f (bits n)
number_free (form.Fixed w) n = refl
number_free form.Truth n = refl
number_free (form.Led rule) n = refl

pub number_image : (f : Form) (n : ℕ) → word (width_of f) n ≡ value_image f (bits n)
unfolding word
number_image (form.Fixed w) n = refl
number_image form.Truth n = refl
number_image (form.Led rule) n = refl
