-- Words of a line: those that are printed as they are, and fields one after another.
use mathlib.Core.Path.{◌≡◌, refl, ap, ◌∙◌}
use mathlib.Core.List.{List, [], ◌∷◌, ◌++◌}
use Prim.Native.Nat.{ℕ, suc, ◌+◌, ◌<◌}
use native.Mathlib.Omega.{arith}
use lib.ListN.{length, take, drop, get_or}
use lib.Seq.{drop-cons}
use Rattle.octets.specs.Reading.{Read, ok}
use Rattle.octets.specs.Writing.{images}
use Rattle.layouts.specs.Layout.{Layout}
use Rattle.rows.specs.Row.{Field}
use Rattle.elements.specs.Element.{Element, item, layout}
use Rattle.octets.specs.Asked.{part_of}
use Rattle.kinds.specs.Values.{value_of, octets_of}
use Rattle.questions.specs.Answers.{field_tells}
use Rattle.questions.specs.declared.TypedValue.{TypedValue}
use Rattle.std.specs.Prelude.{Ok}
use Rattle.printing.specs.Text.{spelt, showing}
use Rattle.printing.specs.Pages.{Shows}
use Rattle.printing.specs.declared.Page.{Page}
use Rattle.printing.specs.declared.Show.TheVariants.{Plain}
use Rattle.printing.proofs.Puts.{plain, images_more}
use Rattle.printing.proofs.Pages.{says}
use Rattle.lines.specs.Lines.{word_text, field_text, layout_text, element_text}

module _ {before after : Page} where
  pub word : (w : List ℕ) → Shows before (showing Plain w) after → Shows before w after
  word w p = says (plain w) p

  pub word_then : (w rest : List ℕ) → Shows before (showing Plain w ++ rest) after → Shows before (w ++ rest) after
  word_then w rest p = says (ap (λ (x : List ℕ). x ++ rest) (plain w)) p

-- What is printed of a field that was asked for is its text.
pub asked_text : (read : Read Field) (f : Field) (next : ℕ) (t : TypedValue) (xs : List ℕ) → read ≡ ok f next → Ok t ≡ field_tells read
    → xs ≡ part_of (λ (g : Field). octets_of g.value) read → spelt " " ++ word_text t.value xs ≡ field_text f
asked_text read f next t xs e told is =
    let both : Ok t ≡ field_tells (ok f next) = told ∙ ap field_tells e in
    let same : t ≡ record { kind = f.attribute.kind; value = value_of f.attribute.kind.basic f.value } = cc in
    rw (is, e, ap (λ (x : TypedValue). x.value) same) refl

-- The line of what was told of a layout is that of the layout.
pub layout_line : (at number : ℕ) (name : List ℕ) (count : ℕ) (l : Layout) (e : Element) → e ≡ item (layout l) → number ≡ l.number → name ≡ l.type_name
    → count ≡ length l.attributes → layout_text at number name count ≡ element_text at e
layout_line at number name count l e here p q r = rw (here, p, q, r) refl

-- One item more of a list of which each is shown.
pub one_more : {A : Type 0} (f : A → List ℕ) (xs : List A) (i : ℕ) → i < length xs
    → (x : A) × (rest : List A) × (drop i xs ≡ x ∷ rest) × (images f (take (i + 1) xs) ≡ images f (take i xs) ++ f x)
one_more f [] i h = absurd (omega arith)
one_more f (d ∷ xs) i h = (get_or (d ∷ xs) i d, drop (suc i) (d ∷ xs), drop-cons (d ∷ xs) i d h, images_more f (d ∷ xs) i d h)
