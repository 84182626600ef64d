-- `layouts::judge_by` meets its contract: the part of the document is the layout's image. Assumes nothing.
use native.Mathlib.Omega.{arith}
use Prim.Native.Nat.{ℕ}
use Rattle.std.specs.Prelude.{Result}
use mathlib.Core.Path.{◌≡◌, ◌∙◌, sym, ap, subst}
use mathlib.Core.List.{List, [], ◌++◌, append-nil}
use lib.ListN.{length}
use Rattle.octets.proofs.Spans.{each_octet}
use Rattle.layouts.specs.Layout.{Layout, layout_image}
use Rattle.layouts.specs.Book.{Book, book_image, learning}
use Rattle.layouts.specs.Answers.{Judges}
use Rattle.layouts.specs.declared.Learning.{Learning}
use Rattle.octets.specs.declared.Fault.{Fault}
use Rattle.layouts.proofs.Lends.{layout_part}
use Rattle.layouts.proofs.Judging.{judges}
use Rattle.layouts.proofs.judge_by.Goals as goal

judged : (book : Book) (l : Layout) (at used : ℕ) (r : Result Learning Fault) (xs : List ℕ) → xs ≡ layout_image l → length (book_image book) ≡ used
    → r ≡ learning book used l.number (xs ++ []) → Judges used book l at r
judged book l at used r xs is size e =
    subst (λ (u : ℕ). r ≡ learning book u l.number (xs ++ []) → Judges u book l at r) size
    (λ f. subst (Judges (length (book_image book)) book l at)
    (sym (f ∙ ap (learning book (length (book_image book)) l.number) (append-nil xs ∙ is))) (judges book l at)) e

pub returns : goal.returns
returns c = λ book l e w size.
    let a = c.args in
    let p = c.requires in
    let doc = a.doc.now in
    judged book l a.at a.used c.judge_runs.result _
    (layout_part doc a.at a.end l (each_octet doc c.type_inv.doc) (omega (arith, p.0, p.1)) e).3 size
    (c.judge_runs.ensures book l.number w)
