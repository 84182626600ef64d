-- `row_fields::row_here` meets its contract: the row over the layout that was looked up, or its refusal. Assumes nothing.
use native.Mathlib.Omega.{arith}
use Prim.Native.Nat.{ℕ}
use mathlib.Core.Path.{◌≡◌, sym, ap, ◌∙◌, subst}
use mathlib.Core.List.{List}
use Rattle.std.proofs.lemmas.Result.{err_from_is_err_and}
use Rattle.octets.proofs.Spans.{each_octet}
use Rattle.layouts.specs.Book.{Book}
use Rattle.layouts.specs.declared.Looked.{Looked}
use Rattle.layouts.specs.Answers.{Looks}
use Rattle.rows.specs.Answers.{row_says}
use Rattle.rows.proofs.RowLaws.{row_unnumbered, row_unknown, row_unshaped, row_taken}
use Rattle.row_fields.proofs.row_here.Goals as goal

-- What was found under the number that stands there.
found : (book : List ℕ) (m n : ℕ) (b : Book) (x y : Looked) → m ≡ n → x ≡ y → Looks book m b x → Looks book n b y
found book m n b x y e q w = subst (λ (k : ℕ). Looks book k b y) e (subst (Looks book m b) q w)

pub returns-then-doc-at : goal.returns-then-doc-at
returns-then-doc-at c = λ b i. let a = c.args in row_unnumbered a.doc.now a.at b c.if-doc-at.true

pub returns-in_default : goal.returns-in_default
returns-in_default c = λ b i.
    let a = c.args in
    let w = found a.book.now _ _ b _ _ c.u32_at.ensures c.in_default.is (c.look_in-looked.ensures b i) in
    row_unknown a.doc.now a.at b (omega arith) w.0

pub returns-in_err-row : goal.returns-in_err-row
returns-in_err-row c =
    let p = err_from_is_err_and c.from_residual.result c.from_residual.ensures.1 in
    rw (p.1, p.2)
    (λ b i.
    let a = c.args in
    let w = found a.book.now _ _ b _ _ c.u32_at.ensures c.in-There.is (c.look_in-looked.ensures b i) in
    row_unshaped a.doc.now a.at b w.layout (omega arith) w.found _ _ (sym (c.row_end.ensures.0 _ w.layout w.next w.reads) ∙ ap row_says c.in_err-row.was))

pub returns : goal.returns
returns c = λ b i.
    let a = c.args in
    let w = found a.book.now _ _ b _ _ c.u32_at.ensures c.in-There.is (c.look_in-looked.ensures b i) in
    let t = row_taken a.doc.now a.at b w.layout (omega arith) w.found _ _ _ (sym (c.row_end.ensures.0 _ w.layout w.next w.reads) ∙ ap row_says c.in_ok-row.was)
    (each_octet a.doc.now c.type_inv.doc) in
    record {
      row = t.row;
      layout = w.layout;
      last = w.next;
      is = t.is;
      stands = w.reads;
      counts = t.counts;
      fields = t.fields;
      later = t.later;
      inside = t.inside;
      short = c.requires.1;
      small = c.requires.2;
    }
