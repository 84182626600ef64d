-- `lines::row_line` meets its contract. The invariant: the fields passed are printed. Assumes nothing.
use native.Mathlib.Omega.{arith}
use mathlib.Core.Path.{◌≡◌, sym, ap, ◌∙◌}
use Prim.Native.Nat.{ℕ}
use lib.ListN.{length, take}
use lib.Seq.{take-length}
use Rattle.octets.specs.Writing.{images}
use Rattle.octets.proofs.Asked.{nth_some}
use Rattle.questions.proofs.Questions.{field_asked_lem}
use Rattle.printing.specs.Text.{spelt}
use Rattle.printing.proofs.Puts.{images_none}
use Rattle.printing.proofs.Pages.{then, says, nothing}
use Rattle.lines.specs.Lines.{numbered, field_text}
use Rattle.lines.proofs.Words.{one_more}
use Rattle.lines.proofs.row_line.Goals as goal

pub loop-i-init : goal.loop-i-init
loop-i-init c = (omega arith, λ row next e count. says (sym (images_none field_text)) (nothing c.numbered.new.page))

pub loop-i-preserved : goal.loop-i-preserved
loop-i-preserved c =
    let l = c.loop-i in
    let q = c.args.asked in (
      omega arith,
      λ row next e count.
          let (f, rest, is, more) = one_more field_text row.fields l.i (omega arith) in
          says (sym more)
          (then (l.invariant.1 row next e count)
          (c.field_word.ensures f next
          (field_asked_lem q.doc.now q.at q.rows q.book.now q.used l.i row next e ∙ nth_some l.i q.at row.fields next is))),
    )

pub returns : goal.returns
returns c =
    let l = c.loop-i in
    let q = c.args.asked in
    λ row next e number count.
    let all : l.i ≡ length row.fields = omega arith in
    then (says (ap (λ (x : ℕ). numbered (spelt "row ") q.at x) number) c.numbered.ensures)
    (then (says (ap (λ (i : ℕ). images field_text (take i row.fields)) all ∙ ap (images field_text) (take-length row.fields)) (l.invariant.1 row next e count)) c.octet.ensures)
