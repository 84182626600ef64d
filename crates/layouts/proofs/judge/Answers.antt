-- `layouts::judge` meets its contract: the number is looked up in the book's octets. Assumes nothing.
use Prim.Native.Nat.{ℕ}
use mathlib.Core.Path.{ap, ◌∙◌, subst}
use mathlib.Core.List.{List}
use lib.ListN.{length}
use Rattle.octets.proofs.Ends.{ended}
use Rattle.layouts.specs.Layout.{layout_at}
use Rattle.layouts.specs.Answers.{Looks}
use Rattle.layouts.proofs.Parts.{layout_number}
use Rattle.layouts.proofs.judge.Goals as goal
use Rattle.layouts.proofs.judge.Lts
use Rattle.layouts.proofs.judge.Reads
use Rattle.layouts.proofs.judge.Tie

-- The arguments by names.
abbrev Known : Type 0
Known = Lts.After-shared_slice_known2 Tie.the-claims Reads.Pre Reads.Post

abbrev Doc : Known → List ℕ
Doc k = k.args.doc.now

abbrev At : Known → ℕ
At k = k.args.at

abbrev S : Known → List ℕ
S k = k.args.s.now

pub u32_at-requires : goal.u32_at-requires
u32_at-requires c = let (l, e) = ended (layout_at (Doc c.before) (At c.before)) _ c.requires.2 in (layout_number (Doc c.before) (At c.before) e).0

pub returns : goal.returns
returns c = λ book l i e.
    c.judge_by.ensures book l e
    (subst (λ (n : ℕ). Looks (S c.before.before.before.before) n book c.look_in-looked.result) (c.u32_at.ensures ∙ (layout_number (Doc c.before.before.before.before) (At c.before.before.before.before) e).1) (c.look_in-looked.ensures book i)) (ap length i.is)
