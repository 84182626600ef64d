-- The contracts of walks themselves that settle the answer: what is known before any layout is kept, how a walk goes on, the rows counted, and a row in one number. Assumes nothing.
use mathlib.Core.Path.{refl, sym, ◌∙◌}
use Rattle.octets.specs.OfContracts.{Once}
use Rattle.octets.proofs.Alike.{◌also◌}
use Rattle.octets.proofs.Contracts.{counts_once}
use Rattle.walks.proofs.Stretches.{goes_on_once}
use Rattle.walks.proofs.Known.new as new
use Rattle.walks.proofs.row_word as row_word
use Rattle.walks.proofs.go_on as go_on
use Rattle.walks.proofs.rows_from as rows_from

pub record Contracts : Type 0 where
  pub of_new : Once new.Kinds.ps new.Kinds.r new.Reads.Pre new.Reads.Post
  pub of_row_word : Once row_word.Kinds.ps row_word.Kinds.r row_word.Reads.Pre row_word.Reads.Post
  pub of_go_on : Once go_on.Kinds.ps go_on.Kinds.r go_on.Reads.Pre go_on.Reads.Post
  pub of_rows_from : Once rows_from.Kinds.ps rows_from.Kinds.r rows_from.Reads.Pre rows_from.Reads.Post

pub contracts : Contracts
contracts =
    record {
      of_new = λ κs a p x y u v e f. (e ∙ sym f, refl);
      of_row_word = λ κs a p x y u v e f. (e ∙ sym f, refl);
      of_go_on = λ κs a p x y u v e f.
          let b = p.4 in
          let q = goes_on_once _ _ _ b.bears.planned.numbered _ _ _ _ _ p.0 x y (e b.book b.bears) (f b.book b.bears) in
          (q.0, refl also refl also refl also refl also refl also refl also refl also q.1 also refl);
      of_rows_from = λ κs a p x y u v e f. (counts_once x y (e ∙ sym f), refl);
    }
