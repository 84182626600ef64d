-- The contracts of what is put into a buffer and of the words that the probe's lines are made of: each allows one answer, one content or one page. Assumes nothing.
use Rattle.std.proofs.Common.{sym, refl, ◌∙◌}
use Rattle.octets.specs.OfContracts.{Once, OnceSeen}
use Rattle.octets.proofs.Alike.{◌also◌}
use Rattle.printing.proofs.Pages.{one_page}
use Rattle.probe_input.proofs.put as put
use Rattle.probe_input.proofs.front as front
use Rattle.probe_input.proofs.part as part
use Rattle.probe_input.proofs.sum as sum
use Rattle.probe_input.proofs.checksum as checksum

pub record Contracts : Type 0 where
  pub of_put : Once put.Kinds.ps put.Kinds.r put.Reads.Pre put.Reads.Post
  pub of_front : OnceSeen front.Kinds.ps front.Kinds.r (λ κs x. x.now) front.Reads.Pre front.Reads.Post
  pub of_part : Once part.Kinds.ps part.Kinds.r part.Reads.Pre part.Reads.Post
  pub of_sum : Once sum.Kinds.ps sum.Kinds.r sum.Reads.Pre sum.Reads.Post
  pub of_checksum : Once checksum.Kinds.ps checksum.Kinds.r checksum.Reads.Pre checksum.Reads.Post

pub contracts : Contracts
contracts =
    record {
      of_put = λ κs a p x y u v e f. (refl, (e ∙ sym f) also refl also refl also refl);
      of_front = λ κs a p x y u v e f. (e ∙ sym f, refl);
      of_part = λ κs a p x y u v e f. (refl, one_page e f also refl);
      of_sum = λ κs a p x y u v e f. (refl, one_page e f also refl);
      of_checksum = λ κs a p x y u v e f. (e ∙ sym f, refl);
    }
