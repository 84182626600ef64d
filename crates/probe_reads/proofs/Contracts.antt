-- The contract of the first word of a line itself: one page. Assumes nothing.
use mathlib.Core.Path.{refl}
use Rattle.octets.specs.OfContracts.{Once}
use Rattle.octets.proofs.Alike.{◌also◌}
use Rattle.printing.proofs.Pages.{one_page}
use Rattle.probe_reads.proofs.head as head

pub record Contracts : Type 0 where
  pub of_head : Once head.Kinds.ps head.Kinds.r head.Reads.Pre head.Reads.Post

pub contracts : Contracts
contracts = record { of_head = λ κs a p x y u v e f. (refl, one_page e f also refl) }
