-- The contract of a time itself: one page. Assumes nothing.
use mathlib.Core.Path.{refl}
use Rattle.octets.specs.OfContracts.{Once}
use Rattle.octets.proofs.Alike.{◌also◌}
use Rattle.printing.proofs.Pages.{one_page}
use Rattle.dates.proofs.time as time

pub record Contracts : Type 0 where
  pub of_time : Once time.Kinds.ps time.Kinds.r time.Reads.Pre time.Reads.Post

pub contracts : Contracts
contracts = record { of_time = λ κs a p x y u v e f. (refl, one_page e f also refl) }
