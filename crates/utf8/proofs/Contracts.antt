-- The contract of utf8 itself: it allows one answer. Assumes nothing.
use mathlib.Core.Path.{refl, sym, ◌∙◌}
use Rattle.octets.specs.OfContracts.{Once}
use Rattle.utf8.proofs.is_utf8 as is_utf8

pub record Contracts : Type 0 where
  pub of_is_utf8 : Once is_utf8.Kinds.ps is_utf8.Kinds.r is_utf8.Reads.Pre is_utf8.Reads.Post

pub contracts : Contracts
contracts = record { of_is_utf8 = λ κs a p x y u v e f. (e ∙ sym f, refl) }
