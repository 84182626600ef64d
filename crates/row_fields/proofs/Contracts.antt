-- The contracts of row_fields that settle the answer: each allows one. Assumes nothing.
use mathlib.Core.Path.{refl, sym, ◌∙◌}
use Rattle.octets.specs.OfContracts.{Once}
use Rattle.row_fields.proofs.value_at as value_at
use Rattle.row_fields.proofs.is_held as is_held

pub record Contracts : Type 0 where
  pub of_value_at : Once value_at.Kinds.ps value_at.Kinds.r value_at.Reads.Pre value_at.Reads.Post
  pub of_is_held : Once is_held.Kinds.ps is_held.Kinds.r is_held.Reads.Pre is_held.Reads.Post

pub contracts : Contracts
contracts = record { of_value_at = λ κs a p x y u v e f. (e p ∙ sym (f p), refl); of_is_held = λ κs a p x y u v e f. (e ∙ sym f, refl) }
