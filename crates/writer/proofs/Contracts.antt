-- The contracts of writer themselves: each allows one answer. Assumes nothing.
use mathlib.Core.Path.{refl, sym, ◌∙◌}
use mathlib.Core.List.{[]}
use Rattle.octets.specs.OfContracts.{Once}
use Rattle.writing_parts.proofs.Faults.{faulted_once}
use Rattle.writer.proofs.at_most as at_most
use Rattle.writer.proofs.sixteen as sixteen
use Rattle.writer.proofs.type_fault as type_fault
use Rattle.writer.proofs.layout_fault as layout_fault
use Rattle.writer.proofs.value_fault as value_fault
use Rattle.writer.proofs.close_fault as close_fault
use Rattle.writer.proofs.suits_number as suits_number
use Rattle.writer.proofs.suits_octets as suits_octets
use Rattle.writer.proofs.breach as breach
use Rattle.writer.proofs.value_breach as value_breach
use Rattle.writer.proofs.width_of as width_of

pub record Contracts : Type 0 where
  pub of_at_most : Once at_most.Kinds.ps at_most.Kinds.r at_most.Reads.Pre at_most.Reads.Post
  pub of_sixteen : Once sixteen.Kinds.ps sixteen.Kinds.r sixteen.Reads.Pre sixteen.Reads.Post
  pub of_type_fault : Once type_fault.Kinds.ps type_fault.Kinds.r type_fault.Reads.Pre type_fault.Reads.Post
  pub of_layout_fault : Once layout_fault.Kinds.ps layout_fault.Kinds.r layout_fault.Reads.Pre layout_fault.Reads.Post
  pub of_value_fault : Once value_fault.Kinds.ps value_fault.Kinds.r value_fault.Reads.Pre value_fault.Reads.Post
  pub of_close_fault : Once close_fault.Kinds.ps close_fault.Kinds.r close_fault.Reads.Pre close_fault.Reads.Post
  pub of_suits_number : Once suits_number.Kinds.ps suits_number.Kinds.r suits_number.Reads.Pre suits_number.Reads.Post
  pub of_suits_octets : Once suits_octets.Kinds.ps suits_octets.Kinds.r suits_octets.Reads.Pre suits_octets.Reads.Post
  pub of_breach : Once breach.Kinds.ps breach.Kinds.r breach.Reads.Pre breach.Reads.Post
  pub of_value_breach : Once value_breach.Kinds.ps value_breach.Kinds.r value_breach.Reads.Pre value_breach.Reads.Post
  pub of_width_of : Once width_of.Kinds.ps width_of.Kinds.r width_of.Reads.Pre width_of.Reads.Post

pub contracts : Contracts
contracts =
    record {
      of_at_most = λ κs a p x y u v e f. (faulted_once x y (e ∙ sym f), refl);
      of_sixteen = λ κs a p x y u v e f. (faulted_once x y (e ∙ sym f), refl);
      of_type_fault = λ κs a p x y u v e f. (faulted_once x y (e 0 0 ∙ sym (f 0 0)), refl);
      of_layout_fault = λ κs a p x y u v e f. (faulted_once x y (e ∙ sym f), refl);
      of_value_fault = λ κs a p x y u v e f. (faulted_once x y (e ∙ sym f), refl);
      of_close_fault = λ κs a p x y u v e f. (faulted_once x y (e ∙ sym f), refl);
      of_suits_number = λ κs a p x y u v e f. (e ∙ sym f, refl);
      of_suits_octets = λ κs a p x y u v e f. (e [] ∙ sym (f []), refl);
      of_breach = λ κs a p x y u v e f. (faulted_once x y (e ∙ sym f), refl);
      of_value_breach = λ κs a p x y u v e f. (faulted_once x y (e ∙ sym f), refl);
      of_width_of = λ κs a p x y u v e f. (e.0 ∙ sym f.0, refl);
    }
