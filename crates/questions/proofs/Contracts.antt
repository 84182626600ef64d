-- The contracts of the questions themselves: every input is taken, and each allows one answer; of a part handed back, one content. Assumes nothing.
use mathlib.Core.Path.{refl, sym, ◌∙◌}
use Rattle.octets.specs.OfContracts.{Settled, SettledSeen}
use Rattle.questions.proofs.Asked.row_refusal as row_refusal
use Rattle.questions.proofs.Asked.field as field
use Rattle.questions.proofs.Asked.field_name as field_name
use Rattle.questions.proofs.Asked.field_octets as field_octets
use Rattle.questions.proofs.Asked.layout_refusal as layout_refusal
use Rattle.questions.proofs.Asked.attribute_refusal as attribute_refusal
use Rattle.questions.proofs.Asked.type_name as type_name
use Rattle.questions.proofs.Asked.attribute_name as attribute_name
use Rattle.questions.proofs.Asked.attribute_kind as attribute_kind

pub record Contracts : Type 0 where
  pub of_row_refusal : Settled row_refusal.Kinds.ps row_refusal.Kinds.r row_refusal.Reads.Pre row_refusal.Reads.Post
  pub of_field : Settled field.Kinds.ps field.Kinds.r field.Reads.Pre field.Reads.Post
  pub of_field_name : SettledSeen field_name.Kinds.ps field_name.Kinds.r (λ κs x. x.now) field_name.Reads.Pre field_name.Reads.Post
  pub of_field_octets : SettledSeen field_octets.Kinds.ps field_octets.Kinds.r (λ κs x. x.now) field_octets.Reads.Pre field_octets.Reads.Post
  pub of_layout_refusal : Settled layout_refusal.Kinds.ps layout_refusal.Kinds.r layout_refusal.Reads.Pre layout_refusal.Reads.Post
  pub of_attribute_refusal : Settled attribute_refusal.Kinds.ps attribute_refusal.Kinds.r attribute_refusal.Reads.Pre attribute_refusal.Reads.Post
  pub of_type_name : SettledSeen type_name.Kinds.ps type_name.Kinds.r (λ κs x. x.now) type_name.Reads.Pre type_name.Reads.Post
  pub of_attribute_name : SettledSeen attribute_name.Kinds.ps attribute_name.Kinds.r (λ κs x. x.now) attribute_name.Reads.Pre attribute_name.Reads.Post
  pub of_attribute_kind : Settled attribute_kind.Kinds.ps attribute_kind.Kinds.r attribute_kind.Reads.Pre attribute_kind.Reads.Post

pub contracts : Contracts
contracts =
    record {
      of_row_refusal = (λ κs a. tt, λ κs a p x y u v e f. (e ∙ sym f, refl));
      of_field = (λ κs a. tt, λ κs a p x y u v e f. (e ∙ sym f, refl));
      of_field_name = (λ κs a. tt, λ κs a p x y u v e f. (e ∙ sym f, refl));
      of_field_octets = (λ κs a. tt, λ κs a p x y u v e f. (e ∙ sym f, refl));
      of_layout_refusal = (λ κs a. tt, λ κs a p x y u v e f. (e ∙ sym f, refl));
      of_attribute_refusal = (λ κs a. tt, λ κs a p x y u v e f. (e ∙ sym f, refl));
      of_type_name = (λ κs a. tt, λ κs a p x y u v e f. (e ∙ sym f, refl));
      of_attribute_name = (λ κs a. tt, λ κs a p x y u v e f. (e ∙ sym f, refl));
      of_attribute_kind = (λ κs a. tt, λ κs a p x y u v e f. (e ∙ sym f, refl));
    }
