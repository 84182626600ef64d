-- The contracts of printing themselves: each allows one page: one count of what waits and one content of the buffer. Assumes nothing.
use mathlib.Core.Path.{refl, sym, ◌∙◌}
use Rattle.octets.specs.OfContracts.{Once}
use Rattle.octets.proofs.Alike.{◌also◌}
use Rattle.printing.proofs.Pages.{one_page, same_page}
use Rattle.printing.proofs.Page.new as new_page
use Rattle.printing.proofs.Page.flush as flush
use Rattle.printing.proofs.Page.octet as octet
use Rattle.printing.proofs.Page.show_all as show_all
use Rattle.printing.proofs.Page.decimal as decimal
use Rattle.printing.proofs.Page.filled as filled
use Rattle.printing.proofs.Page.signed as signed
use Rattle.printing.proofs.Page.named as named
use Rattle.printing.proofs.Page.hex as hex
use Rattle.printing.proofs.Page.refusal as refusal
use Rattle.printing.proofs.Page.refused as refused
use Rattle.printing.proofs.Page.truth as truth
use Rattle.printing.proofs.Page.value as value

pub record Contracts : Type 0 where
  pub of_new : Once new_page.Kinds.ps new_page.Kinds.r new_page.Reads.Pre new_page.Reads.Post
  pub of_flush : Once flush.Kinds.ps flush.Kinds.r flush.Reads.Pre flush.Reads.Post
  pub of_octet : Once octet.Kinds.ps octet.Kinds.r octet.Reads.Pre octet.Reads.Post
  pub of_show_all : Once show_all.Kinds.ps show_all.Kinds.r show_all.Reads.Pre show_all.Reads.Post
  pub of_decimal : Once decimal.Kinds.ps decimal.Kinds.r decimal.Reads.Pre decimal.Reads.Post
  pub of_filled : Once filled.Kinds.ps filled.Kinds.r filled.Reads.Pre filled.Reads.Post
  pub of_signed : Once signed.Kinds.ps signed.Kinds.r signed.Reads.Pre signed.Reads.Post
  pub of_named : Once named.Kinds.ps named.Kinds.r named.Reads.Pre named.Reads.Post
  pub of_hex : Once hex.Kinds.ps hex.Kinds.r hex.Reads.Pre hex.Reads.Post
  pub of_refusal : Once refusal.Kinds.ps refusal.Kinds.r refusal.Reads.Pre refusal.Reads.Post
  pub of_refused : Once refused.Kinds.ps refused.Kinds.r refused.Reads.Pre refused.Reads.Post
  pub of_truth : Once truth.Kinds.ps truth.Kinds.r truth.Reads.Pre truth.Reads.Post
  pub of_value : Once value.Kinds.ps value.Kinds.r value.Reads.Pre value.Reads.Post

pub contracts : Contracts
contracts =
    record {
      of_new = λ κs a p x y u v e f. (same_page (e.0 ∙ sym f.0) (e.1 ∙ sym f.1), refl);
      of_flush = λ κs a p x y u v e f. (refl, (e ∙ sym f) also refl);
      of_octet = λ κs a p x y u v e f. (refl, one_page e f also refl);
      of_show_all = λ κs a p x y u v e f. (refl, one_page e f also refl);
      of_decimal = λ κs a p x y u v e f. (refl, one_page e f also refl);
      of_filled = λ κs a p x y u v e f. (refl, one_page e f also refl);
      of_signed = λ κs a p x y u v e f. (refl, one_page e f also refl);
      of_named = λ κs a p x y u v e f. (refl, one_page e f also refl);
      of_hex = λ κs a p x y u v e f. (refl, one_page e f also refl);
      of_refusal = λ κs a p x y u v e f. (refl, one_page e f also refl);
      of_refused = λ κs a p x y u v e f. (refl, one_page e f also refl);
      of_truth = λ κs a p x y u v e f. (refl, one_page e f also refl);
      of_value = λ κs a p x y u v e f. (refl, one_page e f also refl);
    }
