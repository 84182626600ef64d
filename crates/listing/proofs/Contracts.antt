-- The contracts of the listing themselves settle what is printed: one page, for every input. Assumes nothing.
use mathlib.Core.Path.{refl}
use Rattle.octets.specs.OfContracts.{Once}
use Rattle.octets.proofs.Alike.{◌also◌}
use Rattle.printing.proofs.Pages.{one_page}
use Rattle.listing.proofs.element_lines as element_lines
use Rattle.listing.proofs.document as document
use Rattle.listing.proofs.listed as listed

pub record Contracts : Type 0 where
  pub of_element_lines : Once element_lines.Kinds.ps element_lines.Kinds.r element_lines.Reads.Pre element_lines.Reads.Post
  pub of_document : Once document.Kinds.ps document.Kinds.r document.Reads.Pre document.Reads.Post
  pub of_listed : Once listed.Kinds.ps listed.Kinds.r listed.Reads.Pre listed.Reads.Post

pub contracts : Contracts
contracts =
    record {
      of_element_lines = λ κs a p x y u v e f. (refl, one_page e f also refl);
      of_document = λ κs a p x y u v e f. (refl, one_page e f also refl);
      of_listed = λ κs a p x y u v e f. (refl, one_page e f also refl);
    }
