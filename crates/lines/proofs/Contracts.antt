-- The contracts of the lines themselves that settle what is printed: one page, for every input. Assumes nothing.
use mathlib.Core.Path.{refl}
use Rattle.octets.specs.OfContracts.{Once}
use Rattle.octets.proofs.Alike.{◌also◌}
use Rattle.printing.proofs.Pages.{one_page}
use Rattle.lines.proofs.header_line as header_line
use Rattle.lines.proofs.numbered as numbered
use Rattle.lines.proofs.behind as behind
use Rattle.lines.proofs.layout_line as layout_line
use Rattle.lines.proofs.value_word as value_word
use Rattle.lines.proofs.end_line as end_line
use Rattle.lines.proofs.refusal_line as refusal_line
use Rattle.lines.proofs.refused_line as refused_line

pub record Contracts : Type 0 where
  pub of_header_line : Once header_line.Kinds.ps header_line.Kinds.r header_line.Reads.Pre header_line.Reads.Post
  pub of_numbered : Once numbered.Kinds.ps numbered.Kinds.r numbered.Reads.Pre numbered.Reads.Post
  pub of_behind : Once behind.Kinds.ps behind.Kinds.r behind.Reads.Pre behind.Reads.Post
  pub of_layout_line : Once layout_line.Kinds.ps layout_line.Kinds.r layout_line.Reads.Pre layout_line.Reads.Post
  pub of_value_word : Once value_word.Kinds.ps value_word.Kinds.r value_word.Reads.Pre value_word.Reads.Post
  pub of_end_line : Once end_line.Kinds.ps end_line.Kinds.r end_line.Reads.Pre end_line.Reads.Post
  pub of_refusal_line : Once refusal_line.Kinds.ps refusal_line.Kinds.r refusal_line.Reads.Pre refusal_line.Reads.Post
  pub of_refused_line : Once refused_line.Kinds.ps refused_line.Kinds.r refused_line.Reads.Pre refused_line.Reads.Post

pub contracts : Contracts
contracts =
    record {
      of_header_line = λ κs a p x y u v e f. (refl, one_page e f also refl);
      of_numbered = λ κs a p x y u v e f. (refl, one_page e f also refl);
      of_behind = λ κs a p x y u v e f. (refl, one_page e f also refl);
      of_layout_line = λ κs a p x y u v e f. (refl, one_page e f also refl);
      of_value_word = λ κs a p x y u v e f. (refl, one_page e f also refl);
      of_end_line = λ κs a p x y u v e f. (refl, one_page e f also refl);
      of_refusal_line = λ κs a p x y u v e f. (refl, one_page e f also refl);
      of_refused_line = λ κs a p x y u v e f. (refl, one_page e f also refl);
    }
