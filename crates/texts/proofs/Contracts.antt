-- The contracts of texts themselves: each allows one answer. Assumes nothing.
use mathlib.Core.Path.{refl, sym, ◌∙◌}
use Rattle.octets.specs.OfContracts.{Once, OnceSeen}
use Rattle.octets.proofs.Contracts.{says_once}
use Rattle.octets.proofs.Inverse.{ok_place}
use Rattle.texts.proofs.octets_end as octets_end
use Rattle.texts.proofs.led_end as led_end
use Rattle.texts.proofs.text_end as text_end
use Rattle.texts.proofs.text_skip as text_skip
use Rattle.texts.proofs.led_part as led_part

pub record Contracts : Type 0 where
  pub of_octets_end : Once octets_end.Kinds.ps octets_end.Kinds.r octets_end.Reads.Pre octets_end.Reads.Post
  pub of_led_end : Once led_end.Kinds.ps led_end.Kinds.r led_end.Reads.Pre led_end.Reads.Post
  pub of_text_end : Once text_end.Kinds.ps text_end.Kinds.r text_end.Reads.Pre text_end.Reads.Post
  pub of_text_skip : Once text_skip.Kinds.ps text_skip.Kinds.r text_skip.Reads.Pre text_skip.Reads.Post
  pub of_led_part : OnceSeen led_part.Kinds.ps led_part.Kinds.r (λ κs x. x.now) led_part.Reads.Pre led_part.Reads.Post

pub contracts : Contracts
contracts =
    record {
      of_octets_end = λ κs a p x y u v e f. (says_once x y (e.0 ∙ sym f.0), refl);
      of_led_end = λ κs a p x y u v e f. (says_once x y (e.0 ∙ sym f.0), refl);
      of_text_end = λ κs a p x y u v e f. (says_once x y (e.0 ∙ sym f.0), refl);
      of_text_skip = λ κs a p x y u v e f. (ok_place e.0 f.0, refl);
      of_led_part = λ κs a p x y u v e f. let l = p.1 in (e l.rule l.octets l.next l.reads ∙ sym (f l.rule l.octets l.next l.reads), refl);
    }
