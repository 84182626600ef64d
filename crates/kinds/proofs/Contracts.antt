-- The contracts of kinds themselves: each allows one answer. Assumes nothing.
use Prim.Native.Nat.{ℕ}
use mathlib.Core.Path.{◌≡◌, refl, sym, ap, ◌∙◌}
use Rattle.octets.specs.OfContracts.{Once}
use mathlib.Core.Option.{Option, some, none}
use Rattle.kinds.specs.Kinds.{code_of, basic_of}
use Rattle.kinds.specs.Answers.{Coded, kinds, kind_says}
use Rattle.kinds.specs.declared.Basic.{Basic}
use Rattle.kinds.proofs.Table.{code_known, code_once}
use Rattle.std.specs.Prelude.{Result, Ok, Err}
use Rattle.octets.specs.declared.Fault.{Fault}
use Rattle.octets.specs.declared.Refused.{Refused}
use Rattle.kinds.specs.declared.Kind.{Kind}
use Rattle.octets.proofs.Ends.{value_is}
use Rattle.octets.proofs.Contracts.{says_once, fault_once, refused_once}
use Rattle.kinds.proofs.U32FromBasic.from as from_basic
use Rattle.kinds.proofs.BasicTryFromU32.try_from as try_from
use Rattle.kinds.proofs.form_by as form_by
use Rattle.kinds.proofs.form_of as form_of
use Rattle.kinds.proofs.kind_here as kind_here
use Rattle.kinds.proofs.form_here as form_here
use Rattle.kinds.proofs.value_end as value_end
use Rattle.kinds.proofs.basic_of as basic_at
use Rattle.kinds.proofs.basic_of_value as basic_of_value
use Rattle.kinds.proofs.bits_of_value as bits_of_value
use Rattle.kinds.proofs.kind_of as kind_of
use Rattle.kinds.proofs.kind_at as kind_at

pub record Contracts : Type 0 where
  pub of_from_basic : Once from_basic.Kinds.ps from_basic.Kinds.r from_basic.Reads.Pre from_basic.Reads.Post
  pub of_try_from : Once try_from.Kinds.ps try_from.Kinds.r try_from.Reads.Pre try_from.Reads.Post
  pub of_form_by : Once form_by.Kinds.ps form_by.Kinds.r form_by.Reads.Pre form_by.Reads.Post
  pub of_kind_here : Once kind_here.Kinds.ps kind_here.Kinds.r kind_here.Reads.Pre kind_here.Reads.Post
  pub of_form_here : Once form_here.Kinds.ps form_here.Kinds.r form_here.Reads.Pre form_here.Reads.Post
  pub of_value_end : Once value_end.Kinds.ps value_end.Kinds.r value_end.Reads.Pre value_end.Reads.Post
  pub of_form_of : Once form_of.Kinds.ps form_of.Kinds.r form_of.Reads.Pre form_of.Reads.Post
  pub of_basic_of : Once basic_at.Kinds.ps basic_at.Kinds.r basic_at.Reads.Pre basic_at.Reads.Post
  pub of_basic_of_value : Once basic_of_value.Kinds.ps basic_of_value.Kinds.r basic_of_value.Reads.Pre basic_of_value.Reads.Post
  pub of_bits_of_value : Once bits_of_value.Kinds.ps bits_of_value.Kinds.r bits_of_value.Reads.Pre bits_of_value.Reads.Post
  pub of_kind_of : Once kind_of.Kinds.ps kind_of.Kinds.r kind_of.Reads.Pre kind_of.Reads.Post
  pub of_kind_at : Once kind_at.Kinds.ps kind_at.Kinds.r kind_at.Reads.Pre kind_at.Reads.Post

-- Each of these says another thing of every answer.
none_of : (code : ℕ) (b : Basic) → code_of b ≡ code → basic_of code ≡ none → ⊥
none_of code b e f = let is : ◌≡◌ {A = Option Basic} none (some b) = sym f ∙ (ap basic_of (sym e) ∙ (code_known b).2) in cc

coded_once : (code : ℕ) (x y : Result Basic Fault) → Coded code x → Coded code y → x ≡ y
coded_once code (Ok b) (Ok c) e f = ap Ok (code_once b c (e ∙ sym f))
coded_once code (Ok b) (Err g) e f = absurd (none_of code b e f.1)
coded_once code (Err f) (Ok b) e g = absurd (none_of code b g e.1)
coded_once code (Err f) (Err g) e h = ap Err (e.0 ∙ sym h.0)

kinds_once : (x y : Result Kind Fault) → kinds 0 0 x ≡ kinds 0 0 y → x ≡ y
kinds_once (Ok k) (Ok l) e = cc
kinds_once (Ok k) (Err g) e = cc
kinds_once (Err f) (Ok l) e = cc
kinds_once (Err f) (Err g) e = ap Err (fault_once f g (cc))

kind_says_once : (at : ℕ) (x y : Result Kind Refused) → kind_says at x ≡ kind_says at y → x ≡ y
kind_says_once at (Ok k) (Ok l) e = cc
kind_says_once at (Ok k) (Err q) e = cc
kind_says_once at (Err p) (Ok l) e = cc
kind_says_once at (Err p) (Err q) e = ap Err (refused_once p q (cc) (cc))

pub contracts : Contracts
contracts =
    record {
      of_from_basic = λ κs a p x y u v e f. (e ∙ sym f, refl);
      of_try_from = λ κs a p x y u v e f. (coded_once _ x y e f, refl);
      of_form_by = λ κs a p x y u v e f. (e ∙ sym f, refl);
      of_kind_here = λ κs a p x y u v e f. let (k, next, is) = value_is _ p in (e k next is ∙ sym (f k next is), refl);
      of_form_here = λ κs a p x y u v e f. let (k, next, is) = value_is _ p in (e.0 k next is ∙ sym (f.0 k next is), refl);
      of_value_end = λ κs a p x y u v e f. (says_once x y (e.0 ∙ sym f.0), refl);
      of_form_of = λ κs a p x y u v e f. (e ∙ sym f, refl);
      of_basic_of = λ κs a p x y u v e f. (code_once x y (e ∙ sym f), refl);
      of_basic_of_value = λ κs a p x y u v e f. (e ∙ sym f, refl);
      of_bits_of_value = λ κs a p x y u v e f. (e ∙ sym f, refl);
      of_kind_of = λ κs a p x y u v e f. (kinds_once x y (e 0 0 ∙ sym (f 0 0)), refl);
      of_kind_at = λ κs a p x y u v e f. (kind_says_once _ x y (e.0 ∙ sym f.0), refl);
    }
