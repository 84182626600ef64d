-- The contracts of octets themselves: each allows one answer, and one final content of what is lent to be changed. Assumes nothing.
use denote.RattleType.{RattleType}
use denote.Param.Laws.{Laws}
use mir.Syntax.{Dict}
use mathlib.Core.Path.{◌≡◌, refl, sym, ap, ◌∙◌}
use Rattle.octets.specs.OfContracts.{Once}
use Rattle.octets.specs.Answers.{says, counts}
use Rattle.octets.specs.contracts.run_end.F-Fn.{Ghosts}
use Rattle.octets.specs.Faults.{number_of, fault_of, back}
use Rattle.octets.specs.declared.Fault.{Fault}
use Rattle.octets.specs.declared.Refused.{Refused}
use Rattle.std.specs.Prelude.{ℕ, Result, Ok, Err}
use Rattle.octets.proofs.Alike.{◌also◌}
use Rattle.octets.proofs.Fault.number as fault_number
use Rattle.octets.proofs.u8_at as u8_at
use Rattle.octets.proofs.u16_at as u16_at
use Rattle.octets.proofs.u32_at as u32_at
use Rattle.octets.proofs.u64_at as u64_at
use Rattle.octets.proofs.reach as reach
use Rattle.octets.proofs.overrun as overrun
use Rattle.octets.proofs.number_end as number_end
use Rattle.octets.proofs.count_at as count_at
use Rattle.octets.proofs.run_end as run_end
use Rattle.octets.proofs.octets_same as octets_same
use Rattle.octets.proofs.copy_in as copy_in
use Rattle.octets.proofs.put_number as put_number
use Rattle.octets.proofs.lay as lay
use Rattle.octets.proofs.lay_number as lay_number

pub record Contracts : Type 0 where
  pub of_fault_number : Once fault_number.Kinds.ps fault_number.Kinds.r fault_number.Reads.Pre fault_number.Reads.Post
  pub of_u8_at : Once u8_at.Kinds.ps u8_at.Kinds.r u8_at.Reads.Pre u8_at.Reads.Post
  pub of_u16_at : Once u16_at.Kinds.ps u16_at.Kinds.r u16_at.Reads.Pre u16_at.Reads.Post
  pub of_u32_at : Once u32_at.Kinds.ps u32_at.Kinds.r u32_at.Reads.Pre u32_at.Reads.Post
  pub of_u64_at : Once u64_at.Kinds.ps u64_at.Kinds.r u64_at.Reads.Pre u64_at.Reads.Post
  pub of_reach : Once reach.Kinds.ps reach.Kinds.r reach.Reads.Pre reach.Reads.Post
  pub of_overrun : Once overrun.Kinds.ps overrun.Kinds.r overrun.Reads.Pre overrun.Reads.Post
  pub of_number_end : Once number_end.Kinds.ps number_end.Kinds.r number_end.Reads.Pre number_end.Reads.Post
  pub of_count_at : Once count_at.Kinds.ps count_at.Kinds.r count_at.Reads.Pre count_at.Reads.Post
  pub of_octets_same : Once octets_same.Kinds.ps octets_same.Kinds.r octets_same.Reads.Pre octets_same.Reads.Post
  pub of_copy_in : Once copy_in.Kinds.ps copy_in.Kinds.r copy_in.Reads.Pre copy_in.Reads.Post
  pub of_put_number : Once put_number.Kinds.ps put_number.Kinds.r put_number.Reads.Pre put_number.Reads.Post
  pub of_lay : Once lay.Kinds.ps lay.Kinds.r lay.Reads.Pre lay.Reads.Post
  pub of_lay_number : Once lay_number.Kinds.ps lay_number.Kinds.r lay_number.Reads.Pre lay_number.Reads.Post

-- A fault is its number, a refusal its number and its place.
pub fault_once : (f g : Fault) → number_of f ≡ number_of g → f ≡ g
fault_once f g e = sym (back f) ∙ (ap fault_of e ∙ back g)

pub refused_once : (p q : Refused) → p.number ≡ q.number → p.place ≡ q.place → p ≡ q
refused_once p q n e = ap (λ (k : ℕ). record { number = k; place = p.place }) n ∙ ap (λ (k : ℕ). record { number = q.number; place = k }) e

pub err_once : (p q : Refused) → says (Err p) ≡ says (Err q) → p ≡ q
err_once p q e = refused_once p q (cc) (cc)

-- Each of these says another thing of every answer.
pub says_once : (x y : Result ℕ Refused) → says x ≡ says y → x ≡ y
says_once (Ok p) (Ok q) e = cc
says_once (Ok p) (Err q) e = cc
says_once (Err p) (Ok q) e = cc
says_once (Err p) (Err q) e = ap Err (err_once p q e)

pub counts_once : (x y : Result (ℕ × ℕ) Refused) → counts x ≡ counts y → x ≡ y
counts_once (Ok (k, p)) (Ok (l, q)) e = cc
counts_once (Ok (k, p)) (Err q) e = cc
counts_once (Err p) (Ok (l, q)) e = cc
counts_once (Err p) (Err q) e = ap Err (err_once p q e)

pub contracts : Contracts
contracts =
    record {
      of_fault_number = λ κs a p x y u v e f. (e ∙ sym f, refl);
      of_u8_at = λ κs a p x y u v e f. (e ∙ sym f, refl);
      of_u16_at = λ κs a p x y u v e f. (e ∙ sym f, refl);
      of_u32_at = λ κs a p x y u v e f. (e ∙ sym f, refl);
      of_u64_at = λ κs a p x y u v e f. (e ∙ sym f, refl);
      of_reach = λ κs a p x y u v e f. (e ∙ sym f, refl);
      of_overrun = λ κs a p x y u v e f. (err_once x y (e ∙ sym f), refl);
      of_number_end = λ κs a p x y u v e f. (says_once x y (e.0 ∙ sym f.0), refl);
      of_count_at = λ κs a p x y u v e f. (counts_once x y (e.0 ∙ sym f.0), refl);
      of_octets_same = λ κs a p x y u v e f. (e ∙ sym f, refl);
      of_copy_in = λ κs a p x y u v e f. (refl, refl also (e ∙ sym f) also refl);
      of_put_number = λ κs a p x y u v e f. (refl, (e ∙ sym f) also refl);
      of_lay = λ κs a p x y u v e f. (e.0 ∙ sym f.0, (e.1 ∙ sym f.1) also refl);
      of_lay_number = λ κs a p x y u v e f. (e.0 ∙ sym f.0, (e.1 ∙ sym f.1) also refl);
    }

-- That of `run_end`, whatever is passed to find the end of one thing.
pub of_run_end : (t : RattleType) (laws : Laws t) (g : Ghosts t) (a b c d : Dict) → Once (run_end.Kinds.ps t laws) (run_end.Kinds.r t laws) (run_end.Reads.Pre t laws g a b c d) (run_end.Reads.Post t laws g a b c d)
of_run_end t laws g a b c d κs s (lives, p) x y u v e f =
    (says_once x y ((e p.end p.reading p.inside p.finds).0 ∙ sym (f p.end p.reading p.inside p.finds).0), refl)
