-- The contracts of giving themselves that settle the answer: each allows one, and one content of all that is lent. Assumes nothing.
use Prim.Native.Nat.{ℕ}
use mathlib.Core.Path.{◌≡◌, refl, sym, ap, ◌∙◌}
use mathlib.Core.List.{List, []}
use Rattle.octets.specs.OfContracts.{Once}
use Rattle.octets.proofs.Alike.{◌also◌}
use Rattle.std.specs.Prelude.{Result}
use Rattle.octets.specs.declared.Refused.{Refused}
use Rattle.writer.specs.declared.Standing.{Standing}
use Rattle.writer.specs.declared.Wanted.TheVariants as wants
use Rattle.writer.specs.Answers.{Left, left}
use Rattle.writing_parts.proofs.Faults.{faulted_once}
use Rattle.giving.proofs.ready as ready
use Rattle.giving.proofs.in_turn as in_turn
use Rattle.giving.proofs.give_on as give_on
use Rattle.giving.proofs.give as give
use Rattle.giving.proofs.give_text as give_text
use Rattle.giving.proofs.give_number as give_number
use Rattle.giving.proofs.give_pair as give_pair
use Rattle.giving.proofs.give_count as give_count
use Rattle.giving.proofs.give_item as give_item
use Rattle.giving.proofs.give_attribute as give_attribute
use Rattle.giving.proofs.is_open as is_open

pub record Contracts : Type 0 where
  pub of_ready : Once ready.Kinds.ps ready.Kinds.r ready.Reads.Pre ready.Reads.Post
  pub of_in_turn : Once in_turn.Kinds.ps in_turn.Kinds.r in_turn.Reads.Pre in_turn.Reads.Post
  pub of_give_on : Once give_on.Kinds.ps give_on.Kinds.r give_on.Reads.Pre give_on.Reads.Post
  pub of_give : Once give.Kinds.ps give.Kinds.r give.Reads.Pre give.Reads.Post
  pub of_give_text : Once give_text.Kinds.ps give_text.Kinds.r give_text.Reads.Pre give_text.Reads.Post
  pub of_give_number : Once give_number.Kinds.ps give_number.Kinds.r give_number.Reads.Pre give_number.Reads.Post
  pub of_give_pair : Once give_pair.Kinds.ps give_pair.Kinds.r give_pair.Reads.Pre give_pair.Reads.Post
  pub of_give_count : Once give_count.Kinds.ps give_count.Kinds.r give_count.Reads.Pre give_count.Reads.Post
  pub of_give_item : Once give_item.Kinds.ps give_item.Kinds.r give_item.Reads.Pre give_item.Reads.Post
  pub of_give_attribute : Once give_attribute.Kinds.ps give_attribute.Kinds.r give_attribute.Reads.Pre give_attribute.Reads.Post
  pub of_is_open : Once is_open.Kinds.ps is_open.Kinds.r is_open.Reads.Pre is_open.Reads.Post

-- Two answers that one statement allows, with what they leave, are the same.
pub one_answer : {r q : Result Standing Refused} {b c k l : List ℕ} {x : Left} → left r b k ≡ x → left q c l ≡ x → (r ≡ q) × (b ≡ c) × (k ≡ l)
one_answer {r} {q} {b} {c} {k} {l} e f =
    let same : left r b k ≡ left q c l = e ∙ sym f in
    (ap (λ (y : Left). y.answer) same, ap (λ (y : Left). y.buffer) same, ap (λ (y : Left). y.book) same)

pub contracts : Contracts
contracts =
    record {
      of_ready = λ κs a p x y u v e f. (faulted_once x y (e ∙ sym f), refl);
      of_in_turn = λ κs a p x y u v e f. (faulted_once x y (e ∙ sym f), refl);
      of_give_on = λ κs a p x y u v e f. let q = one_answer (e wants.Recorder []) (f wants.Recorder []) in (q.0, refl also q.1 also refl);
      of_give = λ κs a p x y u v e f. let q = one_answer e f in (q.0, refl also q.1 also refl);
      of_give_text = λ κs a p x y u v e f. let q = one_answer e f in (q.0, refl also q.1 also refl);
      of_give_number = λ κs a p x y u v e f. let q = one_answer e f in (q.0, refl also q.1 also refl);
      of_give_pair = λ κs a p x y u v e f. let q = one_answer e f in (q.0, refl also q.1 also refl);
      of_give_count = λ κs a p x y u v e f. let q = one_answer e f in (q.0, refl also q.1 also refl);
      of_give_item = λ κs a p x y u v e f. let q = one_answer e f in (q.0, refl also q.1 also refl);
      of_give_attribute = λ κs a p x y u v e f. let q = one_answer e f in (q.0, refl also q.1 also q.2 also refl);
      of_is_open = λ κs a p x y u v e f. (e ∙ sym f, refl);
    }
