-- The contract of a run itself: every input is taken, one answer, one content of the book and of the words are allowed, and a refusal leaves both. Assumes nothing.
use Prim.Native.Nat.{ℕ}
use mathlib.Core.Path.{◌≡◌, refl, sym, ◌∙◌}
use mathlib.Core.List.{List}
use Rattle.std.specs.Prelude.{Result}
use Rattle.octets.specs.declared.Refused.{Refused}
use Rattle.octets.specs.Reading.{Read, no}
use Rattle.octets.specs.OfContracts.{SettledLent}
use Rattle.octets.proofs.Alike.{◌also◌, put_back, as_it_was}
use Rattle.elements.specs.Walk.{Walk, Lent, lent_at}
use Rattle.runs.specs.Runs.{run_asked}
use Rattle.runs.specs.Answers.{run_tells, book_left, words_left, Refuses}
use Rattle.runs.specs.declared.Went.{Went}
use Rattle.runs.proofs.run as run

pub record Contracts : Type 0 where
  pub of_run : SettledLent run.Kinds.ps run.Kinds.r (λ κs s. s) (λ κs. Refuses) run.Reads.Pre run.Reads.Post

-- What a refused run leaves.
kept : (left : Read (Walk Lent) → List ℕ) (lent : List ℕ) → ((n p : ℕ) → left (no n p) ≡ lent) → (r : Read (Walk Lent)) (x : Result Went Refused) → x ≡ run_tells r → Refuses x → left r ≡ lent
kept = as_it_was run_tells Refuses (λ p next z. z)

pub contracts : Contracts
contracts =
    record {
      of_run = (
        λ κs a. tt,
        λ κs a p x y u v e f. (e.0 ∙ sym f.0, refl also refl also refl also (e.1 ∙ sym f.1) also refl also (e.2 ∙ sym f.2) also refl),
        λ κs a p x u e h.
            let r = run_asked a.0.now (lent_at a.1.0 a.1.1.0 a.1.1.1.0.now a.1.1.1.1.0) in
            refl also refl also refl also put_back (e.1 ∙ kept (book_left _) _ (λ n q. refl) r x e.0 h) also refl
            also put_back (e.2 ∙ kept (words_left _) _ (λ n q. refl) r x e.0 h) also refl,
      );
    }
