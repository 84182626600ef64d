-- The contracts of the calls for C themselves: every input is taken, each allows one answer and one content of all that is lent, and a refusal, which is any number but 0, leaves it all. Assumes nothing.
use Prim.Native.Nat.{ℕ, ◌<◌}
use mathlib.Core.Path.{◌≡◌, refl, sym, ◌∙◌}
use native.Mathlib.Omega.{arith}
use Rattle.octets.specs.Reading.{Read, no}
use Rattle.octets.specs.OfContracts.{SettledLent}
use Rattle.octets.proofs.Alike.{◌also◌, put_back, as_it_was}
use Rattle.headers.specs.Header.{header_at}
use Rattle.elements.specs.Steps.{step_at, octets_left}
use Rattle.elements.specs.Reading.{whole}
use Rattle.elements.specs.Walk.{lent_at}
use Rattle.runs.specs.Runs.{run_asked}
use Rattle.runs.specs.Answers.{book_left, words_left}
use Rattle.collector.specs.Calls.{answered, head_leaves, step_leaves, run_leaves, count_leaves}
use Rattle.collector.proofs.ipdr_header as ipdr_header
use Rattle.collector.proofs.ipdr_step as ipdr_step
use Rattle.collector.proofs.ipdr_run as ipdr_run
use Rattle.collector.proofs.ipdr_whole as ipdr_whole

pub record Contracts : Type 0 where
  pub of_header : SettledLent ipdr_header.Kinds.ps ipdr_header.Kinds.r (λ κs s. s) (λ κs x. 0 < x) ipdr_header.Reads.Pre ipdr_header.Reads.Post
  pub of_step : SettledLent ipdr_step.Kinds.ps ipdr_step.Kinds.r (λ κs s. s) (λ κs x. 0 < x) ipdr_step.Reads.Pre ipdr_step.Reads.Post
  pub of_run : SettledLent ipdr_run.Kinds.ps ipdr_run.Kinds.r (λ κs s. s) (λ κs x. 0 < x) ipdr_run.Reads.Pre ipdr_run.Reads.Post
  pub of_whole : SettledLent ipdr_whole.Kinds.ps ipdr_whole.Kinds.r (λ κs s. s) (λ κs x. 0 < x) ipdr_whole.Reads.Pre ipdr_whole.Reads.Post

-- What a call leaves where its answer is not 0.
kept : {A C : Type 0} (left : Read A → C) (lent : C) → ((n p : ℕ) → left (no n p) ≡ lent) → (r : Read A) (x : ℕ) → x ≡ answered r → 0 < x → left r ≡ lent
kept left lent = as_it_was answered (λ x. 0 < x) (λ a next z. omega arith) left lent

pub contracts : Contracts
contracts =
    record {
      of_header = (
        λ κs a. tt,
        λ κs a p x y u v e f. (e.0 ∙ sym f.0, refl also (e.1 ∙ sym f.1) also refl),
        λ κs a p x u e h. refl also put_back (e.1 ∙ kept (head_leaves _) _ (λ n p. refl) (header_at a.0.now) x e.0 h) also refl,
      );
      of_step = (
        λ κs a. tt,
        λ κs a p x y u v e f. (e.0 ∙ sym f.0, refl also refl also refl also (e.2 ∙ sym f.2) also refl also (e.1 ∙ sym f.1) also refl),
        λ κs a p x u e h.
            let r = step_at a.0.now a.1.0 a.1.1.0 a.1.1.1.0.now a.1.1.1.1.0 in
            refl also refl also refl also put_back (e.2 ∙ kept (octets_left _) _ (λ n p. refl) r x e.0 h) also refl
            also put_back (e.1 ∙ kept (step_leaves _) _ (λ n p. refl) r x e.0 h) also refl,
      );
      of_run = (
        λ κs a. tt,
        λ κs a p x y u v e f.
            (e.0 ∙ sym f.0, refl also refl also refl also (e.2 ∙ sym f.2) also refl also (e.3 ∙ sym f.3) also (e.1 ∙ sym f.1) also refl),
        λ κs a p x u e h.
            let r = run_asked a.0.now (lent_at a.1.0 a.1.1.0 a.1.1.1.0.now a.1.1.1.1.0) in
            refl also refl also refl also put_back (e.2 ∙ kept (book_left _) _ (λ n p. refl) r x e.0 h) also refl
            also put_back (e.3 ∙ kept (words_left _) _ (λ n p. refl) r x e.0 h) also put_back (e.1 ∙ kept (run_leaves _) _ (λ n p. refl) r x e.0 h) also refl,
      );
      of_whole = (
        λ κs a. tt,
        λ κs a p x y u v e f. (e.0 ∙ sym f.0, refl also (e.1 ∙ sym f.1) also refl),
        λ κs a p x u e h. refl also put_back (e.1 ∙ kept (count_leaves _) _ (λ n p. refl) (whole a.0.now) x e.0 h) also refl,
      );
    }
