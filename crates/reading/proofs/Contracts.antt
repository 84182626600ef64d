-- The contracts of reading themselves: every input is taken, each allows one answer and one content of the lent book, and a refused step leaves the book. Assumes nothing.
use Prim.Native.Nat.{ℕ}
use mathlib.Core.Path.{◌≡◌, refl, sym, ◌∙◌}
use mathlib.Core.List.{List}
use Rattle.octets.specs.OfContracts.{Settled, SettledLent}
use Rattle.octets.proofs.Alike.{◌also◌, put_back, as_it_was}
use Rattle.elements.specs.Steps.{step_at, octets_left}
use Rattle.elements.specs.Answers.{tells}
use Rattle.elements.specs.declared.Step.{Step}
use Rattle.octets.specs.Refusals.{Refusal}
use Rattle.std.specs.Prelude.{Result}
use Rattle.reading.specs.Answers.{Refuses}
use Rattle.reading.proofs.header as header
use Rattle.reading.proofs.step as step
use Rattle.reading.proofs.whole as whole

pub record Contracts : Type 0 where
  pub of_header : Settled header.Kinds.ps header.Kinds.r header.Reads.Pre header.Reads.Post
  pub of_step : SettledLent step.Kinds.ps step.Kinds.r (λ κs s. s) (λ κs. Refuses) step.Reads.Pre step.Reads.Post
  pub of_whole : Settled whole.Kinds.ps whole.Kinds.r whole.Reads.Pre whole.Reads.Post

kept : (s : List ℕ) (at rows : ℕ) (o : List ℕ) (used : ℕ) (x : Result Step Refusal) → x ≡ tells (step_at s at rows o used) → Refuses x → octets_left o (step_at s at rows o used) ≡ o
kept s at rows o used = as_it_was tells Refuses (λ st next z. z) (octets_left o) o (λ n p. refl) (step_at s at rows o used)

pub contracts : Contracts
contracts =
    record {
      of_header = (λ κs a. tt, λ κs a p x y u v e f. (e ∙ sym f, refl));
      of_step = (
        λ κs a. tt,
        λ κs a p x y u v e f. (e.0 ∙ sym f.0, refl also refl also refl also (e.1 ∙ sym f.1) also refl),
        λ κs a p x u e h. refl also refl also refl also put_back (e.1 ∙ kept _ _ _ _ _ x e.0 h) also refl,
      );
      of_whole = (λ κs a. tt, λ κs a p x y u v e f. (e ∙ sym f, refl));
    }
