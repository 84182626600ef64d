-- A refusal as a clause sees it.
use Rattle.std.specs.Prelude.{ℕ}

pub record Refusal : Type 0 where
  pub number : ℕ
  pub place : ℕ
