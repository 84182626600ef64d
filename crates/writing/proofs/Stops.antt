-- A call that stops at a fault, which the code puts at a place: it leaves what the fault by its number leaves. Assumes nothing.
use Prim.Native.Nat.{ℕ}
use mathlib.Core.Path.{◌≡◌, ap, ◌∙◌}
use mathlib.Core.List.{List}
use Rattle.std.specs.Prelude.{Result, Err}
use Rattle.octets.specs.Faults.{number_of}
use Rattle.octets.specs.declared.Fault.{Fault}
use Rattle.octets.specs.declared.Refused.{Refused}
use Rattle.writing_parts.specs.Faults as faults
use Rattle.writing_parts.specs.Faults.{faulted}
use Rattle.writing_parts.proofs.Placed.{Placed, placed_err}
use Rattle.writer.specs.declared.Standing.{Standing}
use Rattle.writer.specs.Answers.{Left, left, refused}

pub stops : (b l : List ℕ) (p : ℕ) (r : Result (Unit {0}) Fault) {m : Result (Unit {0}) Refused} {q : Refused} {x : Result Standing Refused} {y : Left} → Placed p r m → m ≡ Err q → x ≡ Err q
    → ((n : ℕ) → faulted r ≡ faults.Refused n → left (refused n p) b l ≡ y) → left x b l ≡ y
stops b l p r placed e is first =
    let (f, fault, refusal) = placed_err p r placed e in
    ap (λ (z : Result Standing Refused). left z b l) (is ∙ ap Err refusal) ∙ first (number_of f) (ap faulted fault)
