-- What is handed on of a result: by a `?` the error that it met, by a `map_err` the refusal of a fault at a place.
use Prim.Native.Nat.{ℕ}
use mathlib.Core.Path.{◌≡◌, ap}
use Rattle.std.specs.Prelude.{Result, Ok, Err, MatchResult, IsErrAnd}
use Rattle.octets.specs.Faults.{number_of}
use Rattle.octets.specs.declared.Fault.{Fault}
use Rattle.octets.specs.declared.Refused.{Refused}

pub handed_on : {A E : Type 0} (x : Result A E) (e : E) → IsErrAnd x (λ y. y ≡ e) → x ≡ Err e
handed_on (Ok a) e h = absurd h
handed_on (Err y) e h = ap Err h

abbrev pub refused_at : ℕ → Fault → Refused
refused_at at f = record { number = number_of f; place = at }

abbrev pub placed : {A : Type 0} → ℕ → Result A Fault → Result A Refused
placed at (Ok a) = Ok a
placed at (Err f) = Err (refused_at at f)

-- P is what the closure says of what it makes.
pub placed_is : {A : Type 0} (at : ℕ) (P : Fault → Refused → Type 0) → ((f : Fault) (r : Refused) → P f r → r ≡ refused_at at f)
    → (x : Result A Fault) (y : Result A Refused) → MatchResult x (λ a. y ≡ Ok a) (λ f. IsErrAnd y (P f)) → y ≡ placed at x
placed_is at P is (Ok a) y e = e
placed_is at P is (Err f) (Ok a) e = absurd e
placed_is at P is (Err f) (Err r) e = ap Err (is f r e)
