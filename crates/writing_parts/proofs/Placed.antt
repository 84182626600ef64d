-- A fault that the code puts at a place: what comes out by what went in. Assumes nothing.
use Prim.Native.Nat.{ℕ}
use mathlib.Core.Path.{◌≡◌, refl, sym, ap, ◌∙◌}
use native.Mathlib.Omega.{arith}
use Rattle.std.specs.Prelude.{Result, Ok, Err}
use Rattle.std.specs.Result.{MatchResult, IsErrAnd}
use Rattle.octets.specs.Faults.{number_of}
use Rattle.octets.specs.declared.Fault.{Fault}
use Rattle.octets.specs.declared.Refused.{Refused}

abbrev pub Placed : {A : Type 0} → ℕ → Result A Fault → Result A Refused → Type 0
Placed {A} p r m = MatchResult r (λ (x : A). m ≡ Ok x) (λ (f : Fault). IsErrAnd m (λ (q : Refused). q ≡ record { number = number_of f; place = p }))

pub placed_err : {A : Type 0} (p : ℕ) (r : Result A Fault) {m : Result A Refused} {q : Refused} → Placed p r m → m ≡ Err q
    → (f : Fault) × (r ≡ Err f) × (q ≡ record { number = number_of f; place = p })
placed_err p (Ok x) t e = absurd (let z : ◌≡◌ {A = ℕ} 0 1 = cc in omega arith)
placed_err p (Err f) {m = Ok x} t e = absurd t
placed_err p (Err f) {m = Err k} {q = q} t e = let same : k ≡ q = cc in (f, refl, sym same ∙ t)

pub placed_ok : {A : Type 0} (p : ℕ) (r : Result A Fault) {m : Result A Refused} {x : A} → Placed p r m → m ≡ Ok x → r ≡ Ok x
placed_ok {A} p (Ok y) {x = x} t e = let same : ◌≡◌ {A = Result A Refused} (Ok y) (Ok x) = cc in let z : y ≡ x = cc in ap Ok z
placed_ok p (Err f) {m = Ok y} t e = absurd t
placed_ok p (Err f) {m = Err k} t e = absurd (let z : ◌≡◌ {A = ℕ} 0 1 = cc in omega arith)
