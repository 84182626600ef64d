-- Calls one after another that are all accepted. Assumes nothing.
use Prim.Native.Nat.{ℕ}
use mathlib.Core.Path.{◌≡◌, refl, ◌∙◌}
use mathlib.Core.List.{List, [], ◌∷◌, ◌++◌}
use Rattle.octets.specs.Reading.{ok}
use Rattle.octets.proofs.Inverse.{after, settle}
use Rattle.writer.specs.Writer.{Call, Written, call, run_calls}

pub record Runs (cs : List Call) (w v : Written) : Type 0 where
  pub runs : run_calls cs w ≡ ok v v.state.place

runs_on : (a b : List Call) (w : Written) {v : Written} {n : ℕ} → run_calls a w ≡ ok v n → run_calls (a ++ b) w ≡ run_calls b v
unfolding run_calls
runs_on [] b w e = settle (λ (x : Written) (_ : ℕ). run_calls b w ≡ run_calls b x) e refl
runs_on (c ∷ a) b w e =
    after (call w.state w.buffer w.book w.used c) _ e λ u m e₁ e₂.
    rw e₁ (runs_on a b u e₂)

pub runs_both : {a b : List Call} {w v u : Written} → Runs a w v → Runs b v u → Runs (a ++ b) w u
runs_both {a} {b} {w} e f = record { runs = runs_on a b w e.runs ∙ f.runs }

pub runs_none : {w : Written} → Runs [] w w
unfolding run_calls
runs_none = record { runs = refl }

pub runs_one : (c : Call) (w : Written) {v : Written} {n : ℕ} → call w.state w.buffer w.book w.used c ≡ ok v n → Runs (c ∷ []) w v
unfolding run_calls
runs_one c w e = record { runs = rw e }
