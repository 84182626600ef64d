-- What is said of a function's contract itself, of what it requires and what it ensures, whatever the parameters and the result are.
use Rattle.std.specs.Prelude.{ℕ, ◌≡◌, List}
use contract.Lifetimes.{Lfts}
use borrow.Fn.Kinds.{ParamKind, ResultKind, Dens, res_t, ended_of, In, Out}
use denote.Triple.Clauses.{Lasts, AtExit, at_exit}

module _ {n : ℕ} (ps : List (ParamKind n)) (r : ResultKind n) where
  -- Every input is taken.
  abbrev pub Takes : In n ps → Type 0
  Takes pre = (κs : Lfts n) (a : Dens κs ps) → pre κs a

  -- For each input that is taken, one answer, as far as it is seen, and one final content of every lent buffer are allowed.
  abbrev pub OnceSeen : {A : Lfts n → Type 0} → ((κs : Lfts n) → (res_t r κs).Denot → A κs) → In n ps → Out n ps r → Type 0
  OnceSeen see pre post =
      (κs : Lfts n) (a : Dens κs ps) → pre κs a → (x y : (res_t r κs).Denot) (u v : Lasts (ended_of n ps r) κs a)
      → post κs a x (at_exit (ended_of n ps r) κs a u) → post κs a y (at_exit (ended_of n ps r) κs a v) → (see κs x ≡ see κs y) × (u ≡ v)

  -- The answer is seen as it is.
  abbrev pub Once : In n ps → Out n ps r → Type 0
  Once pre post = OnceSeen (λ κs x. x) pre post

  -- Where the answer is a refusal, the arguments at exit, with the content of every lent buffer, are those that were passed. The first function reads what stands at exit as arguments: it is `λ κs s. s`.
  abbrev pub Leaves : ((κs : Lfts n) → AtExit (ended_of n ps r) κs → Dens κs ps) → ((κs : Lfts n) → (res_t r κs).Denot → Type 0) → In n ps → Out n ps r → Type 0
  Leaves left refused pre post =
      (κs : Lfts n) (a : Dens κs ps) → pre κs a → (x : (res_t r κs).Denot) (u : Lasts (ended_of n ps r) κs a)
      → post κs a x (at_exit (ended_of n ps r) κs a u) → refused κs x → left κs (at_exit (ended_of n ps r) κs a u) ≡ a

  -- What is promised of an entry point: every input is taken, and for each one answer is allowed.
  abbrev pub SettledSeen : {A : Lfts n → Type 0} → ((κs : Lfts n) → (res_t r κs).Denot → A κs) → In n ps → Out n ps r → Type 0
  SettledSeen see pre post = Takes pre × OnceSeen see pre post

  abbrev pub Settled : In n ps → Out n ps r → Type 0
  Settled pre post = Takes pre × Once pre post

  -- The same of one to which buffers are lent to be changed: one final content too, and after a refusal that at entry.
  abbrev pub SettledLent : ((κs : Lfts n) → AtExit (ended_of n ps r) κs → Dens κs ps) → ((κs : Lfts n) → (res_t r κs).Denot → Type 0) → In n ps → Out n ps r → Type 0
  SettledLent left refused pre post = Takes pre × Once pre post × Leaves left refused pre post
