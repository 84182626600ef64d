-- What the bounds of a state say, test by test, and what a turn is by its place in the order. Assumes nothing.
use mathlib.Core.Path.{◌≡◌, refl, sym, ap, ◌∙◌, subst}
use mathlib.Core.List.{List, [], ◌∷◌}
use mathlib.Core.Bool.{Bool, true, false}
use Prim.Native.Nat.{ℕ, ◌+◌, ◌≤◌, ◌<◌}
use native.Mathlib.Omega.{arith}
use lib.ListN.{get_or}
use lib.Dec.{leb}
use borrow.Author.Tests.{leb-true, eqb-true, ltb-true, ltb-false, le-leb, lt-ltb, le-ltb}
use Rattle.octets.specs.Limits.{most_rows}
use Rattle.octets.specs.Reading.{choose}
use Rattle.octets.proofs.Copies.{both_true}
use Rattle.writer.specs.declared.Wanted.{Wanted}
use Rattle.writer.specs.declared.Wanted.TheVariants as wants
use Rattle.writer.specs.declared.State.{State}
use Rattle.writer.specs.Writer.{room, asks, order_of, same_turn, is_open, bounded}

abbrev turns : List Wanted
turns =
    wants.Recorder ∷ wants.StartTime ∷ wants.DefaultNamespace ∷ wants.NamespaceCount ∷ wants.Uri ∷ wants.ShortName ∷ wants.ServiceCount ∷ wants.Service
    ∷ wants.DocumentId ∷ wants.Element ∷ wants.TypeName ∷ wants.AttributeCount ∷ wants.AttributeName ∷ wants.AttributeType ∷ wants.Value ∷ wants.Nothing ∷ []

order_back : (t : Wanted) → get_or turns (order_of t) wants.Recorder ≡ t
order_back wants.Recorder = refl
order_back wants.StartTime = refl
order_back wants.DefaultNamespace = refl
order_back wants.NamespaceCount = refl
order_back wants.Uri = refl
order_back wants.ShortName = refl
order_back wants.ServiceCount = refl
order_back wants.Service = refl
order_back wants.DocumentId = refl
order_back wants.Element = refl
order_back wants.TypeName = refl
order_back wants.AttributeCount = refl
order_back wants.AttributeName = refl
order_back wants.AttributeType = refl
order_back wants.Value = refl
order_back wants.Nothing = refl

-- Turns of one place in the order are the same.
pub same_turn_lem : (t u : Wanted) → same_turn t u ≡ true → t ≡ u
same_turn_lem t u e =
    sym (order_back t) ∙ (ap (λ (n : ℕ). get_or turns n wants.Recorder) (eqb-true (order_of t) (order_of u) e) ∙ order_back u)

-- A state inside its bounds.
pub record Bounds (s : State) (size : ℕ) : Type 0 where
  pub place : s.place ≤ room size
  pub least : (asks s.turn).least ≤ s.count
  pub most : s.count ≤ (asks s.turn).most
  pub rows : s.rows ≤ most_rows
  pub head : is_open s.turn ≡ true → s.start + (asks s.turn).head ≤ s.place

chosen_true : (t u : Bool) → choose t (λ _. u) (λ _. true) ≡ true → t ≡ true → u ≡ true
chosen_true true u e f = e
chosen_true false u e f = let z : ◌≡◌ {A = ℕ} 0 1 = cc in absurd (omega arith)

pub bounds : (s : State) (size : ℕ) → bounded s size ≡ true → Bounds s size
unfolding bounded
bounds s size e =
    let (e₁, t₁) = both_true _ _ e in
    let (e₂, t₂) = both_true _ _ e₁ in
    let (e₃, t₃) = both_true _ _ e₂ in
    let (t₅, t₄) = both_true _ _ e₃ in
    record {
      place = leb-true _ _ t₅;
      least = leb-true _ _ t₄;
      most = leb-true _ _ t₃;
      rows = leb-true _ _ t₂;
      head = λ o. leb-true _ _ (chosen_true (is_open s.turn) _ t₁ o);
    }

-- Where the tests before it are passed, what is open is left.
module _ (s : State) (size : ℕ) (p : s.place ≤ room size) (l : (asks s.turn).least ≤ s.count) (m : s.count ≤ (asks s.turn).most) (r : s.rows ≤ most_rows) where
  head_left : bounded s size ≡ choose (is_open s.turn) (λ _. leb (s.start + (asks s.turn).head) s.place) (λ _. true)
  unfolding bounded
  head_left =
      rw (
        le-leb s.place (room size) p,
        le-leb (asks s.turn).least s.count l,
        le-leb s.count (asks s.turn).most m,
        le-leb s.rows most_rows r,
      )
      refl

  pub none_open : (asks s.turn).head ≡ 0 → bounded s size ≡ true
  none_open h = head_left ∙ rw (le-ltb 0 (asks s.turn).head (omega arith)) refl

  pub one_open : 0 < (asks s.turn).head → bounded s size ≡ leb (s.start + (asks s.turn).head) s.place
  one_open h = head_left ∙ rw (lt-ltb 0 (asks s.turn).head h) refl

pub bounded_is : (s : State) (size : ℕ) → Bounds s size → bounded s size ≡ true
bounded_is s size b = go (is_open s.turn) refl
  where
    go : (t : Bool) → is_open s.turn ≡ t → bounded s size ≡ true
    go true e = one_open s size b.place b.least b.most b.rows (ltb-true _ _ e) ∙ le-leb _ _ (b.head e)
    go false e = none_open s size b.place b.least b.most b.rows (let none : (asks s.turn).head ≤ 0 = ltb-false 0 (asks s.turn).head e in omega arith)

-- At the turn of a state that is inside its bounds: the count's limits, and the first octets of what is open.
module _ (s : State) (size : ℕ) (w : Bounds s size) (u : Wanted) (e : same_turn s.turn u ≡ true) where
  pub turn_count : ((asks u).least ≤ s.count) × (s.count ≤ (asks u).most)
  turn_count = subst (λ (x : Wanted). ((asks x).least ≤ s.count) × (s.count ≤ (asks x).most)) (same_turn_lem s.turn u e) (w.least, w.most)

  pub open_head : 0 < (asks u).head → s.start + (asks u).head ≤ s.place
  open_head h =
      subst (λ (x : Wanted). is_open x ≡ true → s.start + (asks x).head ≤ s.place) (same_turn_lem s.turn u e) w.head (lt-ltb 0 (asks u).head h)
