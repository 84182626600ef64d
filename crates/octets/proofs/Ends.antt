-- The equations of reading that a function answering places cites: accepted, cut short, or over a limit.
-- Each is its definition at one outcome of its tests; `on`, `stop` and `made` carry an end through what follows a field.
use Prim.Native.Nat.{ℕ, zero, suc, ◌+◌, ◌-◌, ◌≤◌, ◌<◌}
use mathlib.Core.Path.{◌≡◌, refl, ap, ◌∙◌, sym}
use mathlib.Core.List.{List}
use mathlib.Core.Bool.{Bool, true, false}
use lib.ListN.{length}
use lib.Dec.{leb, eqb}
use borrow.Author.Tests.{le-leb, lt-leb, leb-true, eq-eqb, ne_eqb}
use native.Mathlib.Omega.{arith}
use Rattle.octets.specs.Reading.{Read, ok, no, ◌then◌, choose, ends, is_ok, be, reach, overrun, number_in, number, count, exactly, run}
use Rattle.octets.specs.Answers.{says, Within}
use Rattle.octets.specs.declared.Room.{Room}
use Rattle.octets.specs.declared.Room.TheVariants.{Document, Stated}
use Rattle.octets.specs.declared.Refused.{Refused}
use Rattle.std.specs.Prelude.{Result, Ok, Err}

-- What follows a reading goes by the place behind it, where the place alone is asked.
pub on : {A B : Type 0} (r : Read A) (f : A → ℕ → Read B) (g : ℕ → Read ℕ) (n : ℕ) → ((a : A) (m : ℕ) → ends (f a m) ≡ g m)
    → ends r ≡ ok n n → ends (r then f) ≡ g n
on (ok a m) f g n h e = let q : m ≡ n = cc in h a m ∙ ap g q
on (no k p) f g n h e = absurd (let z : ◌≡◌ {A = ℕ} 0 1 = cc in omega arith)

pub stop : {A B : Type 0} (r : Read A) (f : A → ℕ → Read B) (k p : ℕ) → ends r ≡ no k p → ends (r then f) ≡ no k p
stop (no j q) f k p e = e
stop (ok a m) f k p e = absurd (let z : ◌≡◌ {A = ℕ} 0 1 = cc in omega arith)

-- A reading whose value is made into another.
pub made : {A B : Type 0} (r : Read A) (h : A → B) → ends (r then λ a end. ok (h a) end) ≡ ends r
made (ok a m) h = refl
made (no k p) h = refl

-- An end that is known says that there is a value, and a refusal that there is none.
pub ended : {A : Type 0} (r : Read A) (n : ℕ) → ends r ≡ ok n n → (a : A) × (r ≡ ok a n)
ended (ok a m) n e = let q : m ≡ n = cc in (a, ap (ok a) q)
ended (no k p) n e = absurd (let z : ◌≡◌ {A = ℕ} 0 1 = cc in omega arith)

pub refused : {A : Type 0} (r : Read A) (k p : ℕ) → ends r ≡ no k p → r ≡ no k p
refused (no j q) k p e = let a : j ≡ k = cc in let b : q ≡ p = cc in cc
refused (ok a m) k p e = absurd (let z : ◌≡◌ {A = ℕ} 0 1 = cc in omega arith)

-- Whether a reading is accepted shows in its end.
pub ends_ok : {A : Type 0} (r : Read A) → is_ok (ends r) ≡ is_ok r
ends_ok (ok a n) = refl
ends_ok (no n p) = refl

pub ok_alike : {A B : Type 0} (r : Read A) (q : Read B) → ends r ≡ ends q → is_ok r ≡ is_ok q
ok_alike r q e = sym (ends_ok r) ∙ (ap is_ok e ∙ ends_ok q)

-- The first part of what is accepted is accepted, and so is a test on the way; where the first part is refused all is.
pub first_ok : {A B : Type 0} (r : Read A) (f : A → ℕ → Read B) → is_ok (r then f) ≡ true → is_ok r ≡ true
first_ok (ok a n) f t = refl
first_ok (no n p) f t = t

pub first_no : {A B : Type 0} (r : Read A) (f : A → ℕ → Read B) → is_ok r ≡ false → is_ok (r then f) ≡ false
first_no (ok a n) f t = absurd (let z : ◌≡◌ {A = ℕ} 0 1 = cc in omega arith)
first_no (no n p) f t = t

pub chosen_ok : {A : Type 0} (b : Bool) (x : Unit {0} → Read A) (n p : ℕ) → is_ok (choose b x (λ _. no n p)) ≡ true → b ≡ true
chosen_ok true x n p t = refl
chosen_ok false x n p t = t

-- What passes a room's end is refused, whatever follows and whatever is asked of it.
pub overrun_then : {A B : Type 0} (room : Room) (at : ℕ) (f : A → ℕ → Read B) → (overrun room at then f) ≡ overrun room at
overrun_then Document at f = refl
overrun_then (Stated end p) at f = refl

pub overrun_ends : (A : Type 0) (room : Room) (at : ℕ) → ends (overrun {A = A} room at) ≡ overrun room at
overrun_ends A Document at = refl
overrun_ends A (Stated end p) at = refl

pub overrun_no : {A : Type 0} (r : Read A) (room : Room) (at : ℕ) → ends r ≡ overrun room at → is_ok r ≡ false
overrun_no r Document at e = sym (ends_ok r) ∙ ap is_ok e
overrun_no r (Stated end p) at e = sym (ends_ok r) ∙ ap is_ok e

never : (A : Type 0) (room : Room) (at : ℕ) → is_ok (overrun {A = A} room at) ≡ true → ⊥
never A Document at t = let z : ◌≡◌ {A = ℕ} 0 1 = cc in omega arith
never A (Stated end p) at t = let z : ◌≡◌ {A = ℕ} 0 1 = cc in omega arith

-- An answer that says so is a refusal, and no end.
pub overrun_within : (x : Result ℕ Refused) (room : Room) (p at end : ℕ) → says x ≡ overrun room p → Within at x end
overrun_within (Err r) room p at end e = tt
overrun_within (Ok q) Document p at end e = absurd (let z : ◌≡◌ {A = ℕ} 0 1 = cc in omega arith)
overrun_within (Ok q) (Stated end' l) p at end e = absurd (let z : ◌≡◌ {A = ℕ} 0 1 = cc in omega arith)

-- Numbers, once over the room.
module _ (room : Room) (s : List ℕ) (at : ℕ) where
  pub number_in_lem : (w : ℕ) → at + w ≤ reach room s → number_in room w s at ≡ ok (be w s at) (at + w)
  unfolding number_in
  number_in_lem w h = rw (le-leb (at + w) (reach room s) h) refl

  pub number_over : (w : ℕ) → reach room s < at + w → number_in room w s at ≡ overrun room at
  unfolding number_in
  number_over w h = rw (lt-leb (at + w) (reach room s) h) refl

  -- A number that ends somewhere is there, and ends behind its octets.
  pub number_ended : (w p : ℕ) → ends (number_in room w s at) ≡ ok p p → (at + w ≤ reach room s) × (p ≡ at + w)
  unfolding number_in
  number_ended w p e = go (leb (at + w) (reach room s)) refl e
    where
      go : (b : Bool) → leb (at + w) (reach room s) ≡ b → ends (choose b (λ _. ok (be w s at) (at + w)) (λ _. overrun room at)) ≡ ok p p → (at + w ≤ reach room s) × (p ≡ at + w)
      go true t e = (leb-true (at + w) (reach room s) t, (let q : at + w ≡ p = cc in sym q))
      go false t e = absurd (never ℕ room at (sym (ends_ok (overrun room at)) ∙ ap is_ok e))

-- What a room accepts, each that reaches as far does.
module _ (s : List ℕ) (at : ℕ) (r q : Room) (far : reach r s ≤ reach q s) where
  pub number_carries : (w : ℕ) {n m : ℕ} → number_in r w s at ≡ ok n m → number_in q w s at ≡ ok n m
  number_carries w e =
      let h = (number_ended r s at w _ (ap ends e)).0 in
      number_in_lem q s at w (omega (arith, far)) ∙ (sym (number_in_lem r s at w h) ∙ e)

module _ (s : List ℕ) (at : ℕ) where
  pub number_ok : (w : ℕ) → at + w ≤ length s → number w s at ≡ ok (be w s at) (at + w)
  number_ok w h = number_in_lem Document s at w h

  pub number_no : (w : ℕ) → length s < at + w → number w s at ≡ no 1 at
  number_no w h = number_over Document s at w h

  pub count_ok : (most : ℕ) → at + 4 ≤ length s → be 4 s at ≤ most → count most s at ≡ ok (be 4 s at) (at + 4)
  unfolding count
  count_ok most h g = rw (number_ok 4 h, le-leb (be 4 s at) most g) refl

  pub count_no : (most : ℕ) → length s < at + 4 → count most s at ≡ no 1 at
  unfolding count
  count_no most h = rw (number_no 4 h) refl

  pub count_over : (most : ℕ) → at + 4 ≤ length s → most < be 4 s at → count most s at ≡ no 4 at
  unfolding count
  count_over most h g = rw (number_ok 4 h, lt-leb (be 4 s at) most g) refl

  pub exactly_ok : (n refusal : ℕ) → at + 4 ≤ length s → be 4 s at ≡ n → exactly n refusal s at ≡ ok (be 4 s at) (at + 4)
  unfolding exactly
  exactly_ok n refusal h g = rw (number_ok 4 h, eq-eqb (be 4 s at) n g) refl

  pub exactly_no : (n refusal : ℕ) → length s < at + 4 → exactly n refusal s at ≡ no 1 at
  unfolding exactly
  exactly_no n refusal h = rw (number_no 4 h) refl

  pub exactly_other : (n refusal : ℕ) → at + 4 ≤ length s → (be 4 s at ≡ n → ⊥) → exactly n refusal s at ≡ no refusal at
  unfolding exactly
  exactly_other n refusal h g = rw (number_ok 4 h, ne_eqb (be 4 s at) n g) refl

  -- What an accepted field tells of the octets.
  pub number_room : (w : ℕ) → is_ok (number w s at) ≡ true → at + w ≤ length s
  unfolding number_in
  number_room w t = leb-true (at + w) (length s) (chosen_ok (leb (at + w) (length s)) (λ _. ok (be w s at) (at + w)) 1 at t)

  pub count_room : (most : ℕ) → is_ok (count most s at) ≡ true → (at + 4 ≤ length s) × (be 4 s at ≤ most)
  unfolding count
  count_room most t =
      let h = number_room 4 (first_ok (number 4 s at) _ t) in
      (h, leb-true (be 4 s at) most (chosen_ok (leb (be 4 s at) most) _ 4 at (rw (number_ok 4 h) at t)))

-- A run goes on behind its first.
module _ {A : Type 0} (f : ℕ → Read A) (at : ℕ) where
  pub run_on : (k next : ℕ) → ends (f at) ≡ ok next next → ends (run f (suc k) at) ≡ ends (run f k next)
  unfolding run
  run_on k next e = on (f at) _ (λ m. ends (run f k m)) next (λ a m. made (run f k m) _) e

  pub run_stop : (k n p : ℕ) → ends (f at) ≡ no n p → ends (run f (suc k) at) ≡ no n p
  unfolding run
  run_stop k n p e = stop (f at) _ n p e

  pub run_none : ends (run f zero at) ≡ ok at at
  unfolding run
  run_none = refl

  pub run_first : (k : ℕ) → is_ok (run f (suc k) at) ≡ true → is_ok (f at) ≡ true
  unfolding run
  run_first k t = first_ok (f at) _ t

-- A run ends where the ends of its things do.
module _ {A : Type 0} (f : ℕ → Read A) where
  abbrev Alike : ℕ → ℕ → Type 0
  Alike k at = ends (run f k at) ≡ ends (run (λ p. ends (f p)) k at)

  next_alike : (k at : ℕ) → ((m : ℕ) → Alike k m) → (r : Read A) → f at ≡ r → Alike (suc k) at
  next_alike k at again (ok a m) e = run_on f at k m (ap ends e) ∙ (again m ∙ sym (run_on (λ p. ends (f p)) at k m (ap (λ (r : Read A). ends (ends r)) e)))
  next_alike k at again (no n q) e = run_stop f at k n q (ap ends e) ∙ sym (run_stop (λ p. ends (f p)) at k n q (ap (λ (r : Read A). ends (ends r)) e))

  pub run_ends : (k at : ℕ) → Alike k at
  run_ends zero at = run_none f at ∙ sym (run_none (λ p. ends (f p)) at)
  run_ends (suc k) at = next_alike k at (run_ends k) (f at) refl

-- What is behind a place is behind each before it.
pub behind : (at mid : ℕ) (r : Result ℕ Refused) (n : ℕ) → at ≤ mid → Within mid r n → Within at r n
behind at mid (Ok p) n h w = (omega arith, w.1)
behind at mid (Err r) n h w = tt

-- What is left of a count, as one more than what is left behind the next.
pub left_suc : (n i : ℕ) → i < n → n - i ≡ suc (n - (i + 1))
left_suc n i h = omega arith

pub none_left : (n i : ℕ) → n ≤ i → n - i ≡ 0
none_left n i h = omega arith

pub sub_none : (n : ℕ) → n ≡ n - 0
sub_none n = omega arith

-- A refusal of two fields is that of whatever follows them.
pub stop_both : {A B C : Type 0} (r : Read A) (f : A → ℕ → Read B) (g : A → ℕ → B → ℕ → Read C) (n p : ℕ) → ends (r then f) ≡ no n p
    → (r then λ a m. f a m then g a m) ≡ no n p
stop_both (ok a m) f g n p e = rw (refused (f a m) n p e) refl
stop_both (no k q) f g n p e = refused (no k q) n p e

-- A count that was read, and a number that had to be one.
pub count_is : (s : List ℕ) (at most k next : ℕ) → count most s at ≡ ok k next → (k ≤ most) × (next ≡ at + 4) × (number 4 s at ≡ ok k (at + 4))
count_is s at most k next e =
    let (h, g) = count_room s at most (ap is_ok e) in
    let f = count_ok s at most h g in
    let q : be 4 s at ≡ k = cc in
    let place : at + 4 ≡ next = cc in
    (omega arith, sym place, number_ok s at 4 h ∙ ap (λ (n : ℕ). ok n (at + 4)) q)

pub exactly_place : (s : List ℕ) (at n refusal m next : ℕ) → exactly n refusal s at ≡ ok m next → next ≡ at + 4
unfolding exactly
exactly_place s at n refusal m next e =
    let h = number_room s at 4 (first_ok (number 4 s at) _ (ap is_ok e)) in
    go (eqb (be 4 s at) n) (rw (number_ok s at 4 h) at e)
  where
    go : (t : Bool) → choose t (λ _. ok (be 4 s at) (at + 4)) (λ _. no refusal at) ≡ ok m next → next ≡ at + 4
    go true e = let q : at + 4 ≡ next = cc in sym q
    go false e = absurd (let z : ◌≡◌ {A = ℕ} 0 1 = cc in omega arith)

pub number_place : (w : ℕ) (s : List ℕ) (at n next : ℕ) → number w s at ≡ ok n next → next ≡ at + w
number_place w s at n next e =
    let f = number_ok s at w (number_room s at w (ap is_ok e)) in
    let q : at + w ≡ next = cc in
    sym q

-- The value of a reading that is accepted, and the place behind it.
pub value_is : {A : Type 0} (r : Read A) → is_ok r ≡ true → (a : A) × (next : ℕ) × (r ≡ ok a next)
value_is (ok a next) t = (a, next, refl)
value_is (no n p) t = absurd (let z : ◌≡◌ {A = ℕ} 0 1 = cc in omega arith)

-- A reading that is accepted ends at one place.
pub one_end : {A : Type 0} (r : Read A) {a : A} {n m : ℕ} → r ≡ ok a n → ends r ≡ ok m m → m ≡ n
one_end r e f = cc (ap ends e, f)
