-- How a walk goes on is settled by where it is: every item of a stretch is a row, and one that stops before its last stops where no row stands that its layout's plan passes.
use Prim.Native.Nat.{ℕ, ◌+◌, ◌-◌, ◌≤◌, ◌<◌}
use mathlib.Core.Path.{◌≡◌, refl, sym, ap, ◌∙◌, subst}
use mathlib.Core.List.{List, [], ◌∷◌}
use mathlib.Core.Logic.{◌⊎◌, inl, inr}
use native.Mathlib.Omega.{arith}
use lib.ListN.{length}
use Rattle.std.specs.Prelude.{Result, Ok, Err}
use Rattle.octets.specs.declared.Refused.{Refused}
use Rattle.octets.specs.Reading.{is_ok}
use Rattle.octets.specs.Writing.{Each}
use Rattle.layouts.specs.Book.{Book}
use Rattle.layouts.proofs.Positions.{position_found}
use Rattle.rows.proofs.Named.{row_says_lem}
use Rattle.elements.specs.Element.{item}
use Rattle.elements.specs.Walk.{Seen, Path, number_of, Spot, spot_at, turn_at}
use Rattle.elements.proofs.Behind.{few_rows}
use Rattle.elements.proofs.Turns.{TookRow, took_row}
use Rattle.elements.proofs.Through.{rows_few, path_rows}
use Rattle.elements.proofs.Growth.{turn_in_book}
use Rattle.walks.specs.Kept.{Numbered}
use Rattle.walks.specs.Rows.{words_by, laid, Refuses, HasPlan, Strides}
use Rattle.walks.specs.Answers.{ByTurn, GoesOn}
use Rattle.walks.specs.declared.Known.{Known}
use Rattle.walks.specs.declared.Moved.{Moved}
use Rattle.walks.specs.declared.Moved.TheVariants as moved
use Rattle.walks.proofs.Rows.{passage_none}

module _ (s : List ℕ) (known : Known) (book : Book) (k : Numbered known book) where
  -- Rows with plans one behind another, so many at most or to where no such row stands.
  record Goes (at rows most : ℕ) (ps : List Seen) (next : ℕ) : Type 0 where
    path : Path (turn_at s) (spot_at at rows book) ps (spot_at next (rows + length ps) book)
    plans : Each (HasPlan known.numbers) ps
    few : length ps ≤ most
    stops : length ps < most → Refuses s next book known

  module _ {at rows most next : ℕ} {p : Seen} {ps : List Seen} (g : Goes at rows most (p ∷ ps) next) where
    first : TookRow s at rows book p g.path.0
    first =
        let one = few_rows (item p.which) in
        let all = path_rows s (p ∷ ps) (spot_at at rows book) (spot_at next (rows + length (p ∷ ps)) book) g.path in
        took_row s at rows book p g.path.0 (omega (arith, rows_few ps)) g.path.1

    rest : Goes p.next (rows + 1) (most - 1) ps next
    rest =
        let sum : rows + length (p ∷ ps) ≡ rows + 1 + length ps = omega arith in
        record {
          path =
              subst (λ (m : ℕ). Path (turn_at s) (spot_at p.next (rows + 1) book) ps (spot_at next m book)) sum
              (subst (λ (y : Spot). Path (turn_at s) y ps (spot_at next (rows + length (p ∷ ps)) book)) first.spot g.path.2);
          plans = g.plans.1;
          few = omega (arith, g.few);
          stops = λ h. g.stops (omega arith);
        }

    -- No stretch stops before it.
    goes_on : {end : ℕ} → Goes at rows most [] end → ⊥
    goes_on {end} h =
        let r = first in
        let here : end ≡ at = ap (λ (y : Spot). y.at) (sym h.path) in
        let has = turn_in_book s (spot_at at rows book) g.path.0 p g.path.1 in
        let below = (position_found (number_of p.which) g.path.0.book has.layout has.found).0 in
        let size = ap (λ (y : Spot). length y.book) r.spot in
        let no_row = subst (λ (m : ℕ). Refuses s m book known) here (h.stops (omega (arith, g.few))) in
        let plan = g.plans.0 ∙ (ap number_of r.is ∙ (row_says_lem s (at + 4) r.read p.next book r.reads).number) in
        let refused = no_row p.position (omega (arith, has.index, k.count)) plan r.kind in
        let read = ap is_ok r.reads in
        let z : ◌≡◌ {A = ℕ} 0 1 = cc in
        omega arith

  once : (ps qs : List Seen) (at rows most next end : ℕ) → Goes at rows most ps next → Goes at rows most qs end → (ps ≡ qs) × (next ≡ end)
  once [] [] at rows most next end g h = (refl, ap (λ (y : Spot). y.at) (sym g.path ∙ h.path))
  once [] (q ∷ qs) at rows most next end g h = absurd (goes_on h g)
  once (p ∷ ps) [] at rows most next end g h = absurd (goes_on g h)
  once (p ∷ ps) (q ∷ qs) at rows most next end g h =
      let turn = sym g.path.1 ∙ h.path.1 in
      let same : p ≡ q = cc in
      let (seen, place) = once ps qs p.next (rows + 1) (most - 1) next end (rest g) (subst (λ (x : Seen). Goes x.next (rows + 1) (most - 1) qs end) (sym same) (rest h)) in
      (rw (same, seen) refl, place)

  -- So two answers are one, and so are the words that they put.
  module _ (labels : List ℕ) (most : ℕ) (entry : List ℕ) (at rows : ℕ) where
    abbrev Says : List ℕ → ℕ → ℕ → Type 0
    Says exit next count = Strides s (spot_at at rows book) known labels most entry exit next count

    goes_by : {exit : List ℕ} {next count : ℕ} (e : Says exit next count) → Goes at rows most e.passage.seen next
    goes_by e = let p = e.passage in record { path = p.path; plans = p.planned; few = omega (arith, p.is_count, e.few); stops = λ h. e.stops (omega (arith, p.is_count)) }

    pub strides_once : {u v : List ℕ} {next end count more : ℕ} → Says u next count → Says v end more → (next ≡ end) × (count ≡ more) × (u ≡ v)
    strides_once e f =
        let p = e.passage in
        let q = f.passage in
        let (seen, place) = once p.seen q.seen at rows most _ _ (goes_by e) (goes_by f) in (
          place,
          sym p.is_count ∙ (ap (λ (ps : List Seen). length ps) seen ∙ q.is_count),
          p.put ∙ (ap (λ (ps : List Seen). laid 0 (words_by labels ps) entry) seen ∙ sym q.put),
        )

    -- How it went on: over rows, or by a turn, and then over none.
    abbrev Over : List ℕ → Result Moved Refused → Type 0
    Over exit r = (next : ℕ) × (count : ℕ) × (r ≡ Ok (moved.Rows next count)) × (0 < count) × Says exit next count

    abbrev Turned : List ℕ → Result Moved Refused → Type 0
    Turned exit r = ByTurn s (spot_at at rows book) known most entry exit r

    abbrev On : List ℕ → Result Moved Refused → Type 0
    On exit r = GoesOn s (spot_at at rows book) known labels most entry exit r

    either : {exit : List ℕ} (r : Result Moved Refused) → On exit r → Over exit r ⊎ Turned exit r
    either (Ok (moved.Rows next count)) (some, e) = inl (next, count, refl, some, e)
    either (Ok (moved.Item g)) e = inr e
    either (Ok (moved.End n t next)) e = inr e
    either (Err p) e = inr e

    not_both : {u v : List ℕ} {r t : Result Moved Refused} → at ≤ length s → Over u r → Turned v t → ⊥
    not_both inside (next, count, _, some, e) t =
        let none : Says entry at 0 = record { passage = passage_none s at rows book known labels entry; inside = inside; few = omega arith; stops = t.stops } in
        let same = (strides_once e none).1 in
        omega arith

    pub goes_on_once : at ≤ length s → (r t : Result Moved Refused) {u v : List ℕ} → On u r → On v t → (r ≡ t) × (u ≡ v)
    goes_on_once inside r t {u} {v} e f = go (either r e) (either t f)
      where
        go : Over u r ⊎ Turned u r → Over v t ⊎ Turned v t → (r ≡ t) × (u ≡ v)
        go (inl (next, count, is, _, d)) (inl (end, more, is₁, _, g)) =
            let (place, number, words) = strides_once d g in
            (is ∙ ((λ i. Ok (moved.Rows (place i) (number i))) ∙ sym is₁), words)
        go (inl d) (inr g) = absurd (not_both inside d g)
        go (inr d) (inl g) = absurd (not_both inside g d)
        go (inr d) (inr g) = (d.is ∙ sym g.is, d.kept ∙ sym g.kept)
