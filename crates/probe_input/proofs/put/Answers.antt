-- `probe_input::put` meets its contract. Past the end a store changes nothing. Assumes nothing.
use Rattle.std.proofs.Common.{◌≡◌, ℕ, suc, ◌+◌, ◌≤◌, List, [], ◌∷◌, ◌++◌, length, get_or, take, drop, set, sym, refl, ap, ◌∙◌, arith, length-set, take-append-drop, length-take-le, take-suc}
use lib.Seq.{sets, length-sets, set_out}
use Rattle.probe_input.proofs.put.Goals as goal

sets_both : (l : List ℕ) (i : ℕ) (vs ws : List ℕ) → sets l i (vs ++ ws) ≡ sets (sets l i vs) (i + length vs) ws
sets_both l i [] ws = ap (λ (k : ℕ). sets l k ws) (let none : i ≡ i + 0 = omega arith in none)
sets_both l i (v ∷ vs) ws = sets_both (set l i v) (suc i) vs ws ∙ ap (λ (k : ℕ). sets (sets (set l i v) (suc i) vs) k ws) (let one : suc i + length vs ≡ i + length (v ∷ vs) = omega arith in one)

sets_out : (l : List ℕ) (i : ℕ) (vs : List ℕ) → length l ≤ i → sets l i vs ≡ l
sets_out l i [] h = refl
sets_out l i (v ∷ vs) h = sets_out (set l i v) (suc i) vs (omega (arith, length-set l i v)) ∙ set_out l i v h

-- Octets that begin where the list ends, or behind it.
cut : (l : List ℕ) (i n : ℕ) (xs : List ℕ) → n ≤ length xs → length l ≤ i + n → sets l i (take n xs) ≡ sets l i xs
cut l i n xs h far =
    sym (ap (sets l i) (sym (take-append-drop n xs)) ∙ (sets_both l i (take n xs) (drop n xs) ∙ sets_out (sets l i (take n xs)) (i + length (take n xs)) (drop n xs) (omega (arith, length-sets l i (take n xs), length-take-le n xs h))))

-- Where the slice ends, nothing more is put.
pub returns-then-to-at : goal.returns-then-to-at
returns-then-to-at c =
    let l = c.loop-i in
    let a = c.args in
    l.invariant.2 ∙ cut a.to.now a.at l.i a.xs.now l.invariant.1 (omega (arith, l.invariant.0, c.if-to-at.true))

pub returns-then-to-at-2 : goal.returns-then-to-at-2
returns-then-to-at-2 c =
    let l = c.loop-i in
    let a = c.args in
    l.invariant.2 ∙ cut a.to.now a.at l.i a.xs.now l.invariant.1 (omega (arith, l.invariant.0, c.if-to-at.false, c.if-to-at-2.true))

pub loop-i-preserved : goal.loop-i-preserved
loop-i-preserved c =
    let l = c.loop-i in
    let a = c.args in
    let xs = a.xs.now in
    let more = c.loop-i-test.true in
    let one : l.i + 1 ≡ suc l.i = omega arith in
    let here : a.at + l.i ≡ a.at + length (take l.i xs) = omega (arith, length-take-le l.i xs l.invariant.1) in (
      length-set l.to (a.at + l.i) (get_or xs l.i 0) ∙ l.invariant.0,
      omega (arith, more),
      ap (λ (ys : List ℕ). set ys (a.at + l.i) (get_or xs l.i 0)) l.invariant.2
          ∙ (ap (λ (k : ℕ). set (sets a.to.now a.at (take l.i xs)) k (get_or xs l.i 0)) here
          ∙ (sym (sets_both a.to.now a.at (take l.i xs) (get_or xs l.i 0 ∷ [])) ∙ ap (sets a.to.now a.at) (sym (ap (λ (k : ℕ). take k xs) one ∙ take-suc xs l.i 0 more)))),
    )
