-- Characters: what octets open, and what is right behind an octet that was wanted.
use Prim.Native.Nat.{ℕ, zero, suc, ◌+◌, ◌-◌, ◌≤◌, ◌<◌}
use mathlib.Core.Path.{◌≡◌, refl, sym, ap, ◌∙◌, subst}
use mathlib.Core.List.{List, [], ◌∷◌}
use mathlib.Core.Bool.{Bool, true, false}
use mathlib.Core.Option.{Option, some, none}
use native.Mathlib.Numerals.{add-one}
use native.Mathlib.Omega.{arith}
use lib.ListN.{length, get_or}
use lib.Seq.{drop-cons}
use lib.Dec.{leb}
use borrow.Author.Tests.{le-leb, lt-leb, leb-true, leb-false}
use Rattle.octets.specs.Reading.{choose, part}
use Rattle.utf8.specs.Utf8.{Range, within, forms, opens, spells, utf8}
use Rattle.utf8.specs.Answers.{Ascii, Steps, Passes}
use Rattle.std.specs.Prelude as std
use Rattle.std.specs.Prelude.{Some, None}

-- On which side of each line's first range an octet stands. What it opens depends on nothing else.
abbrev pub sides : ℕ → List (List Range) → List Bool
sides x [] = []
sides x ([] ∷ lines) = sides x lines
sides x ((r ∷ rest) ∷ lines) = leb r.first x ∷ leb x r.last ∷ sides x lines

opens_by : (x y : ℕ) (lines : List (List Range)) → sides x lines ≡ sides y lines → opens x lines ≡ opens y lines
unfolding opens
opens_by x y [] e = refl
opens_by x y ([] ∷ lines) e = opens_by x y lines e
opens_by x y ((r ∷ rest) ∷ lines) e =
    let low : leb r.first x ≡ leb r.first y = cc in
    let high : leb x r.last ≡ leb y r.last = cc in
    rw (low, high, opens_by x y lines (let others : sides x lines ≡ sides y lines = cc in others)) refl

-- Octets between two that stand on the same sides do too.
sides_between : (a b x : ℕ) (lines : List (List Range)) → sides a lines ≡ sides b lines → a ≤ x → x ≤ b → sides x lines ≡ sides a lines
sides_between a b x [] e h g = refl
sides_between a b x ([] ∷ lines) e h g = sides_between a b x lines e h g
sides_between a b x ((r ∷ rest) ∷ lines) e h g =
    let low : leb r.first a ≡ leb r.first b = cc in
    let high : leb a r.last ≡ leb b r.last = cc in
    let others : sides a lines ≡ sides b lines = cc in
    rw (above r.first (leb r.first a) refl (sym low), below r.last (leb a r.last) refl (sym high), sides_between a b x lines others h g) refl
  where
    above : (n : ℕ) (t : Bool) → leb n a ≡ t → leb n b ≡ leb n a → leb n x ≡ leb n a
    above n true p q = le-leb n x (let l = leb-true n a p in omega arith) ∙ sym p
    above n false p q = lt-leb n x (let l = leb-false n b (q ∙ p) in omega arith) ∙ sym p

    below : (n : ℕ) (t : Bool) → leb a n ≡ t → leb b n ≡ leb a n → leb x n ≡ leb a n
    below n true p q = le-leb x n (let l = leb-true b n (q ∙ p) in omega arith) ∙ sym p
    below n false p q = lt-leb x n (let l = leb-false a n p in omega arith) ∙ sym p

-- All octets from one to another open what the first of them does.
pub alike : (a b x : ℕ) → sides a forms ≡ sides b forms → a ≤ x → x ≤ b → opens x forms ≡ opens a forms
alike a b x e h g = opens_by x a forms (sides_between a b x forms e h g)

-- So what holds of what the first of them opens holds of what each does.
pub by_line : (P : Option (List Range) → Type 0) (a b x : ℕ) → sides a forms ≡ sides b forms → a ≤ x → x ≤ b → P (opens a forms) → P (opens x forms)
by_line P a b x e h g = subst P (sym (alike a b x e h g))

pub spells_none : (xs : List ℕ) → spells none xs ≡ false
unfolding spells
spells_none [] = refl
spells_none (x ∷ xs) = spells_none xs

-- The first octet is of the range that is wanted, or not.
pub wants : (r : Range) (rest : List Range) (x : ℕ) (xs : List ℕ) (t : Bool) → within r x ≡ t
    → spells (some (r ∷ rest)) (x ∷ xs) ≡ spells (choose t (λ _. some rest) (λ _. none)) xs
unfolding spells
wants r rest x xs t e = ap (λ (b : Bool). spells (choose b (λ _. some rest) (λ _. none)) xs) e

-- The octets from a place to an end: the first of them, and the others.
part_next : (s : List ℕ) (at to : ℕ) → at < to → to ≤ length s → part s at (to - at) ≡ get_or s at 0 ∷ part s (at + 1) (to - (at + 1))
unfolding part
part_next s at to h k =
    let more : to - at ≡ suc (to - (at + 1)) = omega arith in
    rw (more, drop-cons s at 0 (omega arith), add-one at)

part_none : (s : List ℕ) (at to : ℕ) → to ≤ at → part s at (to - at) ≡ []
unfolding part
part_none s at to h = let none : to - at ≡ 0 = omega arith in rw none refl

module _ (s : List ℕ) (at to : ℕ) where
  -- A step, and what is passed behind it.
  module _ (o p : Option (List Range)) {t : Bool} (step : Steps o p s at to t) where
    pub step_inside : t ≡ true → at + 1 ≤ to
    step_inside e = (subst (Steps o p s at to) e step).0

    pub step_pass : t ≡ true → (r : std.Option ℕ) → Passes p s (at + 1) to r → Passes o s at to r
    step_pass e r f = go r f (subst (Steps o p s at to) e step)
      where
        go : (r : std.Option ℕ) → Passes p s (at + 1) to r → Steps o p s at to true → Passes o s at to r
        go (Some next) (past, inside, same) (h, on) = (omega arith, inside, on ∙ same)
        go None same (h, on) = on ∙ same

  pub steps_end : (r : Range) (rest : List Range) → to ≤ at → Steps (some (r ∷ rest)) (some rest) s at to false
  unfolding spells
  steps_end r rest h = ap (spells (some (r ∷ rest))) (part_none s at to h)

  module _ (fits : to ≤ length s) (h : at < to) where
    -- Between two characters an octet says what is wanted behind it.
    pub opened : spells (some []) (part s at (to - at)) ≡ spells (opens (get_or s at 0) forms) (part s (at + 1) (to - (at + 1)))
    unfolding spells
    opened = ap (spells (some [])) (part_next s at to h fits)

    pub steps_within : (r : Range) (rest : List Range) (t : Bool) → within r (get_or s at 0) ≡ t → Steps (some (r ∷ rest)) (some rest) s at to t
    steps_within r rest t e = go t (ap (spells (some (r ∷ rest))) (part_next s at to h fits) ∙ wants r rest (get_or s at 0) (part s (at + 1) (to - (at + 1))) t e)
      where
        go : (t : Bool) → spells (some (r ∷ rest)) (part s at (to - at)) ≡ spells (choose t (λ _. some rest) (λ _. none)) (part s (at + 1) (to - (at + 1)))
            → Steps (some (r ∷ rest)) (some rest) s at to t
        go true f = (omega arith, f)
        go false f = f ∙ spells_none (part s (at + 1) (to - (at + 1)))

-- ASCII octets are characters.
ascii_each : (s : List ℕ) (k at to : ℕ) → at + k ≤ to → to ≤ length s → Ascii s at (at + k)
    → spells (some []) (part s at (to - at)) ≡ spells (some []) (part s (at + k) (to - (at + k)))
unfolding opens
ascii_each s zero at to h g p = let same : at ≡ at + 0 = omega arith in ap (λ (n : ℕ). spells (some []) (part s n (to - n))) same
ascii_each s (suc k) at to h g p =
    let there : at + 1 + k ≡ at + suc k = omega arith in
    opened s at to g (omega arith)
    ∙ ap (λ (o : Option (List Range)). spells o (part s (at + 1) (to - (at + 1)))) (alike 0x00 0x7f (get_or s at 0) refl (omega arith) (let low = p at (omega arith) (omega arith) in omega arith))
    ∙ ascii_each s k (at + 1) to (omega arith) g (λ i a b. p i (omega arith) (omega arith))
    ∙ ap (λ (n : ℕ). spells (some []) (part s n (to - n))) there

pub ascii_passes : (s : List ℕ) (at next to : ℕ) → at ≤ next → next ≤ to → to ≤ length s → Ascii s at next → Passes (some []) s at to (Some next)
unfolding utf8
ascii_passes s at next to h g k p =
    let end : at + (next - at) ≡ next = omega arith in
    (h, g, ascii_each s (next - at) at to (omega arith) k (λ i a b. p i a (omega arith)) ∙ ap (λ (n : ℕ). spells (some []) (part s n (to - n))) end)

-- Octets are UTF-8 just where those behind what was passed are, not where nothing was, and at the end.
module _ (s : List ℕ) (at to : ℕ) (fits : to ≤ length s) where
  abbrev Opened : std.Option ℕ → Type 0
  Opened p = Passes (opens (get_or s at 0) forms) s (at + 1) to p

  pub utf8_on : at < to → {p : std.Option ℕ} (next : ℕ) → p ≡ Some next → Opened p → (at < next) × (next ≤ to) × (utf8 (part s at (to - at)) ≡ utf8 (part s next (to - next)))
  unfolding utf8
  utf8_on h next e o = let (past, inside, same) = subst Opened e o in (omega arith, inside, opened s at to fits h ∙ same)

  pub utf8_not : at < to → {p : std.Option ℕ} → p ≡ None → Opened p → utf8 (part s at (to - at)) ≡ false
  unfolding utf8
  utf8_not h e o = opened s at to fits h ∙ subst Opened e o

  pub utf8_end : to ≤ at → utf8 (part s at (to - at)) ≡ true
  unfolding utf8 spells
  utf8_end h = ap (spells (some [])) (part_none s at to h)
