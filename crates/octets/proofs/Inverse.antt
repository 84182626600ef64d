-- A reader and an image that are each other's inverse, and what keeps them so.
use mathlib.Core.Path.{◌≡◌, refl, sym, ap, ◌∙◌, subst}
use mathlib.Core.List.{List, [], ◌∷◌, ◌++◌}
use mathlib.Core.Bool.{Bool, true, false}
use Prim.Native.Nat.{ℕ, zero, suc, ◌+◌, ◌-◌, ◌≤◌}
use native.Mathlib.Omega.{arith}
use lib.ListN.{length}
use Rattle.octets.specs.Reading.{Read, ok, no, ◌then◌, choose, part, run}
use Rattle.octets.specs.Writing.{images, Each, Octet}
use Rattle.octets.proofs.Spans.{Spans, none_spans, none_place, join, middle, stands, part_is, each_append}

-- What is known of a value read from a place on, and of the place behind it.
abbrev pub Answer : (s : List ℕ) (lim : ℕ) {A : Type 0} (image : A → List ℕ) (Fits Good : A → Type 0) (at : ℕ) → A → ℕ → Type 0
Answer s lim image Fits Good at a next = Fits a × Good a × Spans s lim at next (image a)

-- Of the values that fit what is known already, the reader answers just the good ones whose image stands there.
pub record Inverse (s : List ℕ) (lim : ℕ) {A : Type 0} (read : ℕ → Read A) (image : A → List ℕ) (Fits Good : A → Type 0) : Type 0 where
  pub back : (a : A) {at next : ℕ} → Fits a → Good a → Spans s lim at next (image a) → read at ≡ ok a next
  pub forth : Each Octet s → {a : A} {at next : ℕ} → at ≤ lim → read at ≡ ok a next → Answer s lim image Fits Good at a next
  pub octets : (a : A) → Fits a → Good a → Each Octet (image a)

-- Nothing is known yet.
abbrev pub Any : {A : Type 0} → A → Type 0
Any a = Unit {0}

-- An answer is one: no value beside a refusal, and one value at one place.
pub no_ok : {A : Type 0} {r : Read A} {a : A} {n p q : ℕ} → r ≡ no n p → r ≡ ok a q → ⊥
no_ok x y = let z : ◌≡◌ {A = ℕ} 0 1 = cc in omega arith

pub ok_value : {A : Type 0} {r : Read A} {a b : A} {p q : ℕ} → r ≡ ok a p → r ≡ ok b q → a ≡ b
ok_value x y = cc

pub ok_place : {A : Type 0} {r : Read A} {a b : A} {p q : ℕ} → r ≡ ok a p → r ≡ ok b q → p ≡ q
ok_place x y = cc

-- A reading of two parts that succeeds, by its parts.
pub after : {A B C : Type 0} (r : Read A) (f : A → ℕ → Read B) {b : B} {end : ℕ} → (r then f) ≡ ok b end
    → ((a : A) (next : ℕ) → r ≡ ok a next → f a next ≡ ok b end → C) → C
after (ok a next) f e k = k a next refl e
after (no n p) f e k = absurd (let z : ◌≡◌ {A = ℕ} 0 1 = cc in omega arith)

-- A choice that succeeds, by its answers.
pub either : {A C : Type 0} (t : Bool) (x y : Unit {0} → Read A) {a : A} {n : ℕ} → choose t x y ≡ ok a n
    → (t ≡ true → x tt ≡ ok a n → C) → (t ≡ false → y tt ≡ ok a n → C) → C
either true x y e f g = f refl e
either false x y e f g = g refl e

pub chosen : {A : Type 0} (t : Bool) (x : Unit {0} → Read A) (m p : ℕ) {a : A} {n : ℕ} → choose t x (λ _. no m p) ≡ ok a n → (t ≡ true) × (x tt ≡ ok a n)
chosen true x m p e = (refl, e)
chosen false x m p e = absurd (let z : ◌≡◌ {A = ℕ} 0 1 = cc in omega arith)

pub refused : {A : Type 0} (t : Bool) (m p : ℕ) (y : Unit {0} → Read A) {a : A} {n : ℕ} → choose t (λ _. no m p) y ≡ ok a n → (t ≡ false) × (y tt ≡ ok a n)
refused true m p y e = absurd (let z : ◌≡◌ {A = ℕ} 0 1 = cc in omega arith)
refused false m p y e = (refl, e)

-- What holds of an answer, from what holds of the value and the place that it was made of.
pub settle : {A : Type 0} (P : A → ℕ → Type 0) {a b : A} {n m : ℕ} → ok a n ≡ ok b m → P a n → P b m
settle {A} P {a} {b} {n} {m} e h =
    let same : a ≡ b = cc in
    let place : n ≡ m = cc in
    subst (λ (x : A). P x m) same (subst (P a) place h)

module _ {s : List ℕ} {lim : ℕ} where
  -- The value is known: nothing more is read.
  pub done : {B : Type 0} (b : B) {Fits : B → Type 0} → Fits b → ((c : B) → Fits c → c ≡ b) → Inverse s lim (λ at. ok b at) (λ _. []) Fits Any
  done b {Fits} fit only =
      record {
        back = λ c f g p. rw (only c f, none_place p);
        forth = λ o {a = c} {at} h e. settle (Answer s lim (λ _. []) Fits Any at) e (fit, tt, none_spans at h);
        octets = λ c f g. tt;
      }

  -- A field whose reading needs what is known, then what follows it.
  pub seq_on : {A B : Type 0} {read : ℕ → Read A} {image : A → List ℕ} {Needs Good : A → Type 0} (field : B → A) {f : A → ℕ → Read B}
      {rest : B → List ℕ} {Fits Rest : B → Type 0} → Inverse s lim read image Needs Good → ((b : B) → Fits b → Needs (field b))
      → ((a : A) → Needs a → Good a → Inverse s lim (f a) rest (λ b. Fits b × (field b ≡ a)) Rest)
      → Inverse s lim (λ at. read at then f) (λ b. image (field b) ++ rest b) Fits (λ b. Good (field b) × Rest b)
  seq_on {A} {read = read} {image} {Needs} {Good} field {f} {rest} first needs follow =
      record {
        back = λ b fit g p.
            let (p₁, p₂) = middle (image (field b)) (rest b) p in
            rw (first.back (field b) (needs b fit) g.0 p₁) ((follow (field b) (needs b fit) g.0).back b (fit, refl) g.1 p₂);
        forth = λ o {a = b} {at} h e.
            after (read at) f e λ a next e₁ e₂.
            let (n, g, p) = first.forth o h e₁ in
            let (fit, r, q) = (follow a n g).forth o p.inside e₂ in
            (fit.0, (subst Good (sym fit.1) g, r), join (subst (λ (x : A). Spans s lim at next (image x)) (sym fit.1) p) q);
        octets = λ b fit g.
            each_append (image (field b)) (rest b) (first.octets (field b) (needs b fit) g.0) ((follow (field b) (needs b fit) g.0).octets b (fit, refl) g.1);
      }

  -- A field, then what follows it.
  pub seq : {A B : Type 0} {read : ℕ → Read A} {image : A → List ℕ} {Good : A → Type 0} (field : B → A) {f : A → ℕ → Read B}
      {rest : B → List ℕ} {Fits Rest : B → Type 0} → Inverse s lim read image Any Good
      → ((a : A) → Good a → Inverse s lim (f a) rest (λ b. Fits b × (field b ≡ a)) Rest)
      → Inverse s lim (λ at. read at then f) (λ b. image (field b) ++ rest b) Fits (λ b. Good (field b) × Rest b)
  seq field first follow = seq_on field first (λ _ _. tt) (λ a _ g. follow a g)

  -- The same image and goodness in other words.
  pub finally : {B : Type 0} {read : ℕ → Read B} {image other : B → List ℕ} {Fits Good Better : B → Type 0} → Inverse s lim read image Fits Good
      → ((b : B) → image b ≡ other b) → ((b : B) → Good b → Better b) → ((b : B) → Better b → Good b) → Inverse s lim read other Fits Better
  finally inv same to from =
      record {
        back = λ b fit g p. inv.back b fit (from b g) (rw same p);
        forth = λ o {a = b} h e. let (f, g, p) = inv.forth o h e in (f, to b g, rw same at p);
        octets = λ b fit g. rw (← same b) (inv.octets b fit (from b g));
      }

  -- As many things as a count says.
  module _ {A : Type 0} {read : ℕ → Read A} {image : A → List ℕ} {Good : A → Type 0} (one : Inverse s lim read image Any Good) where
    run_back : (k : ℕ) (xs : List A) {at next : ℕ} → length xs ≡ k → Each Good xs → Spans s lim at next (images image xs) → run read k at ≡ ok xs next
    unfolding run images
    run_back zero [] fit g p = rw (none_place p)
    run_back zero (x ∷ xs) fit g p = absurd (omega arith)
    run_back (suc k) [] fit g p = absurd (omega arith)
    run_back (suc k) (x ∷ xs) fit g p =
        let (p₁, p₂) = middle (image x) (images image xs) p in
        rw (one.back x tt g.0 p₁, run_back k xs (omega arith) g.1 p₂)

    run_forth : (k : ℕ) → Each Octet s → {xs : List A} {at next : ℕ} → at ≤ lim → run read k at ≡ ok xs next
        → Answer s lim (images image) (λ ys. length ys ≡ k) (Each Good) at xs next
    unfolding run images
    run_forth zero o {xs} {at} h e = settle (Answer s lim (images image) (λ ys. length ys ≡ 0) (Each Good) at) e (refl, tt, none_spans at h)
    run_forth (suc k) o {xs} {at} h e =
        after (read at) _ e λ a next e₁ e₂.
        after (run read k next) _ e₂ λ rest last e₃ e₄.
        let (u, g, p) = one.forth o h e₁ in
        let (l, gs, q) = run_forth k o p.inside e₃ in
        settle (Answer s lim (images image) (λ ys. length ys ≡ suc k) (Each Good) at) e₄ (ap suc l, (g, gs), join p q)

    run_octets : (xs : List A) → Each Good xs → Each Octet (images image xs)
    unfolding images
    run_octets [] g = tt
    run_octets (x ∷ xs) g = each_append (image x) (images image xs) (one.octets x tt g.0) (run_octets xs g.1)

    pub several : (k : ℕ) → Inverse s lim (run read k) (images image) (λ xs. length xs ≡ k) (Each Good)
    several k = record { back = run_back k; forth = run_forth k; octets = λ xs _ g. run_octets xs g }

-- The two laws in the words of lists.
pub reads_back : {A : Type 0} {read : List ℕ → ℕ → Read A} {image : A → List ℕ} {Good : A → Type 0}
    → ((s : List ℕ) → Inverse s (length s) (read s) image Any Good) → (a : A) (pre post : List ℕ) → Good a
    → read (pre ++ (image a ++ post)) (length pre) ≡ ok a (length pre + length (image a))
reads_back {image = image} inv a pre post g = (inv (pre ++ (image a ++ post))).back a tt g (stands pre (image a) post)

pub reads_forth : {A : Type 0} {read : List ℕ → ℕ → Read A} {image : A → List ℕ} {Good : A → Type 0}
    → ((s : List ℕ) → Inverse s (length s) (read s) image Any Good) → (s : List ℕ) (a : A) (at next : ℕ) → Each Octet s → at ≤ length s → read s at ≡ ok a next
    → Good a × (at ≤ next) × (next ≤ length s) × (part s at (next - at) ≡ image a)
reads_forth {image = image} inv s a at next o h e =
    let (u, g, p) = (inv s).forth o h e in
    let long : next - at ≡ length (image a) = omega (arith, p.place) in
    (g, omega (arith, p.place), p.inside, ap (part s at) long ∙ part_is p)
