-- What the answers of reading tell of the readings behind them, and what the one number of a refusal tells: by the cases of each. Assumes nothing.
use Prim.Native.Nat.{ℕ, ◌/◌, ◌%◌, ◌^◌, ◌<◌}
use mathlib.Core.Path.{◌≡◌, refl, sym, ap, subst}
use mathlib.Core.List.{List, [], ◌∷◌}
use mathlib.Core.Bool.{true}
use native.Mathlib.Omega.{arith}
use lib.ListN.{length, set}
use Rattle.octets.specs.Reading.{Read, ok, no, is_ok}
use Rattle.kinds.specs.Kinds.{unsigned}
use Rattle.kinds.proofs.Unsigned.{unsigned_signed}
use Rattle.layouts.specs.Book.{book_image}
use Rattle.headers.specs.Header.{Header}
use Rattle.elements.specs.Element.{Element, item, layout, row, finish, Stepped}
use Rattle.elements.specs.Answers.{met_of, tells}
use Rattle.elements.specs.declared.Step.{Step}
use Rattle.octets.specs.Refusals.{Refusal}
use Rattle.std.specs.Prelude.{Result, Ok, Err}
use Rattle.reading.specs.Answers.{head_tells, check_tells}
use Rattle.reading.proofs.Times.{Timed}
use Rattle.reading.specs.declared.Head.{Head}
use Rattle.elements.specs.Walk.{Walk, Lent}
use Rattle.runs.specs.Answers.{run_tells}
use Rattle.runs.specs.declared.Went.{Went}
use Rattle.collector.specs.Calls.{answered, Packs, head_leaves, step_words, step_leaves, met_words, run_leaves, count_leaves}

-- A header: refused, or its numbers in the first four words.
abbrev pub HeadTold : List ℕ → Read Header → Result Head Refusal → Type 0
HeadTold words r (Err e) = r ≡ no e.number e.place
HeadTold words r (Ok h) = (0 ≡ answered r) × (set (set (set (set words 0 (unsigned 8 h.start)) 1 h.namespaces) 2 h.services) 3 h.next ≡ head_leaves words r)

pub head_told : (words : List ℕ) (r : Read Header) (x : Result Head Refusal) → x ≡ head_tells r → ((h : Header) (next : ℕ) → r ≡ ok h next → h.start < 2 ^ 64) → HeadTold words r x
head_told words (ok h next) x e timed =
    subst (HeadTold words (ok h next)) (sym e)
    (refl, ap (λ (n : ℕ). set (set (set (set words 0 n) 1 (length h.others)) 2 (length h.services)) 3 next) (unsigned_signed 8 h.start (timed h next refl)))
head_told words (no n p) x e timed = subst (HeadTold words (no n p)) (sym e) refl

-- A step: refused, or its words.
abbrev pub StepTold : List ℕ → Read Stepped → Result Step Refusal → Type 0
StepTold words r (Err e) = r ≡ no e.number e.place
StepTold words r (Ok step) = (0 ≡ answered r) × (met_words step.met step.next step.rows step.used ≡ step_leaves words r)

met_words_lem : (x : Element) → Timed x → (next rows used : ℕ) → met_words (met_of x) next rows used ≡ step_words x next rows used
met_words_lem (item (layout l)) h next rows used = refl
met_words_lem (item (row r)) h next rows used = refl
met_words_lem (finish n t) h next rows used = ap (λ (m : ℕ). 3 ∷ next ∷ rows ∷ used ∷ n ∷ m ∷ 0 ∷ 0 ∷ []) (unsigned_signed 8 t h)

pub step_told : (words : List ℕ) (r : Read Stepped) (x : Result Step Refusal) → x ≡ tells r → ((st : Stepped) (next : ℕ) → r ≡ ok st next → Timed st.element) → StepTold words r x
step_told words (ok st next) x e timed =
    subst (StepTold words (ok st next)) (sym e) (refl, met_words_lem st.element (timed st next refl) next st.rows (length (book_image st.book)))
step_told words (no n p) x e timed = subst (StepTold words (no n p)) (sym e) refl

-- A run: refused, or where it stands.
abbrev pub RunTold : List ℕ → Read (Walk Lent) → Result Went Refusal → Type 0
RunTold words r (Err e) = r ≡ no e.number e.place
RunTold words r (Ok w) = (0 ≡ answered r) × (w.count ∷ w.next ∷ w.rows ∷ w.used ∷ 0 ∷ 0 ∷ 0 ∷ 0 ∷ [] ≡ run_leaves words r)

pub run_told : (words : List ℕ) (r : Read (Walk Lent)) (x : Result Went Refusal) → x ≡ run_tells r → RunTold words r x
run_told words (ok p next) x e = subst (RunTold words (ok p next)) (sym e) (refl, refl)
run_told words (no n q) x e = subst (RunTold words (no n q)) (sym e) refl

-- The whole check: refused, or its count.
abbrev pub CountTold : ℕ → Read ℕ → Result ℕ Refusal → Type 0
CountTold lent r (Err e) = r ≡ no e.number e.place
CountTold lent r (Ok n) = (0 ≡ answered r) × (n ≡ count_leaves lent r)

pub count_told : (lent : ℕ) (r : Read ℕ) (x : Result ℕ Refusal) → x ≡ check_tells r → CountTold lent r x
count_told lent (ok n end) x e = subst (CountTold lent (ok n end)) (sym e) (refl, refl)
count_told lent (no n p) x e = subst (CountTold lent (no n p)) (sym e) refl

-- 0 is acceptance alone, and of a refusal the answer tells both numbers.
pub zero_accepts : {A : Type 0} (r : Read A) → Packs r → answered r ≡ 0 → is_ok r ≡ true
zero_accepts (ok a next) h e = refl
zero_accepts (no n p) h e = absurd (omega arith)

pub tells_both : {A : Type 0} (r : Read A) (n p : ℕ) → Packs r → r ≡ no n p → (answered r / 4294967296 ≡ n) × (answered r % 4294967296 ≡ p)
tells_both {A} r n p h e =
    let small = subst (Packs {A = A}) e h in
    let same = ap answered e in
    (omega arith, omega arith)
