-- `layouts::judge_runs` meets its contract: each answer by what a book makes of octets and what the look-up found. Assumes nothing.
use native.Mathlib.Omega.{arith}
use native.Mathlib.Nat.{add_assoc}
use Prim.Native.Nat.{ℕ, ◌+◌}
use Rattle.std.specs.Prelude.{Ok}
use mathlib.Core.Path.{◌≡◌, ◌∙◌, sym, ap, subst}
use mathlib.Core.List.{List, ◌++◌}
use lib.ListN.{length, length-append}
use Rattle.layouts.specs.Book.{Book}
use Rattle.layouts.specs.Answers.{Looks, Stood}
use Rattle.layouts.specs.declared.Looked.{Looked}
use Rattle.layouts.specs.declared.Learning.TheVariants.{New}
use Rattle.layouts.proofs.Judging.{learning_same, learning_other, learning_many, learning_long, learning_new}
use Rattle.layouts.proofs.judge_runs.Goals as goal
use Rattle.layouts.proofs.judge_runs.Lts
use Rattle.layouts.proofs.judge_runs.Reads
use Rattle.layouts.proofs.judge_runs.Tie

-- The arguments by names, where the octets of all three slices are known.
module _ (k : Lts.After-shared_slice_known3 Tie.the-claims Reads.Pre Reads.Post) where
  abbrev Front : List ℕ
  Front = k.args.front.now

  abbrev Last : List ℕ
  Last = k.args.last.now

  abbrev S : List ℕ
  S = k.args.s.now

  abbrev Used : ℕ
  Used = k.args.used

  long : length (Front ++ Last) ≡ length Front + length Last
  long = length-append Front Last

  -- What the look has found, whichever answer it gave.
  looked_up : (n : ℕ) (book : Book) (x : Looked) → Looks S n book k.args.looked → k.args.looked ≡ x → Looks S n book x
  looked_up n book x w q = subst (Looks S n book) q w

pub same_runs-requires : goal.same_runs-requires
same_runs-requires c =
    let h = c.requires in
    (h.0, subst (Stood (S c.before.before)) c.in-There.is h.2)

pub returns-then-k-ge-MOST_LAYOUTS : goal.returns-then-k-ge-MOST_LAYOUTS
returns-then-k-ge-MOST_LAYOUTS c = λ book n w.
    let v = looked_up c.before.before.before n book _ w c.in-Missing.is in
    sym (learning_many book (Used c.before.before.before) n (Front c.before.before.before ++ Last c.before.before.before) v.0 (omega (arith, v.1, c.if-k-ge-MOST_LAYOUTS.true)))

pub returns-then-left-front : goal.returns-then-left-front
returns-then-left-front c =
    let here = c.before.before.before.before in
    λ book n w.
    let v = looked_up here n book _ w c.in-Missing.is in
    sym (learning_long book (Used here) n (Front here ++ Last here) v.0 (omega (arith, v.1, c.if-k-ge-MOST_LAYOUTS.false)) (omega (arith, long here, c.if-left-front.true, c.requires.1)))

pub returns-then-left-front-2 : goal.returns-then-left-front-2
returns-then-left-front-2 c =
    let here = c.before.before.before.before.before in
    λ book n w.
    let v = looked_up here n book _ w c.in-Missing.is in
    sym (learning_long book (Used here) n (Front here ++ Last here) v.0 (omega (arith, v.1, c.if-k-ge-MOST_LAYOUTS.false)) (omega (arith, long here, c.if-left-front.false, c.if-left-front-2.true, c.requires.1)))

pub returns-then-same_runs : goal.returns-then-same_runs
returns-then-same_runs c =
    let here = c.before.before.before.before in
    λ book n w.
    let v = looked_up here n book _ w c.in-There.is in
    sym (learning_same book (Used here) n (Front here ++ Last here) v.layout v.found (sym (c.same_runs.ensures v.layout v.next v.reads) ∙ c.if-same_runs.true))

pub returns-else-same_runs : goal.returns-else-same_runs
returns-else-same_runs c =
    let here = c.before.before.before.before in
    λ book n w.
    let v = looked_up here n book _ w c.in-There.is in
    sym (learning_other book (Used here) n (Front here ++ Last here) v.layout v.found (sym (c.same_runs.ensures v.layout v.next v.reads) ∙ c.if-same_runs.false))

pub returns-else-left-front-2 : goal.returns-else-left-front-2
returns-else-left-front-2 c =
    let here = c.before.before.before.before.before in
    λ book n w.
    let v = looked_up here n book _ w c.in-Missing.is in
    sym (learning_new book (Used here) n (Front here ++ Last here) v.0 (omega (arith, v.1, c.if-k-ge-MOST_LAYOUTS.false)) (omega (arith, long here, c.if-left-front.false, c.if-left-front-2.false, c.requires.1))
    ∙ ap (λ (z : ℕ). Ok (New z)) (ap (λ (z : ℕ). Used here + z) (long here) ∙ sym (add_assoc (Used here) (length (Front here)) (length (Last here)))))
