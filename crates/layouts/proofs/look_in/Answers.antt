-- `layouts::look_in` meets its contract. The invariant: what is left from here on holds the number where the book does.
-- The measure is what is left of the octets. Assumes nothing.
use native.Mathlib.Omega.{arith}
use Prim.Native.Nat.{ℕ, ◌+◌, ◌≤◌, ◌<◌}
use mathlib.Core.Path.{sym, ◌∙◌, ap}
use mathlib.Core.List.{List}
use lib.ListN.{length}
use Rattle.octets.specs.Reading.{is_ok}
use Rattle.layouts.specs.Book.{Book}
use Rattle.layouts.specs.Answers.{Image}
use Rattle.layouts.proofs.Walks.{Left, Here, left_none, here, here_on, here_stands}
use Rattle.layouts.proofs.look_in.Goals as goal
use Rattle.layouts.proofs.look_in.Lts
use Rattle.layouts.proofs.look_in.Reads
use Rattle.layouts.proofs.look_in.Tie

-- The turn by names.
abbrev Turn : Type 0
Turn = Lts.In-loop Tie.the-claims Reads.Pre Reads.Post goal.the-invariant-loop-pos goal.the-decreases-loop-pos

abbrev S : Turn → List ℕ
S t = t.args.s.now

abbrev Number : Turn → ℕ
Number t = t.args.number

abbrev Pos : Turn → ℕ
Pos t = t.loop-pos.pos

abbrev K : Turn → ℕ
K t = t.loop-pos.k

-- The layout here, of any book that the octets are the image of, and of the one that is required.
here_in : (t : Turn) (book : Book) → Image (S t) book → Here (S t) (Number t) book (Pos t) (K t)
here_in t book i = here (S t) (Number t) book (Pos t) (K t) t.loop-pos-test.true (t.loop-pos.invariant.2 book i)

held : (t : Turn) → Here (S t) (Number t) t.requires.1.book (Pos t) (K t)
held t = here_in t t.requires.1.book t.requires.1.image

pub returns-then-u32_at-number : goal.returns-then-u32_at-number
returns-then-u32_at-number c = λ book i.
    here_stands (S c.before.before.before) (Number c.before.before.before) book (Pos c.before.before.before) (K c.before.before.before) (here_in c.before.before.before book i) (sym c.u32_at.ensures ∙ c.if-u32_at-number.true)

next_at : (f : Lts.After-layout_skip Tie.the-claims Reads.Pre Reads.Post goal.the-invariant-loop-pos goal.the-decreases-loop-pos) (book : Book) → Here (S f.before.before.before) (Number f.before.before.before) book (Pos f.before.before.before) (K f.before.before.before)
    → (Pos f.before.before.before < f.layout_skip-pos.result) × (f.layout_skip-pos.result ≤ length (S f.before.before.before)) × Left (S f.before.before.before) (Number f.before.before.before) book f.layout_skip-pos.result (K f.before.before.before + 1)
next_at f book h =
    here_on (S f.before.before.before) (Number f.before.before.before) book (Pos f.before.before.before) (K f.before.before.before) h f.layout_skip-pos.result f.layout_skip-pos.ensures (λ e. f.if-u32_at-number.false (f.u32_at.ensures ∙ e))

pub loop-pos-smaller : goal.loop-pos-smaller
loop-pos-smaller c = let w = next_at c.before _ (held c.before.before.before.before) in omega (arith, w.0, w.1)

pub loop-pos-preserved : goal.loop-pos-preserved
loop-pos-preserved c =
    let w = next_at c.before _ (held c.before.before.before.before) in
    (w.1, omega (arith, w.0, c.loop-pos.invariant.1), λ book i. (next_at c.before book (here_in c.before.before.before.before book i)).2)

pub returns : goal.returns
returns c = λ book i.
    let l = c.loop-pos in
    let a = c.args in
    left_none a.s.now a.number book l.pos l.k c.loop-pos-test.false (l.invariant.2 book i)

pub u32_at-requires : goal.u32_at-requires
u32_at-requires c = (held c.before).room

pub layout_skip-pos-requires : goal.layout_skip-pos-requires
layout_skip-pos-requires c = (c.requires.0, ap is_ok (held c.before.before.before).reads)
