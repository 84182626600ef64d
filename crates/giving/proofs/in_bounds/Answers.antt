-- `giving::in_bounds` meets its contract: a law of the bounds for each test. Assumes nothing.
use native.Mathlib.Omega.{arith}
use Prim.Native.Nat.{ℕ, ◌+◌}
use mathlib.Core.Path.{◌≡◌, refl, sym, ◌∙◌}
use mathlib.Core.Bool.{Bool, true, false}
use borrow.Author.Tests.{lt-leb}
use Rattle.writing_parts.proofs.Over.{sub_leb}
use Rattle.writer.specs.declared.State.{State}
use Rattle.writer.specs.Writer.{room, asks, bounded}
use Rattle.writer.proofs.Bounds.{Bounds, bounds, none_open, one_open}
use Rattle.giving.proofs.in_bounds.Goals as goal
use Rattle.giving.proofs.in_bounds.Goals.{then-room-s-via-then-room-s, then-room-s-via-else-room-s+then-s-asks, then-room-s-via-else-room-s+else-s-asks+then-asks-s, then-room-s-via-else-room-s+else-s-asks+else-asks-s+then-s-gt-MOST_ROWS}

outside : (s : State) (size : ℕ) → (Bounds s size → ⊥) → false ≡ bounded s size
outside s size h = go (bounded s size) (bounds s size)
  where
    go : (t : Bool) → (t ≡ true → Bounds s size) → false ≡ t
    go true f = absurd (h (f refl))
    go false f = refl

pub returns-then-room-s : goal.returns-then-room-s
unfolding room
returns-then-room-s c =
    let a = c.args in
    outside a.s a.len λ b.
    elim c.then-room-s.branch [
      | then-room-s-via-then-room-s w ↦ omega (arith, b.place)
      | then-room-s-via-else-room-s+then-s-asks w ↦ omega (arith, b.least)
      | then-room-s-via-else-room-s+else-s-asks+then-asks-s w ↦ omega (arith, b.most)
      | then-room-s-via-else-room-s+else-s-asks+else-asks-s+then-s-gt-MOST_ROWS w ↦ omega (arith, b.rows)
    ]

pub returns-then-asks-eq0 : goal.returns-then-asks-eq0
unfolding room
returns-then-asks-eq0 c =
    let a = c.args in
    let h = none_open a.s a.len (omega arith) (omega arith) (omega arith) (omega arith) (omega arith) in
    rw c.if-asks-eq0.true (sym h)

pub returns-then-asks-s-2 : goal.returns-then-asks-s-2
unfolding room
returns-then-asks-s-2 c =
    let a = c.args in
    let s = a.s in
    sub_leb s.start c.asks_of-asks.result.head s.place (omega arith)
    ∙ rw c.asks_of-asks.ensures.2 (sym (one_open s a.len (omega arith) (omega arith) (omega arith) (omega arith) (omega arith)))

pub returns-else-asks-s-2 : goal.returns-else-asks-s-2
unfolding room
returns-else-asks-s-2 c =
    let a = c.args in
    let s = a.s in
    lt-leb c.asks_of-asks.result.head s.place (omega arith)
    ∙ sym (one_open s a.len (omega arith) (omega arith) (omega arith) (omega arith) (omega arith)
    ∙ lt-leb (s.start + (asks s.turn).head) s.place (omega arith))
