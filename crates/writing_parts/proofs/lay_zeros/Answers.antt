-- `writing_parts::lay_zeros` meets its contract: what the part holds, said of the whole. Assumes nothing.
use native.Mathlib.Omega.{arith}
use Prim.Native.Nat.{ℕ, ◌+◌, ◌-◌, ◌≤◌}
use mathlib.Core.Path.{◌≡◌, refl}
use mathlib.Core.List.{List, ◌++◌}
use lib.ListN.{length, take, drop, replicate, length-take, length-drop, length-replicate}
use lib.Seq.{drop-drop}
use Rattle.octets.specs.Writing.{over}
use Rattle.writing_parts.proofs.lay_zeros.Goals as goal

zeros : (xs ys : List ℕ) (at n k : ℕ) → at + n ≤ length xs → k ≡ n → ys ≡ replicate (length (take k (drop at xs))) 0
    → take at xs ++ (ys ++ drop k (drop at xs)) ≡ over xs at (replicate n 0)
unfolding over
zeros xs ys at n k h e z =
    let l : length (take k (drop at xs)) ≡ n = simp (length-take, length-drop) (omega arith) in
    rw (z, l, e, drop-drop n at xs, length-replicate {A = ℕ} n 0) refl

pub returns : goal.returns
returns c =
    let a = c.args in
    zeros a.buf.now c.fill.new.self a.at a.n (a.at + a.n - a.at) c.requires (omega arith) (c.fill.ensures.after (λ y e. e))
