-- `utf8::marks_at` meets its contract: a mask of eight octets. Assumes nothing.
use mathlib.Core.Path.{ap, ◌∙◌}
use Prim.Native.Nat.{ℕ}
use lib.Bits.{bit_and}
use Rattle.octets.proofs.Spans.{each_octet}
use Rattle.utf8.proofs.Ascii.{tops, marks_be}
use Rattle.utf8.proofs.marks_at.Goals as goal

pub returns : goal.returns
returns c =
    let a = c.args in
    ap (λ (n : ℕ). bit_and n (tops 8)) c.u64_at.ensures ∙ marks_be 8 a.s.now a.at (each_octet a.s.now c.type_inv.s)
