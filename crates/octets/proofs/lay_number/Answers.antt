-- `octets::lay_number` meets its contract: a word put over the start of the rest is laid over the whole. Assumes nothing.
use Prim.Native.Nat.{ℕ, ◌-◌}
use mathlib.Core.Path.{refl, sym, ap, ◌∙◌}
use mathlib.Core.List.{◌++◌}
use lib.ListN.{length, take, drop}
use Rattle.octets.specs.Writing.{word}
use Rattle.octets.proofs.Spans.{length_word}
use Rattle.octets.proofs.Copies.{laid}
use Rattle.octets.proofs.lay_number.Goals as goal

pub returns : goal.returns
returns c =
    let a = c.args in
    let s = a.buf.now in
    let put = c.put_number in
    let long = ap (λ (n : ℕ). word a.w a.v ++ drop n (take (length s - a.at) (drop a.at s))) (sym (length_word a.w a.v)) in
    (refl, laid s put.new.rest (word a.w a.v) a.at (put.ensures ∙ long))
