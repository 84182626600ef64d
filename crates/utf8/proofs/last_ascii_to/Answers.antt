-- `utf8::last_ascii_to` meets its contract: the marks of the last octets are what is left of those of eight. Assumes nothing.
use native.Mathlib.Omega.{arith}
use native.Mathlib.Nat.{one-le-pow}
use Prim.Native.Nat.{ℕ, ◌+◌, ◌-◌, ◌*◌, ◌%◌, ◌^◌}
use mathlib.Core.Path.{◌≡◌, sym, ap, ◌∙◌}
use lib.Dec.{lit<}
use Rattle.octets.proofs.Spans.{each_octet}
use Rattle.utf8.specs.Answers.{marks}
use Rattle.utf8.proofs.Ascii.{power, marks_last, unmarked_ascii, before_mark}
use Rattle.utf8.proofs.last_ascii_to.Goals as goal

pub returns-then-m-eq0 : goal.returns-then-m-eq0
returns-then-m-eq0 c =
    let a = c.args in
    let whole : a.to - 8 + 8 ≡ a.to = omega arith in
    let all = unmarked_ascii 8 a.s.now (a.to - 8) (sym c.marks_at-m.ensures ∙ c.if-m-eq0.true) in
    (omega arith, omega arith, λ i h g. all i (omega arith) (omega arith))

pub nonzero_rem-m : goal.nonzero_rem-m
nonzero_rem-m c = let a = c.args in rw (power (a.to - a.at) (omega arith)) (one-le-pow (a.to - a.at) 256 (lit< tt))

pub returns : goal.returns
returns c =
    let a = c.args in
    let s = a.s.now in
    let octets = each_octet s c.type_inv.s in
    let u = c.unmarked in
    let n = a.to - a.at in
    let from : a.to - n ≡ a.at = omega arith in
    let left =
    ap (λ (m : ℕ). m % (1 * 2 ^ (8 * n) % 2 ^ 64)) c.marks_at-m.ensures
    ∙ marks_last n s a.to octets (omega arith) (omega arith) ∙ ap (marks n s) from in
    let (late, run) = before_mark n _ u.result s a.at (a.to - 8 + u.result) octets left u.ensures (omega arith) in
    (late, omega (arith, u.ensures.0), run)
