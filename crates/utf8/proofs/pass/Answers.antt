-- `utf8::pass` meets its contract: an ASCII octet with those behind it, or what another octet opens. Assumes nothing.
use native.Mathlib.Omega.{arith}
use Prim.Native.Nat.{◌+◌}
use mathlib.Core.Path.{refl}
use lib.ListN.{get_or}
use Rattle.utf8.specs.Utf8.{opens}
use Rattle.utf8.specs.Answers.{Passes}
use Rattle.std.specs.Prelude.{Some}
use Rattle.utf8.proofs.Characters.{by_line, ascii_passes}
use Rattle.utf8.proofs.pass.Goals as goal

pub returns-then-x-lt128 : goal.returns-then-x-lt128
unfolding opens
returns-then-x-lt128 c =
    let a = c.args in
    let s = a.s.now in
    let j = c.ascii_to.result in
    let p = c.ascii_to.ensures in
    by_line (λ o. Passes o s (a.at + 1) a.to (Some j)) 0x00 0x7f (get_or s a.at 0) refl (omega arith) (omega (arith, c.if-x-lt128.true))
    (ascii_passes s (a.at + 1) j a.to p.0 p.1 (omega arith) p.2)
