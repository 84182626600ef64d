-- `texts::text_skip` meets its contract: a string that is accepted is a length and so many octets. Assumes nothing.
use native.Mathlib.Omega.{arith}
use Prim.Native.Nat.{ℕ}
use mathlib.Core.Path.{sym, ap, ◌∙◌}
use Rattle.octets.specs.Reading.{ok, ends}
use Rattle.octets.proofs.Ends.{value_is}
use Rattle.texts.proofs.Ends.{text_stands}
use Rattle.texts.proofs.text_skip.Goals as goal

pub led_behind-requires : goal.led_behind-requires
led_behind-requires c = ((text_stands c.args.s.now c.args.at (value_is _ c.requires.1).2).head, c.requires.0)

pub returns : goal.returns
returns c =
    let n = c.led_behind.ensures in
    let (xs, next, is) = value_is _ c.requires.1 in
    let w = text_stands c.args.s.now c.args.at is in
    (ap ends is ∙ ap (λ (p : ℕ). ok p p) (w.place ∙ sym n), omega (arith, n), omega (arith, n, w.place, w.inside))
