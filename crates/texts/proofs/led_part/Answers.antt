-- `texts::led_part` meets its contract: the octets between a length and their end. Assumes nothing.
use native.Mathlib.Omega.{arith}
use Prim.Native.Nat.{ℕ, ◌+◌, ◌-◌}
use mathlib.Core.Path.{◌≡◌, ap, ◌∙◌}
use lib.ListN.{take, drop}
use Rattle.octets.specs.Reading.{part, be}
use Rattle.octets.specs.declared.Room.TheVariants.{Document}
use Rattle.texts.proofs.Ends.{OctetsAt, led_stands}
use Rattle.texts.proofs.led_part.Goals as goal
use Rattle.texts.proofs.led_part.Lts
use Rattle.texts.proofs.led_part.Reads
use Rattle.texts.proofs.led_part.Tie

-- What was accepted, where it stands.
stood : (s : Lts.Start Tie.the-claims Reads.Pre Reads.Post) → let l = s.requires.1 in OctetsAt Document s.args.s.now s.args.at l.octets l.next
stood s = led_stands s.requires.1.rule s.args.s.now s.args.at s.requires.1.reads

pub led_behind-stop-requires : goal.led_behind-stop-requires
led_behind-stop-requires c = ((stood c.before.before).head, c.requires.0)

pub returns : goal.returns
unfolding part
returns c = λ rule xs next e.
    let a = c.args in
    let w = led_stands rule a.s.now a.at e in
    let q : c.led_behind-stop.result - (a.at + 4) ≡ be 4 a.s.now a.at = omega (arith, c.led_behind-stop.ensures) in
    ap (λ (n : ℕ). take n (drop (a.at + 4) a.s.now)) q ∙ w.is

pub slice_bounds-result-end : goal.slice_bounds-result-end
slice_bounds-result-end c = let w = stood c.before.before.before in omega (arith, c.led_behind-stop.ensures, w.place, w.inside)
