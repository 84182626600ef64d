-- `probe_input::part` meets its contract, for no octets and for some. Assumes nothing.
use Rattle.std.proofs.Common.{◌≡◌, ℕ, ◌<◌, List, [], ◌∷◌, ◌++◌, length, refl, arith}
use Rattle.printing.specs.Text.{spelt, showing}
use Rattle.printing.specs.declared.Show.TheVariants.{Hex}
use Rattle.printing.proofs.Pages.{then, says}
use Rattle.probe_input.specs.Words.{part_text}
use Rattle.probe_input.proofs.part.Goals as goal

empty : (xs : List ℕ) → length xs ≡ 0 → spelt " -" ≡ part_text xs
empty [] none = refl
empty (x ∷ xs) none = absurd (omega arith)

some : (xs : List ℕ) → 0 < length xs → spelt " " ++ showing Hex xs ≡ part_text xs
some [] h = absurd (omega arith)
some (x ∷ xs) h = refl

pub returns-then-xs-eq0 : goal.returns-then-xs-eq0
returns-then-xs-eq0 c = says (empty c.args.xs.now (omega arith)) (then c.octet.ensures c.octet-then-xs-eq0.ensures)

pub returns : goal.returns
returns c = says (some c.args.xs.now (omega arith)) (then c.octet.ensures c.show_all.ensures)
