-- `Basic::try_from` meets its contract: a low octet that none of the table's is lies outside of them. Assumes nothing.
use native.Mathlib.Omega.{arith}
use mathlib.Core.Path.{◌≡◌, refl}
use mathlib.Core.Bool.{Bool, true, false}
use mathlib.Core.Option.{none}
use lib.Dec.{ltb}
use borrow.Author.Tests.{ltb-true, ltb-false}
use Rattle.kinds.specs.Kinds.{basic_of}
use Rattle.kinds.proofs.Table.{basic_low, basic_high}
use Rattle.kinds.proofs.BasicTryFromU32.try_from.Goals as goal

pub returns-in_default : goal.returns-in_default
returns-in_default c = (refl, go (ltb c.args.code 0x21) refl)
  where
    go : (t : Bool) → ltb c.args.code 0x21 ≡ t → basic_of c.args.code ≡ none
    go true e = basic_low c.args.code (ltb-true c.args.code 0x21 e)
    go false e = basic_high c.args.code (omega (arith, ltb-false c.args.code 0x21 e))
