-- `kinds::basic_of` meets its contract: the table has each code from the first to the last. Assumes nothing.
use Prim.Native.Nat.{ℕ, ◌≤◌}
use Rattle.std.specs.Prelude.{Result, Ok, Err, IsOk}
use mathlib.Core.Path.{refl}
use Rattle.octets.specs.declared.Fault.{Fault}
use Rattle.kinds.specs.Answers.{Coded}
use Rattle.kinds.specs.declared.Basic.{Basic}
use Rattle.kinds.proofs.Table.{basic_there}
use Rattle.kinds.proofs.basic_of.Goals as goal

known : (code : ℕ) (x : Result Basic Fault) → Coded code x → 0x21 ≤ code → code ≤ 0x2d → IsOk x
known code (Ok b) e h g = refl
known code (Err f) e h g = absurd (basic_there code h g e.1)

pub unwrap-requires : goal.unwrap-requires
unwrap-requires c = known c.args.code c.try_from.result c.try_from.ensures c.requires.0 c.requires.1
