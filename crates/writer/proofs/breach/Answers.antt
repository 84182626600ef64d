-- `writer::breach` meets its contract: the rule of a string is asked of all the octets. Assumes nothing.
use mathlib.Core.Path.{◌≡◌, refl, sym, ap, ◌∙◌}
use mathlib.Core.Bool.{Bool}
use mathlib.Core.List.{List}
use Prim.Native.Nat.{ℕ, ◌-◌}
use lib.ListN.{length}
use Rattle.octets.specs.Reading.{part}
use Rattle.octets.proofs.Copies.{rest}
use Rattle.utf8.specs.Utf8.{utf8}
use Rattle.texts.specs.declared.Rule.{Rule}
use Rattle.texts.specs.declared.Rule.TheVariants.{Characters}
use Rattle.writing_parts.specs.Faults.{unless}
use Rattle.writer.specs.Writer.{breach}
use Rattle.writer.proofs.breach.Goals as goal

all_of : (xs : List ℕ) → part xs 0 (length xs - 0) ≡ xs
unfolding part
all_of xs = rest xs 0

-- What the test said, of the octets themselves.
tested : (xs : List ℕ) {rule : Rule} {u t : Bool} → rule ≡ Characters → u ≡ utf8 (part xs 0 (length xs - 0)) → u ≡ t → unless t 24 ≡ breach rule xs
tested xs e said is = rw (e, ← sym is ∙ (said ∙ ap utf8 (all_of xs))) refl

pub returns-then-is_utf8 : goal.returns-then-is_utf8
returns-then-is_utf8 c = tested c.args.xs.now c.in-Characters.is c.is_utf8.ensures c.if-is_utf8.true

pub returns-else-is_utf8 : goal.returns-else-is_utf8
returns-else-is_utf8 c = tested c.args.xs.now c.in-Characters.is c.is_utf8.ensures c.if-is_utf8.false
