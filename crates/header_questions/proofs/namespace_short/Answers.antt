-- `header_questions::namespace_short` meets its contract: the second of the two strings that stand where namespace n does. Assumes nothing.
use Prim.Native.Nat.{ℕ}
use mathlib.Core.Path.{◌≡◌, sym, ap, ◌∙◌, subst}
use Rattle.octets.specs.Reading.{ok, ends, is_ok}
use Rattle.headers.specs.Header.{Namespace}
use Rattle.octets.specs.Asked.{part_of}
use Rattle.octets.proofs.Inverse.{ok_place}
use Rattle.texts.specs.Texts.{text}
use Rattle.texts.specs.declared.Rule.TheVariants.{Characters}
use Rattle.texts.proofs.Ends.{text_there}
use Rattle.header_questions.proofs.Lists.{namespace_parts}
use Rattle.header_questions.proofs.namespace_short.Goals as goal
use Rattle.header_questions.proofs.namespace_short.Lts
use Rattle.header_questions.proofs.namespace_short.Reads
use Rattle.header_questions.proofs.namespace_short.Tie

-- The short name stands where the URI ends.
behind : (m : Lts.After-text_skip Tie.the-claims Reads.Pre Reads.Post) → text m.args.doc.now m.text_skip.result ≡ ok m.in-Ok.ensures.item.short m.in-Ok.ensures.last
behind m =
    let i = m.in-Ok.ensures in
    let s = m.args.doc.now in
    let (mid, first, second) = namespace_parts s _ _ _ i.reads in
    subst (λ (p : ℕ). text s p ≡ ok i.item.short i.last) (ok_place (ap ends first) m.text_skip.ensures.0) second

pub returns : goal.returns
returns c =
    let i = c.in-Ok.ensures in
    c.led_part.ensures Characters _ _ (behind c.before.before) ∙ sym (ap (part_of (λ (x : Namespace). x.short)) i.is)

pub text_skip-requires : goal.text_skip-requires
text_skip-requires c = let i = c.in-Ok.ensures in (i.short, ap is_ok (namespace_parts _ _ _ _ i.reads).1)

pub led_part-requires : goal.led_part-requires
led_part-requires c = let i = c.in-Ok.ensures in (i.short, text_there _ _ (ap is_ok (behind c.before)))
