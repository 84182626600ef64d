-- `reading::header` meets its contract: the header's refusal, or the numbers that stand at its places. Assumes nothing.
use mathlib.Core.Path.{refl, sym, ap, ◌∙◌}
use mir.Syntax.{w64}
use mir.Facts.{to_z-of_z}
use Rattle.octets.proofs.Asked.{number_is}
use Rattle.kinds.specs.Kinds.{signed}
use Rattle.kinds.proofs.Signs.{signed_cast}
use Rattle.headers.specs.Header.{header_at}
use Rattle.headers.specs.Answers.{Accepted}
use Rattle.reading.specs.Answers.{head_tells}
use Rattle.reading.proofs.header.Goals.{In_ok-places}
use Rattle.reading.proofs.header.Goals as goal

-- The header that stands there, and its numbers.
accepted : (k : In_ok-places) → let s = k.args.doc.now in Accepted s (header_at s) k.in_ok-places.places
accepted k = k.in_ok-places.ensures

pub u64_at-requires : goal.u64_at-requires
u64_at-requires c = (number_is c.args.doc.now 8 _ _ _ (accepted (goal.at.u64_at-requires c).In_ok-places).located.start).0

pub u32_at-requires : goal.u32_at-requires
u32_at-requires c = (number_is c.args.doc.now 4 _ _ _ (accepted (goal.at.u32_at-requires c).In_ok-places).located.namespaces).0

pub u32_at-requires-2 : goal.u32_at-requires-2
u32_at-requires-2 c = (number_is c.args.doc.now 4 _ _ _ (accepted (goal.at.u32_at-requires-2 c).In_ok-places).located.counted).0

pub returns : goal.returns
returns c =
    let h = accepted (goal.at.returns c).In_ok-places in
    let l = h.located in
    let s = c.args.doc.now in
    let time = c.cast_signed.ensures ∙ (signed_cast w64 8 refl c.u64_at.result c.u64_at.type_inv ∙ ap (signed 8) (c.u64_at.ensures ∙ (number_is s 8 _ _ _ l.start).1)) in
    let start = to_z-of_z {w = w64} (record { sfits = c.cast_signed.type_inv }) ∙ time in
    rw (start, c.u32_at.ensures, c.u32_at-2.ensures, (number_is s 4 _ _ _ l.namespaces).1, (number_is s 4 _ _ _ l.counted).1)
    (sym (ap head_tells h.reads))
