-- `header_questions::namespace_place` meets its contract: the namespace stands where those before it end. Assumes nothing.
use mathlib.Core.Path.{sym, subst}
use native.Mathlib.Nat.{le_refl}
use lib.ListN.{length}
use Rattle.std.proofs.Common.{of_calls}
use Rattle.octets.specs.Reading.{ends}
use Rattle.octets.specs.Asked.{StandsAt}
use Rattle.octets.proofs.Spans.{each_octet}
use Rattle.octets.proofs.Passed.{handed_on}
use Rattle.headers.specs.Header.{namespace_at}
use Rattle.header_questions.specs.Questions.{namespace_asked}
use Rattle.header_questions.proofs.Lists.{namespaces_count, namespace_stands, namespace_refused}
use Rattle.header_questions.proofs.namespace_place.Goals as goal

pub returns-in_err-places : goal.returns-in_err-places
returns-in_err-places c =
    let s = c.args.doc.now in
    subst (StandsAt s (namespace_at s) (namespace_asked s c.args.n)) (sym (handed_on c.from_residual.result _ c.from_residual.ensures.1)) (namespace_refused s c.args.n _ c.in_err-places.ensures)

pub listed_at-requires : goal.listed_at-requires
listed_at-requires c =
    let s = c.args.doc.now in
    let (there, short) = namespaces_count _ _ c.in_ok-places.ensures in
    (there, short, record { end = length s; reading = λ p. ends (namespace_at s p); inside = le_refl (length s); finds = record { takes = λ p h. search of_calls; finds = λ p r h e. search of_calls } })

pub returns : goal.returns
returns c =
    let a = c.args in
    let s = a.doc.now in
    namespace_stands s (each_octet s c.type_inv.doc) _ c.in_ok-places.ensures a.n c.listed_at.result
    (c.listed_at.ensures (length s) (λ p. ends (namespace_at s p)) (le_refl (length s)) (record { takes = λ p h. search of_calls; finds = λ p r h e. search of_calls }))
