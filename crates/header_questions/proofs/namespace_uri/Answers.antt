-- `header_questions::namespace_uri` meets its contract: the first of the two strings that stand where namespace n does. Assumes nothing.
use Prim.Native.Nat.{ℕ}
use mathlib.Core.Path.{◌≡◌, ◌∙◌}
use mathlib.Core.List.{List}
use Rattle.octets.specs.Reading.{ok}
use Rattle.texts.specs.Texts.{text}
use Rattle.headers.specs.Header.{Namespace, namespace_at}
use Rattle.header_questions.proofs.Lists.{namespace_parts, is_text, text_shown}
use Rattle.header_questions.proofs.namespace_uri.Goals as goal

uri : (s : List ℕ) (p : ℕ) (x : Namespace) (last : ℕ) → namespace_at s p ≡ ok x last → (end : ℕ) × (text s p ≡ ok x.uri end)
uri s p x last e = let (mid, first, _) = namespace_parts s p x last e in (mid, first)

pub text_found-requires : goal.text_found-requires
text_found-requires c = let s = c.args.doc.now in is_text s (namespace_at s) (λ x. x.uri) (uri s) _ c.namespace_place.result c.namespace_place.ensures

pub returns : goal.returns
returns c =
    let s = c.args.doc.now in
    c.text_found.ensures ∙ text_shown s (namespace_at s) (λ x. x.uri) (uri s) _ c.namespace_place.result c.namespace_place.ensures
