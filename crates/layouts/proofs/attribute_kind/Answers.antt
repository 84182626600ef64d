-- `layouts::attribute_kind` meets its contract, by the type of the attribute at attribute n's place. Assumes nothing.
use mathlib.Core.Path.{◌≡◌, ap, ◌∙◌}
use Rattle.octets.specs.Reading.{is_ok}
use Rattle.layouts.specs.Layout.{Attribute}
use Rattle.layouts.proofs.attribute_kind.Goals as goal

pub kind_behind-requires : goal.kind_behind-requires
kind_behind-requires c =
    let h = c.requires.1 in
    (c.requires.0, ap is_ok (c.attribute_place-place.ensures h.layout h.end h.reads).reads)

pub returns : goal.returns
returns c = λ l end a more e q.
    let n = c.attribute_place-place.ensures l end e in
    let same : n.attribute ≡ a = cc (n.is, q) in
    c.kind_behind.ensures n.attribute n.next n.reads ∙ ap (λ (x : Attribute). x.kind) same
