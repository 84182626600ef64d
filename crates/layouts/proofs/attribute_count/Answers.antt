-- `layouts::attribute_count` meets its contract: the count that was read is that of the attributes read. Assumes nothing.
use mathlib.Core.Path.{◌∙◌}
use Rattle.layouts.proofs.Parts.{layout_fields}
use Rattle.layouts.proofs.attribute_count.Goals as goal

pub returns : goal.returns
returns c = λ l end e.
    let a = c.args in
    c.u32_at.ensures ∙ (layout_fields a.s.now a.at c.attributes_at.result c.attributes_at.ensures.0 e).count
