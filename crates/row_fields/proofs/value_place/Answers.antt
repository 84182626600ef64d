-- `row_fields::value_place` meets its contract: the values of the first n attributes end where value n stands; in a row that is accepted they do end. Assumes nothing.
use native.Mathlib.Omega.{arith}
use Prim.Native.Nat.{ℕ, ◌+◌, ◌<◌}
use Rattle.std.specs.Prelude.{Result, Ok, Err}
use Rattle.std.specs.Result.{result_unwrap_or}
use mathlib.Core.Path.{◌≡◌, refl, sym, ◌∙◌, subst}
use mathlib.Core.List.{List}
use lib.ListN.{length, take}
use Rattle.octets.specs.Reading.{ok, ends, run}
use Rattle.octets.specs.Answers.{says}
use Rattle.octets.specs.declared.Refused.{Refused}
use Rattle.octets.specs.declared.Room.TheVariants.{Stated}
use Rattle.octets.proofs.Inverse.{ok_value, no_ok}
use Rattle.texts.specs.Texts.{text}
use Rattle.layouts.specs.Layout.{Layout, attribute_at, layout_at}
use Rattle.layouts.specs.Answers.{Has}
use Rattle.layouts.proofs.Parts.{layout_fields}
use Rattle.row_fields.specs.Places.{NthField}
use Rattle.row_fields.proofs.Line.{run_front, walk, nth_field}
use Rattle.row_fields.proofs.value_place.Goals as goal

-- The first n attributes of each layout that stands there.
module _ (book : List ℕ) (place n : ℕ) (h : Has book place n) (mid : ℕ) (named : ends (text book (place + 4)) ≡ ok mid mid)
    (l : Layout) (last : ℕ) (e : layout_at book place ≡ ok l last) where
  more : n < length l.attributes
  more = subst (λ (x : Layout). n < length x.attributes) (ok_value h.reads e) h.more

  first : (p : ℕ) × (run (attribute_at book) n (mid + 4) ≡ ok (take n l.attributes) p)
  first = run_front (attribute_at book) n _ (mid + 4) last l.attributes (layout_fields book place mid named e).attributes (omega (arith, more))

-- The place that was answered, or another in its stead.
placed : (x : Result ℕ Refused) (other p : ℕ) → says x ≡ ok p p → result_unwrap_or x other ≡ p
placed (Ok q) other p e = ok_value refl e
placed (Err r) other p e = absurd (no_ok refl e)

pub fields_end-values-requires : goal.fields_end-values-requires
fields_end-values-requires c =
    let a = c.args in
    let p = c.requires in
    let h = p.4 in
    let (end, reads) = first a.book.now a.place a.n h c.attributes_at-attributes.result c.attributes_at-attributes.ensures.0 h.layout h.end h.reads in
    (p.0, p.1, p.2, p.3, record { list = take a.n h.layout.attributes; end = end; reads = reads })

-- In an accepted row the values of the first n attributes do end.
pub returns : goal.returns
returns c = λ l last fields e r.
    let a = c.args in
    let h = c.requires.4 in
    let more = more a.book.now a.place a.n h c.attributes_at-attributes.result c.attributes_at-attributes.ensures.0 l last e in
    let (p, reads) = first a.book.now a.place a.n h c.attributes_at-attributes.result c.attributes_at-attributes.ensures.0 l last e in
    let w = walk (Stated a.end 0) a.doc.now a.n l.attributes a.first a.end fields r more in
    let there = placed c.fields_end-values.result a.end w.place (c.fields_end-values.ensures.0 (take a.n l.attributes) p reads ∙ w.before) in
    subst (NthField a.doc.now a.end l.attributes fields a.n) (sym (c.unwrap_or.ensures ∙ there))
    (nth_field a.doc.now a.end a.first a.n w.place l.attributes fields r more w.before)
