-- `rows::row_end` meets its contract: the values behind the length, over the attributes that stand behind the layout's count. Assumes nothing.
use native.Mathlib.Omega.{arith}
use Prim.Native.Nat.{ℕ, ◌+◌}
use Rattle.std.specs.Prelude.{Result}
use Rattle.std.proofs.lemmas.Result.{err_from_is_err_and}
use mathlib.Core.Path.{◌≡◌, sym, ap, ◌∙◌, subst}
use lib.ListN.{length}
use lib.Dec.{ltb}
use Rattle.octets.specs.Reading.{ok, ends, be, run}
use Rattle.octets.specs.Answers.{says}
use Rattle.octets.specs.declared.Refused.{Refused}
use Rattle.layouts.specs.Layout.{Layout, attribute_at, layout_at}
use Rattle.layouts.proofs.Parts.{layout_fields}
use Rattle.rows.specs.Row.{values_at}
use Rattle.rows.specs.Answers.{shape}
use Rattle.rows.proofs.Lengths.{row_cut, row_no, row_ok}
use Rattle.rows.proofs.row_end.Goals as goal
use Rattle.rows.proofs.row_end.Lts
use Rattle.rows.proofs.row_end.Reads
use Rattle.rows.proofs.row_end.Tie

pub returns-then-doc-length_at : goal.returns-then-doc-length_at
returns-then-doc-length_at c = let a = c.args in (λ n l next e. sym (ap shape (row_cut a.doc.now a.at n (a.at + 4) l c.if-doc-length_at.true)), tt)

-- The attributes stand behind the count, for the layout that is required and for each that stands there.
abbrev Counted : Type 0
Counted = Lts.After-u32_at Tie.the-claims Reads.Pre Reads.Post Tie.handed_clauses

module _ (u : Counted) (l : Layout) (next : ℕ) (e : layout_at u.args.book.now u.args.place ≡ ok l next) where
  counted : u.u32_at-count.result ≡ length l.attributes
  counted = u.u32_at-count.ensures ∙ (layout_fields u.args.book.now u.args.place u.attributes_at-counted.result u.attributes_at-counted.ensures.0 e).count

  attributes : run (attribute_at u.args.book.now) u.u32_at-count.result (u.attributes_at-counted.result + 4) ≡ ok l.attributes next
  attributes =
      subst (λ (k : ℕ). run (attribute_at u.args.book.now) k (u.attributes_at-counted.result + 4) ≡ ok l.attributes next) (sym u.u32_at-count.ensures)
      (layout_fields u.args.book.now u.args.place u.attributes_at-counted.result u.attributes_at-counted.ensures.0 e).attributes

pub values_end-requires : goal.values_end-requires
values_end-requires c =
    let p = c.requires in
    (omega arith, p.1, p.2, record { list = p.3.layout.attributes; end = p.3.next; reads = attributes c.before p.3.layout p.3.next p.3.reads })

-- What the values answered.
told : (v : Lts.After-values_end Tie.the-claims Reads.Pre Reads.Post Tie.handed_clauses) (x : Result ℕ Refused) → v.values_end.result ≡ x → (l : Layout) (next : ℕ) → layout_at v.args.book.now v.args.place ≡ ok l next
    → ends (values_at l.attributes v.args.doc.now (v.args.at + 4) (be 4 v.args.doc.now (v.args.at + 4))) ≡ says x
told v x q l next e = sym (v.values_end.ensures.0 l.attributes next (attributes v.before l next e)) ∙ ap says q

pub returns-in_err-next : goal.returns-in_err-next
returns-in_err-next c =
    let a = c.args in
    let p = err_from_is_err_and c.from_residual.result c.from_residual.ensures.1 in
    rw (p.1, p.2)
    (λ n l next e. sym (ap shape (row_no a.doc.now a.at n (a.at + 4) l _ _ (omega arith) (told c.before.before.before.before _ c.in_err-next.was l next e))), tt)

pub returns : goal.returns
returns c =
    let a = c.args in
    let v = c.in_ok-next in
    let w = v.ensures.1 in (
      λ n l next e.
          ap (λ (k : ℕ). ok (record { is_stated = ltb c.u32_at-stated.result 0xffffffff; count = k }) v.next) (counted c.before.before.before.before.before l next e)
          ∙ (ap (λ (k : ℕ). ok (record { is_stated = ltb k 0xffffffff; count = length l.attributes }) v.next) c.u32_at-stated.ensures
          ∙ sym (row_ok a.doc.now a.at n (a.at + 4) l _ (omega arith) (told c.before.before.before.before _ v.was l next e))),
      omega (arith, w),
    )
