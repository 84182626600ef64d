-- The contracts of rows themselves: each allows one answer. Assumes nothing.
use Rattle.std.specs.Prelude.{Result, Ok, Err}
use mathlib.Core.Path.{◌≡◌, refl, sym, ap, ◌∙◌}
use Rattle.octets.specs.OfContracts.{Once}
use Rattle.octets.proofs.Inverse.{ok_value, ok_place}
use Rattle.octets.proofs.Contracts.{says_once, refused_once}
use Rattle.rows.specs.Answers.{Shape, row_says}
use Rattle.octets.specs.declared.Refused.{Refused}
use Rattle.rows.specs.declared.RowEnd.{RowEnd}
use Rattle.rows.proofs.fields_end as fields_end
use Rattle.rows.proofs.values_end as values_end
use Rattle.rows.proofs.row_end as row_end

pub record Contracts : Type 0 where
  pub of_fields_end : Once fields_end.Kinds.ps fields_end.Kinds.r fields_end.Reads.Pre fields_end.Reads.Post
  pub of_values_end : Once values_end.Kinds.ps values_end.Kinds.r values_end.Reads.Pre values_end.Reads.Post
  pub of_row_end : Once row_end.Kinds.ps row_end.Kinds.r row_end.Reads.Pre row_end.Reads.Post

-- Each answer says another thing.
row_says_once : (x y : Result RowEnd Refused) → row_says x ≡ row_says y → x ≡ y
row_says_once (Ok r) (Ok q) e =
    let stated : r.stated ≡ q.stated = ap (λ (z : Shape). z.is_stated) (ok_value refl e) in
    let count : r.count ≡ q.count = ap (λ (z : Shape). z.count) (ok_value refl e) in
    let place : r.next ≡ q.next = ok_place refl e in
    ap Ok (λ i. record { stated = stated i; count = count i; next = place i })
row_says_once (Ok r) (Err q) e = cc
row_says_once (Err p) (Ok r) e = cc
row_says_once (Err p) (Err q) e = ap Err (refused_once p q (cc) (cc))

pub contracts : Contracts
contracts =
    record {
      of_fields_end = λ κs a p x y u v e f. let h = p.4 in (says_once x y (e.0 h.list h.end h.reads ∙ sym (f.0 h.list h.end h.reads)), refl);
      of_values_end = λ κs a p x y u v e f. let h = p.3 in (says_once x y (e.0 h.list h.end h.reads ∙ sym (f.0 h.list h.end h.reads)), refl);
      of_row_end = λ κs a p x y u v e f. let h = p.3 in (row_says_once x y (e.0 0 h.layout h.next h.reads ∙ sym (f.0 0 h.layout h.next h.reads)), refl);
    }
