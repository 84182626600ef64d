-- The contracts of the writer themselves: every input is taken, each call allows one answer and one content of the buffer and of the book, and a refusal leaves both. Assumes nothing.
use Prim.Native.Nat.{ℕ}
use mathlib.Core.Path.{◌≡◌, refl, sym, ap, ◌∙◌, subst}
use mathlib.Core.List.{List}
use Rattle.std.specs.Prelude.{Result}
use Rattle.octets.specs.declared.Refused.{Refused}
use Rattle.octets.specs.Reading.{Read, ok, no}
use Rattle.octets.specs.OfContracts.{Settled, SettledLent}
use Rattle.octets.proofs.Alike.{◌also◌, put_back}
use Rattle.layouts.specs.Book.{book_in}
use Rattle.writer.specs.declared.State.{State}
use Rattle.writer.specs.declared.Standing.{Standing}
use Rattle.writer.specs.Writer.{Call, Written, does, deed_answer}
use Rattle.writer.specs.Answers.{Left, left, left_of, deed_leaves, call_leaves, Refuses}
use Rattle.giving.proofs.Contracts.{one_answer}
use Rattle.writing.proofs.fresh as fresh
use Rattle.writing.proofs.recorder as recorder
use Rattle.writing.proofs.start_time as start_time
use Rattle.writing.proofs.default_namespace as default_namespace
use Rattle.writing.proofs.namespace_count as namespace_count
use Rattle.writing.proofs.uri as uri
use Rattle.writing.proofs.short_name as short_name
use Rattle.writing.proofs.service_count as service_count
use Rattle.writing.proofs.service as service
use Rattle.writing.proofs.document_id as document_id
use Rattle.writing.proofs.open_layout as open_layout
use Rattle.writing.proofs.type_name as type_name
use Rattle.writing.proofs.attribute_count as attribute_count
use Rattle.writing.proofs.attribute_name as attribute_name
use Rattle.writing.proofs.attribute_type as attribute_type
use Rattle.writing.proofs.open_row as open_row
use Rattle.writing.proofs.value_number as value_number
use Rattle.writing.proofs.value_octets as value_octets
use Rattle.writing.proofs.value as value
use Rattle.writing.proofs.close_row as close_row
use Rattle.writing.proofs.give_up as give_up
use Rattle.writing.proofs.finish as finish

pub record Contracts : Type 0 where
  pub of_fresh : Settled fresh.Kinds.ps fresh.Kinds.r fresh.Reads.Pre fresh.Reads.Post
  pub of_recorder : SettledLent recorder.Kinds.ps recorder.Kinds.r (λ κs s. s) (λ κs. Refuses) recorder.Reads.Pre recorder.Reads.Post
  pub of_start_time : SettledLent start_time.Kinds.ps start_time.Kinds.r (λ κs s. s) (λ κs. Refuses) start_time.Reads.Pre start_time.Reads.Post
  pub of_default_namespace : SettledLent default_namespace.Kinds.ps default_namespace.Kinds.r (λ κs s. s) (λ κs. Refuses) default_namespace.Reads.Pre default_namespace.Reads.Post
  pub of_namespace_count : SettledLent namespace_count.Kinds.ps namespace_count.Kinds.r (λ κs s. s) (λ κs. Refuses) namespace_count.Reads.Pre namespace_count.Reads.Post
  pub of_uri : SettledLent uri.Kinds.ps uri.Kinds.r (λ κs s. s) (λ κs. Refuses) uri.Reads.Pre uri.Reads.Post
  pub of_short_name : SettledLent short_name.Kinds.ps short_name.Kinds.r (λ κs s. s) (λ κs. Refuses) short_name.Reads.Pre short_name.Reads.Post
  pub of_service_count : SettledLent service_count.Kinds.ps service_count.Kinds.r (λ κs s. s) (λ κs. Refuses) service_count.Reads.Pre service_count.Reads.Post
  pub of_service : SettledLent service.Kinds.ps service.Kinds.r (λ κs s. s) (λ κs. Refuses) service.Reads.Pre service.Reads.Post
  pub of_document_id : SettledLent document_id.Kinds.ps document_id.Kinds.r (λ κs s. s) (λ κs. Refuses) document_id.Reads.Pre document_id.Reads.Post
  pub of_open_layout : SettledLent open_layout.Kinds.ps open_layout.Kinds.r (λ κs s. s) (λ κs. Refuses) open_layout.Reads.Pre open_layout.Reads.Post
  pub of_type_name : SettledLent type_name.Kinds.ps type_name.Kinds.r (λ κs s. s) (λ κs. Refuses) type_name.Reads.Pre type_name.Reads.Post
  pub of_attribute_count : SettledLent attribute_count.Kinds.ps attribute_count.Kinds.r (λ κs s. s) (λ κs. Refuses) attribute_count.Reads.Pre attribute_count.Reads.Post
  pub of_attribute_name : SettledLent attribute_name.Kinds.ps attribute_name.Kinds.r (λ κs s. s) (λ κs. Refuses) attribute_name.Reads.Pre attribute_name.Reads.Post
  pub of_attribute_type : SettledLent attribute_type.Kinds.ps attribute_type.Kinds.r (λ κs s. s) (λ κs. Refuses) attribute_type.Reads.Pre attribute_type.Reads.Post
  pub of_open_row : SettledLent open_row.Kinds.ps open_row.Kinds.r (λ κs s. s) (λ κs. Refuses) open_row.Reads.Pre open_row.Reads.Post
  pub of_value_number : SettledLent value_number.Kinds.ps value_number.Kinds.r (λ κs s. s) (λ κs. Refuses) value_number.Reads.Pre value_number.Reads.Post
  pub of_value_octets : SettledLent value_octets.Kinds.ps value_octets.Kinds.r (λ κs s. s) (λ κs. Refuses) value_octets.Reads.Pre value_octets.Reads.Post
  pub of_value : SettledLent value.Kinds.ps value.Kinds.r (λ κs s. s) (λ κs. Refuses) value.Reads.Pre value.Reads.Post
  pub of_close_row : SettledLent close_row.Kinds.ps close_row.Kinds.r (λ κs s. s) (λ κs. Refuses) close_row.Reads.Pre close_row.Reads.Post
  pub of_give_up : SettledLent give_up.Kinds.ps give_up.Kinds.r (λ κs s. s) (λ κs. Refuses) give_up.Reads.Pre give_up.Reads.Post
  pub of_finish : SettledLent finish.Kinds.ps finish.Kinds.r (λ κs s. s) (λ κs. Refuses) finish.Reads.Pre finish.Reads.Post

-- A refused call leaves buffer and book.
unchanged : {x : Result Standing Refused} {b k : List ℕ} (s : State) (buffer lent : List ℕ) (used : ℕ) (c : Call) → left x b k ≡ call_leaves s buffer lent used c → Refuses x → (b ≡ buffer) × (k ≡ lent)
unfolding call_leaves deed_leaves
unchanged {x} {b} {k} s buffer lent used c e h = go (deed_answer s buffer lent used (does s buffer (book_in lent used) c)) e
  where
    go : (r : Read Written) → left x b k ≡ left_of r buffer lent → (b ≡ buffer) × (k ≡ lent)
    go (ok w at) f = absurd (subst Refuses (ap (λ (y : Left). y.answer) f) h)
    go (no n p) f = (ap (λ (y : Left). y.buffer) f, ap (λ (y : Left). y.book) f)

pub contracts : Contracts
contracts =
    record {
      of_fresh = (λ κs a. tt, λ κs a p x y u v e f. (e ∙ sym f, refl));
      of_recorder = (λ κs a. tt, λ κs a p x y u v e f. let q = one_answer e f in (q.0, refl also q.1 also refl), λ κs a p x u e h. refl also put_back (unchanged _ _ _ _ _ e h).0 also refl);
      of_start_time = (λ κs a. tt, λ κs a p x y u v e f. let q = one_answer e f in (q.0, refl also q.1 also refl), λ κs a p x u e h. refl also put_back (unchanged _ _ _ _ _ e h).0 also refl);
      of_default_namespace = (λ κs a. tt, λ κs a p x y u v e f. let q = one_answer e f in (q.0, refl also q.1 also refl), λ κs a p x u e h. refl also put_back (unchanged _ _ _ _ _ e h).0 also refl);
      of_namespace_count = (λ κs a. tt, λ κs a p x y u v e f. let q = one_answer e f in (q.0, refl also q.1 also refl), λ κs a p x u e h. refl also put_back (unchanged _ _ _ _ _ e h).0 also refl);
      of_uri = (λ κs a. tt, λ κs a p x y u v e f. let q = one_answer e f in (q.0, refl also q.1 also refl), λ κs a p x u e h. refl also put_back (unchanged _ _ _ _ _ e h).0 also refl);
      of_short_name = (λ κs a. tt, λ κs a p x y u v e f. let q = one_answer e f in (q.0, refl also q.1 also refl), λ κs a p x u e h. refl also put_back (unchanged _ _ _ _ _ e h).0 also refl);
      of_service_count = (λ κs a. tt, λ κs a p x y u v e f. let q = one_answer e f in (q.0, refl also q.1 also refl), λ κs a p x u e h. refl also put_back (unchanged _ _ _ _ _ e h).0 also refl);
      of_service = (λ κs a. tt, λ κs a p x y u v e f. let q = one_answer e f in (q.0, refl also q.1 also refl), λ κs a p x u e h. refl also put_back (unchanged _ _ _ _ _ e h).0 also refl);
      of_document_id = (λ κs a. tt, λ κs a p x y u v e f. let q = one_answer e f in (q.0, refl also q.1 also refl), λ κs a p x u e h. refl also put_back (unchanged _ _ _ _ _ e h).0 also refl);
      of_open_layout = (λ κs a. tt, λ κs a p x y u v e f. let q = one_answer e f in (q.0, refl also q.1 also refl), λ κs a p x u e h. refl also put_back (unchanged _ _ _ _ _ e h).0 also refl);
      of_type_name = (λ κs a. tt, λ κs a p x y u v e f. let q = one_answer e f in (q.0, refl also q.1 also refl), λ κs a p x u e h. refl also put_back (unchanged _ _ _ _ _ e h).0 also refl);
      of_attribute_count = (λ κs a. tt, λ κs a p x y u v e f. let q = one_answer e f in (q.0, refl also q.1 also q.2 also refl), λ κs a p x u e h. let q = unchanged _ _ _ _ _ e h in refl also put_back q.0 also put_back q.1 also refl);
      of_attribute_name = (λ κs a. tt, λ κs a p x y u v e f. let q = one_answer e f in (q.0, refl also q.1 also refl), λ κs a p x u e h. refl also put_back (unchanged _ _ _ _ _ e h).0 also refl);
      of_attribute_type = (λ κs a. tt, λ κs a p x y u v e f. let q = one_answer e f in (q.0, refl also q.1 also q.2 also refl), λ κs a p x u e h. let q = unchanged _ _ _ _ _ e h in refl also put_back q.0 also put_back q.1 also refl);
      of_open_row = (λ κs a. tt, λ κs a p x y u v e f. let q = one_answer e f in (q.0, refl also q.1 also refl), λ κs a p x u e h. refl also put_back (unchanged _ _ _ _ _ e h).0 also refl);
      of_value_number = (λ κs a. tt, λ κs a p x y u v e f. let q = one_answer e f in (q.0, refl also q.1 also refl), λ κs a p x u e h. refl also put_back (unchanged _ _ _ _ _ e h).0 also refl);
      of_value_octets = (λ κs a. tt, λ κs a p x y u v e f. let q = one_answer e f in (q.0, refl also q.1 also refl), λ κs a p x u e h. refl also put_back (unchanged _ _ _ _ _ e h).0 also refl);
      of_value = (λ κs a. tt, λ κs a p x y u v e f. let q = one_answer e f in (q.0, refl also q.1 also refl), λ κs a p x u e h. refl also put_back (unchanged _ _ _ _ _ e h).0 also refl);
      of_close_row = (λ κs a. tt, λ κs a p x y u v e f. let q = one_answer e f in (q.0, refl also q.1 also refl), λ κs a p x u e h. refl also put_back (unchanged _ _ _ _ _ e h).0 also refl);
      of_give_up = (λ κs a. tt, λ κs a p x y u v e f. let q = one_answer e f in (q.0, refl also q.1 also refl), λ κs a p x u e h. refl also put_back (unchanged _ _ _ _ _ e h).0 also refl);
      of_finish = (λ κs a. tt, λ κs a p x y u v e f. let q = one_answer e f in (q.0, refl also q.1 also refl), λ κs a p x u e h. refl also put_back (unchanged _ _ _ _ _ e h).0 also refl);
    }
