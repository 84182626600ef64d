-- The contracts of fields themselves: each allows one answer and one content of all that is lent. Assumes nothing.
use Prim.Native.Nat.{ℕ}
use mathlib.Core.Path.{◌≡◌, refl, sym, ap, ◌∙◌}
use mathlib.Core.List.{List}
use mathlib.Core.Bool.{Bool, true, false}
use native.Mathlib.Omega.{arith}
use Rattle.std.specs.Prelude.{Option, Some, None, Result, Ok, Err}
use Rattle.octets.specs.OfContracts.{Once}
use Rattle.octets.proofs.Alike.{◌also◌}
use Rattle.writing_parts.specs.Answers.{Puts, Completes}
use Rattle.octets.specs.declared.Fault as octets
use Rattle.writing_parts.proofs.Faults.{or_fine, same_number, one_fault}
use Rattle.writing_parts.proofs.word4 as word4
use Rattle.writing_parts.proofs.word8 as word8
use Rattle.writing_parts.proofs.pair as pair
use Rattle.writing_parts.proofs.fits_octets as fits_octets
use Rattle.writing_parts.proofs.fits as fits
use Rattle.writing_parts.proofs.lay3 as lay3
use Rattle.writing_parts.proofs.room_of as room_of
use Rattle.writing_parts.proofs.put_runs as put_runs
use Rattle.writing_parts.proofs.lay_zeros as lay_zeros
use Rattle.writing_parts.proofs.next_of as next_of
use Rattle.writing_parts.proofs.row_next as row_next
use Rattle.writing_parts.proofs.length_octets as length_octets
use Rattle.writing_parts.proofs.lay_length as lay_length
use Rattle.writing_parts.proofs.meet as meet
use Rattle.writing_parts.proofs.enter as enter
use Rattle.writing_parts.proofs.complete as complete

pub record Contracts : Type 0 where
  pub of_word4 : Once word4.Kinds.ps word4.Kinds.r word4.Reads.Pre word4.Reads.Post
  pub of_word8 : Once word8.Kinds.ps word8.Kinds.r word8.Reads.Pre word8.Reads.Post
  pub of_pair : Once pair.Kinds.ps pair.Kinds.r pair.Reads.Pre pair.Reads.Post
  pub of_fits_octets : Once fits_octets.Kinds.ps fits_octets.Kinds.r fits_octets.Reads.Pre fits_octets.Reads.Post
  pub of_fits : Once fits.Kinds.ps fits.Kinds.r fits.Reads.Pre fits.Reads.Post
  pub of_lay3 : Once lay3.Kinds.ps lay3.Kinds.r lay3.Reads.Pre lay3.Reads.Post
  pub of_room_of : Once room_of.Kinds.ps room_of.Kinds.r room_of.Reads.Pre room_of.Reads.Post
  pub of_put_runs : Once put_runs.Kinds.ps put_runs.Kinds.r put_runs.Reads.Pre put_runs.Reads.Post
  pub of_lay_zeros : Once lay_zeros.Kinds.ps lay_zeros.Kinds.r lay_zeros.Reads.Pre lay_zeros.Reads.Post
  pub of_next_of : Once next_of.Kinds.ps next_of.Kinds.r next_of.Reads.Pre next_of.Reads.Post
  pub of_row_next : Once row_next.Kinds.ps row_next.Kinds.r row_next.Reads.Pre row_next.Reads.Post
  pub of_length_octets : Once length_octets.Kinds.ps length_octets.Kinds.r length_octets.Reads.Pre length_octets.Reads.Post
  pub of_lay_length : Once lay_length.Kinds.ps lay_length.Kinds.r lay_length.Reads.Pre lay_length.Reads.Post
  pub of_meet : Once meet.Kinds.ps meet.Kinds.r meet.Reads.Pre meet.Reads.Post
  pub of_enter : Once enter.Kinds.ps enter.Kinds.r enter.Reads.Pre enter.Reads.Post
  pub of_complete : Once complete.Kinds.ps complete.Kinds.r complete.Reads.Pre complete.Reads.Post

not_both : {C : Type 0} {t : Bool} → t ≡ true → t ≡ false → C
not_both e f = absurd (let z : ◌≡◌ {A = ℕ} 0 1 = cc in omega arith)

-- Octets are put or there is no room, and the buffer is given for both.
puts_once : (buffer b c : List ℕ) (at : ℕ) (xs : List ℕ) (x y : Option ℕ) → Puts buffer b at xs x → Puts buffer c at xs y → (x ≡ y) × (b ≡ c)
puts_once buffer b c at xs (Some p) (Some q) e f = (ap Some (e.1 ∙ sym f.1), e.2 ∙ sym f.2)
puts_once buffer b c at xs (Some p) None e f = not_both e.0 f.0
puts_once buffer b c at xs None (Some q) e f = not_both f.0 e.0
puts_once buffer b c at xs None None e f = (refl, e.1 ∙ sym f.1)

-- A layout is completed or refused, and buffer and book are given for both.
completes_once : (buffer b c lent k l : List ℕ) (used from at : ℕ) (xs : List ℕ) (x y : Result (ℕ × ℕ) octets.Fault) → Completes buffer b lent k used from at xs x
    → Completes buffer c lent l used from at xs y → (x ≡ y) × (b ≡ c) × (k ≡ l)
completes_once buffer b c lent k l used from at xs (Ok (p, t)) (Ok (q, u)) e f =
    let place : p ≡ q = e.1.1 ∙ sym f.1.1 in
    let total : t ≡ u = e.2 ∙ sym f.2 in
    (λ i. Ok (place i, total i), e.1.2 ∙ sym f.1.2, e.3 ∙ sym f.3)
completes_once buffer b c lent k l used from at xs (Ok (p, t)) (Err m) e f = absurd (or_fine 23 f.0 e.0 e.1.0)
completes_once buffer b c lent k l used from at xs (Err n) (Ok (q, u)) e f = absurd (or_fine 23 e.0 f.0 f.1.0)
completes_once buffer b c lent k l used from at xs (Err n) (Err m) e f =
    (ap Err (one_fault n m (same_number (sym e.0 ∙ f.0))), e.1 ∙ sym f.1, e.2 ∙ sym f.2)

pub contracts : Contracts
contracts =
    record {
      of_word4 = λ κs a p x y u v e f. (e ∙ sym f, refl);
      of_word8 = λ κs a p x y u v e f. (e ∙ sym f, refl);
      of_pair = λ κs a p x y u v e f. (e ∙ sym f, refl);
      of_fits_octets = λ κs a p x y u v e f. (e ∙ sym f, refl);
      of_fits = λ κs a p x y u v e f. (e ∙ sym f, refl);
      of_lay3 = λ κs a p x y u v e f. (e.0 ∙ sym f.0, (e.1 ∙ sym f.1) also refl);
      of_room_of = λ κs a p x y u v e f. (e ∙ sym f, refl);
      of_put_runs = λ κs a p x y u v e f. let q = puts_once _ _ _ _ _ x y e f in (q.0, q.1 also refl);
      of_lay_zeros = λ κs a p x y u v e f. (refl, (e ∙ sym f) also refl);
      of_next_of = λ κs a p x y u v e f. (e ∙ sym f, refl);
      of_row_next = λ κs a p x y u v e f. (e ∙ sym f, refl);
      of_length_octets = λ κs a p x y u v e f. (e ∙ sym f, refl);
      of_lay_length = λ κs a p x y u v e f. (refl, (e ∙ sym f) also refl);
      of_meet = λ κs a p x y u v e f. (e ∙ sym f, refl);
      of_enter = λ κs a p x y u v e f. (e.0 ∙ sym f.0, (e.1 ∙ sym f.1) also refl);
      of_complete = λ κs a p x y u v e f. let q = completes_once a.0.now _ _ a.1.0.now _ _ a.1.1.0 a.1.1.1.0 a.1.1.1.1.0 a.1.1.1.1.1.0.now x y e f in (q.0, q.1 also q.2 also refl);
    }
