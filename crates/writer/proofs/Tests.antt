-- A call's tests in their order: 17 and 20, then its own fault, 10 and 11, last 23, and what an accepted one leaves. Assumes nothing.
use mathlib.Core.Path.{◌≡◌, refl, sym, ap, ◌∙◌}
use mathlib.Core.List.{List}
use mathlib.Core.Bool.{Bool, true, false, ◌&&◌}
use Prim.Native.Nat.{ℕ, ◌+◌}
use native.Mathlib.Nat.{add-zero}
use lib.ListN.{length}
use lib.Dec.{leb}
use Rattle.octets.specs.Reading.{is_ok}
use Rattle.octets.specs.Writing.{over}
use Rattle.octets.proofs.Spans.{length_word}
use Rattle.octets.proofs.Copies.{both_true}
use Rattle.layouts.specs.Book.{book_of, book_in}
use Rattle.rows.specs.Row.{length_image}
use Rattle.writing_parts.specs.Faults as faults
use Rattle.writing_parts.specs.Faults.{Fault, fine, unless, ◌or◌}
use Rattle.writing_parts.specs.Answers.{refusal}
use Rattle.writing_parts.proofs.Faults.{both_fine, holds}
use Rattle.writing_parts.proofs.Over.{over_nil}
use Rattle.writer.specs.declared.Wanted.{Wanted}
use Rattle.writer.specs.declared.State.{State}
use Rattle.writer.specs.Writer.{room, bounded, Deed, put, learns, taken, fault_of, deed_answer}
use Rattle.writer.specs.Answers.{Left, left, done, refused, early, late, deed_leaves, rest_leaves}

-- 17, then 20.
module _ (s : State) (size : ℕ) (lent : List ℕ) (used : ℕ) (mine : Bool) where
  pub early_17 : is_ok (book_of lent used) ≡ false → early s size lent used mine ≡ faults.Refused 17
  unfolding early
  early_17 e = rw e refl

  pub early_on : is_ok (book_of lent used) ≡ true → early s size lent used mine ≡ unless (bounded s size && mine) 20
  unfolding early
  early_on e = rw e refl

  -- What holds where neither is given.
  pub record Ready : Type 0 where
    pub book : is_ok (book_of lent used) ≡ true
    pub within : bounded s size ≡ true
    pub in_turn : mine ≡ true

  pub ready : early s size lent used mine ≡ fine → Ready
  unfolding early
  ready e =
      let (f, g) = both_fine (unless (is_ok (book_of lent used)) 17) _ e in
      let (a, b) = both_true (bounded s size) mine (holds _ 20 g) in
      record { book = holds _ 17 f; within = a; in_turn = b }

-- A deed's answer is its first refusal, or goes on behind 17 and 20.
module _ (s : State) (buffer lent : List ℕ) (used : ℕ) (d : Deed) where
  leaves_early : (n : ℕ) → early s (length buffer) lent used d.in_turn ≡ faults.Refused n → deed_leaves s buffer lent used d ≡ left (refused n s.place) buffer lent
  unfolding deed_leaves deed_answer fault_of early
  leaves_early n e = rw e refl

  leaves_ready : early s (length buffer) lent used d.in_turn ≡ fine → deed_leaves s buffer lent used d ≡ rest_leaves s buffer lent used d
  unfolding deed_leaves rest_leaves deed_answer fault_of early late
  leaves_ready e = rw e refl

  pub leaves_fault : (n : ℕ) → d.fault ≡ faults.Refused n → rest_leaves s buffer lent used d ≡ left (refused n s.place) buffer lent
  unfolding rest_leaves late
  leaves_fault n e = rw e refl

  module _ (f : d.fault ≡ fine) where
    pub leaves_late : (n : ℕ) → refusal (learns s buffer (book_in lent used) used d) or unless (leb (d.at + length d.octets) (room (length buffer))) 23 ≡ faults.Refused n
        → rest_leaves s buffer lent used d ≡ left (refused n s.place) buffer lent
    unfolding rest_leaves late
    leaves_late n a = rw (f, a) refl

    module _ (a : refusal (learns s buffer (book_in lent used) used d) ≡ fine) where
      pub leaves_done : leb (d.at + length d.octets) (room (length buffer)) ≡ true
          → rest_leaves s buffer lent used d
          ≡ left (done d.next (used + length (taken s buffer (book_in lent used) used d))) (over buffer d.at d.octets) (over lent used (taken s buffer (book_in lent used) used d))
      unfolding rest_leaves late
      leaves_done e = rw (f, a, e) refl

    -- A deed that completes no layout leaves the book.
    module _ (o : d.completes ≡ false) where
      nothing_new : refusal (learns s buffer (book_in lent used) used d) ≡ fine
      nothing_new = rw o refl

      pub leaves_full : leb (d.at + length d.octets) (room (length buffer)) ≡ false → rest_leaves s buffer lent used d ≡ left (refused 23 s.place) buffer lent
      leaves_full e = leaves_late 23 (rw (nothing_new, e) refl)

      pub leaves_put : leb (d.at + length d.octets) (room (length buffer)) ≡ true
          → rest_leaves s buffer lent used d ≡ left (done d.next used) (over buffer d.at d.octets) lent
      leaves_put e = leaves_done nothing_new e ∙ rw (o, over_nil lent used, add-zero used) refl

  -- The same, from what the code was answered about 17 and 20.
  module _ (r : Fault) (is : r ≡ early s (length buffer) lent used d.in_turn) where
    pub stopped : (n : ℕ) → r ≡ faults.Refused n → left (refused n s.place) buffer lent ≡ deed_leaves s buffer lent used d
    stopped n e = sym (leaves_early n (sym is ∙ e))

    pub passed : r ≡ fine → deed_leaves s buffer lent used d ≡ rest_leaves s buffer lent used d
    passed e = leaves_ready (sym is ∙ e)

    pub at_ready : r ≡ fine → Ready s (length buffer) lent used d.in_turn
    at_ready e = ready s (length buffer) lent used d.in_turn (sym is ∙ e)

-- A deed whose own fault is another. With 17 and 20 put before its own, it leaves behind them what the deed leaves.
abbrev pub with_fault : Deed → Fault → Deed
with_fault d f = record { in_turn = d.in_turn; fault = f; at = d.at; octets = d.octets; next = d.next; completes = d.completes }

module _ (s : State) (buffer lent : List ℕ) (used : ℕ) (d : Deed) {r f : Fault} (is : r ≡ early s (length buffer) lent used d.in_turn) (all : f ≡ r or d.fault) where
  pub all_faults : rest_leaves s buffer lent used (with_fault d f) ≡ deed_leaves s buffer lent used d
  unfolding deed_leaves rest_leaves deed_answer fault_of early late
  all_faults = rw (all, is) refl

  pub all_ready : f ≡ fine → Ready s (length buffer) lent used d.in_turn
  all_ready e = at_ready s buffer lent used d r is (both_fine r d.fault (sym all ∙ e)).0

-- One deed by its parts.
pub same_put : (s : State) (turn : Wanted) (start : ℕ) {f g : Fault} {xs ys : List ℕ} {t u : Wanted} {n m : ℕ} → f ≡ g → xs ≡ ys → t ≡ u → n ≡ m
    → put s turn f xs t n start ≡ put s turn g ys u m start
same_put s turn start e h k i = rw (e, h, k, i) refl

-- Two deeds of one fault leave the same where it is a refusal.
pub same_refused : (s : State) (buffer lent : List ℕ) (used : ℕ) (d e : Deed) (n : ℕ) → d.fault ≡ faults.Refused n → e.fault ≡ d.fault → rest_leaves s buffer lent used d ≡ rest_leaves s buffer lent used e
same_refused s buffer lent used d e n f g = leaves_fault s buffer lent used d n f ∙ sym (leaves_fault s buffer lent used e n (g ∙ f))

-- What a deed leaves is what an equal one leaves.
pub gave : (s : State) (buffer lent : List ℕ) (used : ℕ) {d e : Deed} {x : Left} → x ≡ deed_leaves s buffer lent used d → d ≡ e → x ≡ deed_leaves s buffer lent used e
gave s buffer lent used g h = g ∙ ap (deed_leaves s buffer lent used) h

-- A row's length has four octets.
pub length_size : (t : Bool) (n : ℕ) → length (length_image t n) ≡ 4
length_size true n = length_word 4 n
length_size false n = length_word 4 0xffffffff
