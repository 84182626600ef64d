-- A number's octets by its width, and what holds in an open row behind 17 and 20. Assumes nothing.
use mathlib.Core.Path.{◌≡◌, sym, ap, ◌∙◌}
use mathlib.Core.List.{List, [], ◌∷◌, ◌++◌}
use Prim.Native.Nat.{ℕ, zero, suc, ◌+◌, ◌-◌, ◌/◌, ◌%◌, ◌≤◌}
use native.Mathlib.Omega.{arith}
use native.Mathlib.Nat.{add-zero, add-suc}
use lib.ListN.{length, take, drop, drop_of_length-le}
use lib.Seq.{drop-append-le}
use Rattle.octets.specs.Limits.{most_rows}
use Rattle.octets.specs.Writing.{word, Each, Octet}
use Rattle.octets.proofs.Spans.{length_word}
use Rattle.octets.proofs.Copies.{rest}
use Rattle.layouts.specs.Book.{IsBook}
use Rattle.layouts.proofs.Checks.{good_book}
use Rattle.writer.specs.declared.Wanted.TheVariants as wants
use Rattle.writer.specs.declared.State.{State}
use Rattle.writer.specs.Writer.{room, same_turn}
use Rattle.writer.proofs.Bounds.{bounds, turn_count, open_head}
use Rattle.writer.proofs.Tests.{Ready}

-- A number's own octets are the last of its eight.
last_octets : (w k n : ℕ) → drop k (word (k + w) n) ≡ word w n
unfolding word
last_octets zero k n = rw (add-zero k) (drop_of_length-le (word k n) {i = k} (omega (arith, length_word k n)))
last_octets (suc w) k n =
    rw (add-suc k w, drop-append-le k (word (k + w) (n / 256)) (n % 256 ∷ []) (omega (arith, length_word (k + w) (n / 256))))
    (ap (λ (xs : List ℕ). xs ++ n % 256 ∷ []) (last_octets w k (n / 256)))

pub number_octets : (w n : ℕ) {h : List ℕ} → w ≤ 8 → h ≡ word 8 n → take (8 - (8 - w)) (drop (8 - w) h) ≡ word w n
number_octets w n {h} k e =
    let long : 8 ≡ length h = sym (rw e (length_word 8 n)) in
    let eight : 8 ≡ 8 - w + w = omega arith in
    ap (λ (m : ℕ). take (m - (8 - w)) (drop (8 - w) h)) long
    ∙ (rest h (8 - w) ∙ rw e (ap (λ (m : ℕ). drop (8 - w) (word m n)) eight ∙ last_octets w (8 - w) n))

-- What holds behind 17 and 20 in an open row.
pub record InRow (s : State) (size : ℕ) (lent : List ℕ) (used : ℕ) : Type 0 where
  pub book : IsBook lent used
  pub head : s.start + 12 ≤ s.place
  pub place : s.place ≤ room size
  pub most : s.count ≤ 64
  pub rows : s.rows ≤ most_rows

pub in_row : (s : State) (size : ℕ) (lent : List ℕ) (used : ℕ) → Each Octet lent → Ready s size lent used (same_turn s.turn wants.Value) → InRow s size lent used
in_row s size lent used o r =
    let w = bounds s size r.within in
    record {
      book = good_book lent used o r.book;
      head = open_head s size w wants.Value r.in_turn (omega arith);
      place = w.place;
      most = (turn_count s size w wants.Value r.in_turn).1;
      rows = w.rows;
    }
