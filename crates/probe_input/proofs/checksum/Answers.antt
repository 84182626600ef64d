-- `probe_input::checksum` meets its contract: each turn takes one octet off what is to be gone through. Assumes nothing.
use Rattle.std.proofs.Common.{◌≡◌, ℕ, ◌+◌, ◌*◌, ◌%◌, ◌^◌, ◌<◌, List, length, get_or, drop, sym, refl, ◌∙◌, add-one, arith, drop-cons}
use lib.Bits.{bit_xor}
use lib.Seq.{drop-length}
use Rattle.probe_input.specs.Words.{sum_from}
use Rattle.probe_input.proofs.checksum.Goals as goal

further : (xs : List ℕ) (h i : ℕ) {w r : ℕ} → i < length xs → w ≡ get_or xs i 0 → r ≡ bit_xor h w * 0x100000001b3 % 2 ^ 64
    → sum_from r (drop (i + 1) xs) ≡ sum_from h (drop i xs)
unfolding sum_from
further xs h i inside p q = rw (add-one i, drop-cons xs i 0 inside, q, p) refl

done : (xs : List ℕ) (h i : ℕ) → i ≡ length xs → sum_from h (drop i xs) ≡ h
unfolding sum_from
done xs h i all = rw (all, drop-length xs) refl

pub loop-i-preserved : goal.loop-i-preserved
loop-i-preserved c =
    let l = c.loop-i in
    (omega arith, further c.args.xs.now l.h l.i c.loop-i-test.true c.from.ensures c.times_prime-h.ensures ∙ l.invariant.1)

pub returns : goal.returns
returns c =
    let l = c.loop-i in
    sym (done c.args.xs.now l.h l.i (omega arith)) ∙ l.invariant.1
