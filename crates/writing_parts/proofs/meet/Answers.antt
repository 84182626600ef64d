-- `writing_parts::meet` meets its contract: the two runs are judged by where the number that they begin with was looked up. Assumes nothing.
use Prim.Native.Nat.{ℕ}
use mathlib.Core.Path.{◌≡◌, sym, ◌∙◌, subst}
use mathlib.Core.List.{List, ◌++◌}
use lib.ListN.{length, take}
use Rattle.octets.specs.Reading.{be}
use Rattle.octets.specs.Writing.{Each, Octet}
use Rattle.octets.proofs.Spans.{each_octet}
use Rattle.layouts.specs.Book.{Book, book_in}
use Rattle.layouts.specs.Answers.{Looks}
use Rattle.layouts.proofs.Lends.{stood}
use Rattle.layouts.proofs.Judging.{be_front}
use Rattle.writing_parts.proofs.Meets.{used_room, used_length, used_small}
use Rattle.writing_parts.proofs.meet.Goals as goal
use Rattle.writing_parts.proofs.meet.Lts
use Rattle.writing_parts.proofs.meet.Reads
use Rattle.writing_parts.proofs.meet.Tie

-- The arguments by names, where the octets of all three slices are known.
module _ (k : Lts.After-shared_slice_known3 Tie.the-claims Reads.Pre Reads.Post) where
  abbrev Octets : List ℕ
  Octets = k.args.book.now

  abbrev Used : ℕ
  Used = k.args.used

  abbrev Held : Book
  Held = book_in Octets Used

  abbrev Front : List ℕ
  Front = k.args.front.now

  abbrev Last : List ℕ
  Last = k.args.last.now

  octets : Each Octet Octets
  octets = each_octet Octets k.shared_slice_known-1.given

  long : Used ≡ length (take Used Octets)
  long = sym (used_length Octets Used octets k.requires.0)

pub judge_runs-requires : goal.judge_runs-requires
judge_runs-requires c =
    let here = c.before.before.before in
    let p = c.requires.0 in
    (used_small (Octets here) (Used here) (octets here) p, (used_room (Octets here) (Used here) (octets here) p).1, stood (take (Used here) (Octets here)) _ (Held here) c.find-looked.result c.find-looked.ensures)

pub returns : goal.returns
returns c =
    let here = c.before.before.before.before in
    let number : c.u32_at.result ≡ be 4 (Front here ++ Last here) 0 = c.u32_at.ensures ∙ sym (be_front 4 (Front here) (Last here) 0 c.requires.1) in
    c.judge_runs.ensures (Held here) (be 4 (Front here ++ Last here) 0)
    (subst (λ (n : ℕ). Looks (take (Used here) (Octets here)) n (Held here) c.find-looked.result) number c.find-looked.ensures)

pub slice_bounds-judge_runs-end : goal.slice_bounds-judge_runs-end
slice_bounds-judge_runs-end c = long c.before.before.before
