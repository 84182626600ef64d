-- What a call's answer says, with what the lent buffer and book hold then.
use Rattle.std.specs.Prelude.{ℕ, ◌+◌, List, Bool, ◌&&◌, length, leb, Result, Ok, Err}
use Rattle.octets.specs.Reading.{Read, ok, no, is_ok}
use Rattle.layouts.specs.Book.{book_of, book_in}
use Rattle.octets.specs.declared.Refused.{Refused}
use Rattle.writing_parts.specs.Faults.{Fault, unless, ◌or◌}
use Rattle.writing_parts.specs.Answers.{refusal}
use Rattle.writer.specs.declared.State.{State}
use Rattle.writer.specs.declared.Standing.{Standing}
use Rattle.writer.specs.Writer.{Call, Written, room, bounded, Deed, does, learns, left_by, answer_by, deed_answer}

-- An accepted call's state and used count; a refusal's number and place.
abbrev pub standing : State → ℕ → Standing
standing s used = record { state = s; used = used }

abbrev pub done : State → ℕ → Result Standing Refused
done s used = Ok (standing s used)

abbrev pub refused : ℕ → ℕ → Result Standing Refused
refused n p = Err (record { number = n; place = p })

pub record Left : Type 0 where
  pub answer : Result Standing Refused
  pub buffer : List ℕ
  pub book : List ℕ

abbrev pub left : Result Standing Refused → List ℕ → List ℕ → Left
left answer buffer book = record { answer = answer; buffer = buffer; book = book }

-- A refusal has number and place alone, and changes nothing.
abbrev pub left_of : Read Written → List ℕ → List ℕ → Left
left_of (ok w at) buffer lent = left (done w.state w.used) w.buffer w.book
left_of (no n p) buffer lent = left (refused n p) buffer lent

-- A call's first fault in two parts: 17 and 20, and what is behind them.
unfoldable pub early : State → ℕ → List ℕ → ℕ → Bool → Fault
early s size lent used mine = unless (is_ok (book_of lent used)) 17 or unless (bounded s size && mine) 20

unfoldable pub late : State → List ℕ → List ℕ → ℕ → Deed → Fault
late s buffer lent used d =
    d.fault or refusal (learns s buffer (book_in lent used) used d) or unless (leb (d.at + length d.octets) (room (length buffer))) 23

-- All that a deed answers and leaves, and all that it does behind 17 and 20.
unfoldable pub deed_leaves : State → List ℕ → List ℕ → ℕ → Deed → Left
deed_leaves s buffer lent used d = left_of (deed_answer s buffer lent used d) buffer lent

unfoldable pub rest_leaves : State → List ℕ → List ℕ → ℕ → Deed → Left
rest_leaves s buffer lent used d = left_of (answer_by (late s buffer lent used d) s.place (left_by s buffer lent used (book_in lent used) d)) buffer lent

-- All that one call answers and leaves.
unfoldable pub call_leaves : State → List ℕ → List ℕ → ℕ → Call → Left
call_leaves s buffer lent used c = deed_leaves s buffer lent used (does s buffer (book_in lent used) c)

-- A call that is refused.
abbrev pub Refuses : Result Standing Refused → Type 0
Refuses (Ok d) = ⊥
Refuses (Err r) = Unit {0}
