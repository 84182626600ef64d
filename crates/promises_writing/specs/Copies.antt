-- Reading and writing join: what is handed out of a document, given to the writer's calls, is given as the document means it.
use Rattle.std.specs.Prelude.{ℕ, ◌≡◌, List}
use Rattle.octets.specs.Reading.{ok}
use Rattle.octets.specs.Writing.{Each, Octet}
use Rattle.kinds.specs.Kinds.{signed, unsigned}
use Rattle.rows.specs.Row.{Field}
use Rattle.headers.specs.Header.{Header, header_at}
use Rattle.elements.specs.Element as element
use Rattle.elements.specs.Steps.{step_at}
use Rattle.reading.specs.Answers.{head_of}
use Rattle.questions.specs.Questions.{field_asked}
use Rattle.kinds.specs.Values.{octets_of, value_of}
use Rattle.writer.specs.Writer.{start_time, value, value_call, finish}

-- Of a document's octets: the header's start, the value and octets of any field, over any lent book, and the end's time.
pub record Copies (s : List ℕ) : Type 0 where
  pub start : (h : Header) (next : ℕ) → header_at s ≡ ok h next → start_time (unsigned 8 (head_of h next).start) ≡ start_time h.start
  pub field : (at rows : ℕ) (octets : List ℕ) (used n : ℕ) (f : Field) (next : ℕ) → Each Octet octets → field_asked s at rows octets used n ≡ ok f next
      → value_call (value_of f.attribute.kind.basic f.value) (octets_of f.value) ≡ value f.attribute.kind.basic f.value
  pub end : (at rows : ℕ) (octets : List ℕ) (used : ℕ) (st : element.Stepped) (next n t : ℕ) → Each Octet octets → step_at s at rows octets used ≡ ok st next
      → st.element ≡ element.finish n t → finish (unsigned 8 (signed 8 t)) ≡ finish t
