-- What the own fault of a value and of closing a row is, by the row's next field; and the octets of a number.
use Rattle.std.specs.Prelude.{ℕ, Bool, ◌&&◌, eqb}
use Rattle.kinds.specs.declared.Basic.{Basic}
use Rattle.kinds.specs.declared.Form.{Form}
use Rattle.kinds.specs.declared.Form.TheVariants as form
use Rattle.kinds.specs.Kinds.{code_of}
use Rattle.writing_parts.specs.declared.Next.{Next}
use Rattle.writing_parts.specs.declared.Next.TheVariants as next
use Rattle.writing_parts.specs.Faults.{Fault, Refused, fine, unless}

-- The octets of a number of a form.
abbrev pub width_of : Form → ℕ
width_of (form.Fixed w) = w
width_of form.Truth = 1
width_of (form.Led rule) = 0

-- The own fault of a value, by the next field and whether it suits its own type; and of closing a row, by the next field.
abbrev pub value_fault : Next → Basic → Bool → Fault
value_fault next.Unknown b fits = Refused 12
value_fault next.Missing b fits = Refused 21
value_fault (next.Of a) b fits = unless (eqb (code_of a) (code_of b) && fits) 21

abbrev pub close_fault : Next → Fault
close_fault next.Unknown = Refused 12
close_fault next.Missing = fine
close_fault (next.Of a) = Refused 22
