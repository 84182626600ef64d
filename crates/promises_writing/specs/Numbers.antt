-- Which refusal numbers each of the writer's calls gives: all of those listed for it, and no other. A list is in the order in which its call tries them.
use Rattle.std.specs.Prelude.{ℕ, List, [], ◌∷◌, Bool}
use Rattle.kinds.specs.declared.Basic.{Basic}
use Rattle.kinds.specs.declared.Value.{Value}
use Rattle.kinds.specs.Forms.{bits, held}
use Rattle.promises.specs.Refusals.{Gives}
use Rattle.writer.specs.declared.State.{State}
use Rattle.writer.specs.Writer.{Call, call}
use Rattle.writer.specs.Writer as writer

-- What a call is given: the state, the lent buffer and book, the used count, and its own argument.
pub record Made (A : Type 0) : Type 0 where
  pub state : State
  pub buffer : List ℕ
  pub book : List ℕ
  pub used : ℕ
  pub argument : A

-- The arguments of a call that has two: a row's number and whether it is stated; a type and a number or octets of it; a value as reading hands it out and its octets.
pub record Opening : Type 0 where
  pub number : ℕ
  pub is_stated : Bool

pub record Typed (A : Type 0) : Type 0 where
  pub basic : Basic
  pub given : A

pub record Handed : Type 0 where
  pub value : Value
  pub octets : List ℕ

-- The numbers that a call gives, whatever its argument.
abbrev pub Refuses : {A : Type 0} → (A → Call) → List ℕ → Type 0
Refuses {A} f ns = Gives (λ (i : Made A). call i.state i.buffer i.book i.used (f i.argument)) ns

-- A field without a fault of its own: 17 for the book, 20 out of turn or out of bounds, 23 without room.
abbrev pub field_numbers : List ℕ
field_numbers = 17 ∷ 20 ∷ 23 ∷ []

-- A string: 24 too.
abbrev pub text_numbers : List ℕ
text_numbers = 17 ∷ 20 ∷ 24 ∷ 23 ∷ []

abbrev pub count_numbers : List ℕ
count_numbers = 17 ∷ 20 ∷ 4 ∷ 23 ∷ []

abbrev pub id_numbers : List ℕ
id_numbers = 17 ∷ 20 ∷ 5 ∷ 23 ∷ []

-- The two calls that may complete a layout.
abbrev pub attributes_numbers : List ℕ
attributes_numbers = 17 ∷ 20 ∷ 4 ∷ 10 ∷ 11 ∷ 23 ∷ []

abbrev pub type_numbers : List ℕ
type_numbers = 17 ∷ 20 ∷ 9 ∷ 8 ∷ 10 ∷ 11 ∷ 23 ∷ []

abbrev pub row_numbers : List ℕ
row_numbers = 17 ∷ 20 ∷ 12 ∷ 23 ∷ []

-- A value that is a number, and one that may be a string.
abbrev pub number_numbers : List ℕ
number_numbers = 17 ∷ 20 ∷ 12 ∷ 21 ∷ 23 ∷ []

abbrev pub octets_numbers : List ℕ
octets_numbers = 17 ∷ 20 ∷ 12 ∷ 21 ∷ 24 ∷ 23 ∷ []

-- Closing puts its octets over some that stand, and so does giving up: room is there.
abbrev pub close_numbers : List ℕ
close_numbers = 17 ∷ 20 ∷ 12 ∷ 22 ∷ []

abbrev pub give_up_numbers : List ℕ
give_up_numbers = 17 ∷ 20 ∷ []

-- What is promised of the numbers.
pub record Numbers : Type 0 where
  pub recorder : Refuses writer.recorder text_numbers
  pub start_time : Refuses writer.start_time field_numbers
  pub default_namespace : Refuses writer.default_namespace text_numbers
  pub namespace_count : Refuses writer.namespace_count count_numbers
  pub uri : Refuses writer.uri text_numbers
  pub short_name : Refuses writer.short_name text_numbers
  pub service_count : Refuses writer.service_count count_numbers
  pub service : Refuses writer.service text_numbers
  pub document_id : Refuses writer.document_id id_numbers
  pub open_layout : Refuses writer.open_layout field_numbers
  pub type_name : Refuses writer.type_name text_numbers
  pub attribute_count : Refuses writer.attribute_count attributes_numbers
  pub attribute_name : Refuses writer.attribute_name text_numbers
  pub attribute_type : Refuses writer.attribute_type type_numbers
  pub open_row : Refuses (λ (a : Opening). writer.open_row a.number a.is_stated) row_numbers
  pub value_number : Refuses (λ (a : Typed ℕ). writer.value a.basic (bits a.given)) number_numbers
  pub value_octets : Refuses (λ (a : Typed (List ℕ)). writer.value a.basic (held a.given)) octets_numbers
  pub value : Refuses (λ (a : Handed). writer.value_call a.value a.octets) octets_numbers
  pub close_row : Refuses (λ (a : Unit {0}). writer.close_row) close_numbers
  pub give_up : Refuses (λ (a : Unit {0}). writer.give_up) give_up_numbers
  pub finish : Refuses writer.finish field_numbers
