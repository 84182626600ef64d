-- Which refusal numbers a run and the questions give: all of those listed for each, and no other. A run gives a step's, and the header question the header check's.
use Rattle.std.specs.Prelude.{ℕ, List, [], ◌∷◌}
use Rattle.elements.specs.Walk.{lent_at}
use Rattle.runs.specs.Runs.{run_asked}
use Rattle.questions.specs.Questions.{field_asked, layout_asked, attribute_asked}
use Rattle.header_questions.specs.Questions.{namespace_asked, service_asked}
use Rattle.promises.specs.Refusals.{Gives, header_numbers, step_numbers, Inputs}

-- Field n of a row.
abbrev pub field_numbers : List ℕ
field_numbers = 1 ∷ 2 ∷ 7 ∷ 12 ∷ 13 ∷ 14 ∷ 17 ∷ 18 ∷ 19 ∷ 24 ∷ []

-- A layout, which may be one more than the book takes.
abbrev pub layout_numbers : List ℕ
layout_numbers = 1 ∷ 2 ∷ 4 ∷ 7 ∷ 8 ∷ 9 ∷ 10 ∷ 11 ∷ 17 ∷ 19 ∷ 24 ∷ []

-- Attribute n of a layout, and item n of one of the header's lists: 18 too.
abbrev pub attribute_numbers : List ℕ
attribute_numbers = 18 ∷ layout_numbers

abbrev pub listed_numbers : List ℕ
listed_numbers = 18 ∷ header_numbers

-- A question's inputs: a step's and an index, or a document and an index.
pub record Indexed : Type 0 where
  pub step : Inputs
  pub index : ℕ

pub record Listed : Type 0 where
  pub document : List ℕ
  pub index : ℕ

-- What is promised of the numbers.
pub record Numbers : Type 0 where
  pub run : Gives (λ (i : Inputs). run_asked i.document (lent_at i.place i.rows i.octets i.used)) step_numbers
  pub field : Gives (λ (i : Indexed). field_asked i.step.document i.step.place i.step.rows i.step.octets i.step.used i.index) field_numbers
  pub layout : Gives (λ (i : Inputs). layout_asked i.document i.place i.rows i.octets i.used) layout_numbers
  pub attribute : Gives (λ (i : Indexed). attribute_asked i.step.document i.step.place i.step.rows i.step.octets i.step.used i.index) attribute_numbers
  pub namespace : Gives (λ (i : Listed). namespace_asked i.document i.index) listed_numbers
  pub service : Gives (λ (i : Listed). service_asked i.document i.index) listed_numbers
