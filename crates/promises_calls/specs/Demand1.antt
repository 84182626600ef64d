-- Demand 1, of all entry points. Of each contract itself: every input is taken, one answer and one final content of all that is lent are allowed for it, and a refusal leaves all that is lent as it was. And which numbers refuse: each list is exact.
use Rattle.reading.proofs.Contracts as reading
use Rattle.runs.proofs.Contracts as runs
use Rattle.questions.proofs.Contracts as questions
use Rattle.header_questions.proofs.Contracts as header_questions
use Rattle.writing.proofs.Contracts as writing
use Rattle.collector.proofs.Contracts as collector
use Rattle.promises.specs.Refusals.{Refusals}
use Rattle.promises_questions.specs.Numbers as asked
use Rattle.promises_writing.specs.Numbers as written

pub record Demand1 : Type 0 where
  pub of_reading : reading.Contracts
  pub of_runs : runs.Contracts
  pub of_questions : questions.Contracts
  pub of_header_questions : header_questions.Contracts
  pub of_writing : writing.Contracts
  pub of_collector : collector.Contracts
  -- The header check, the step and the whole check, for C as for Rattle; a run and the questions; each of the writer's calls.
  pub refusals : Refusals
  pub asked_numbers : asked.Numbers
  pub written_numbers : written.Numbers
