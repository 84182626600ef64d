-- Demand 1 holds of all entry points: each crate proves it of its own contracts, and the promises have the lists of numbers. Assumes nothing.
use Rattle.reading.proofs.Contracts as reading
use Rattle.runs.proofs.Contracts as runs
use Rattle.questions.proofs.Contracts as questions
use Rattle.header_questions.proofs.Contracts as header_questions
use Rattle.writing.proofs.Contracts as writing
use Rattle.collector.proofs.Contracts as collector
use Rattle.promises.proofs.Given.{refusals}
use Rattle.promises_questions.proofs.Each as asked
use Rattle.promises_writing.proofs.Numbers as written
use Rattle.promises_calls.specs.Demand1.{Demand1}

pub demand_1 : Demand1
demand_1 =
    record {
      of_reading = reading.contracts;
      of_runs = runs.contracts;
      of_questions = questions.contracts;
      of_header_questions = header_questions.contracts;
      of_writing = writing.contracts;
      of_collector = collector.contracts;
      refusals = refusals;
      asked_numbers = asked.numbers;
      written_numbers = written.numbers;
    }
