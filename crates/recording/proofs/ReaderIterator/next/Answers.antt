-- A reader moves on: less of the file is left after each event.
use Rattle.recording.proofs.Answers.{step_fewer}
use Rattle.std.proofs.Common.{rules}
use Rattle.recording.proofs.ReaderIterator.next.Goals as goal

pub returns-clause-goes : goal.returns-clause-goes
returns-clause-goes c = search (rules, step_fewer)
