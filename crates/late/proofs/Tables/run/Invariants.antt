-- `late::Tables::run` meets its contract: before event n the tables show the events before n, and what is left says what the whole says.
use Rattle.late.proofs.Runs.{Running}
use Rattle.late.proofs.Tables.run.Given as goal

abbrev pub invariant-loop-n : goal.invariant-loop-n
invariant-loop-n l = Running l.file l.counts l.initial.self l.self l.n
