-- What the types of the code say, in document 01's numbers.
use Rattle.std.specs.Prelude.{ℕ, Option, Some, None, Result, Ok, Err}
use Rattle.events.specs.Search.{Found, at, none}
use Rattle.events.specs.Verdicts.{accepted, reported}
use Rattle.events.specs.Verdicts as papers
use Rattle.sorts.specs.declared.Worker.{Worker}
use Rattle.tables.specs.declared.Sort.{Sort}
use Rattle.tables.specs.declared.Sort.TheVariants.{WriteAfterWrite, WriteAfterRead, ReadAfterWrite}
use Rattle.tables.specs.declared.Report.{Report}
use Rattle.tables.specs.declared.Objection.{Objection}
use Rattle.tables.specs.declared.Objection.TheVariants.{Refused, Reported}

abbrev pub found_of : Option Worker → Found
found_of (Some w) = at w.0
found_of None = none

abbrev pub sort_number : Sort → ℕ
sort_number WriteAfterWrite = 1
sort_number WriteAfterRead = 2
sort_number ReadAfterWrite = 3

-- event, sort, worker, other worker, field
abbrev pub report_of : Report → papers.Verdict
report_of r = reported r.event r.sort r.worker.0 r.other.0 r.field.0

abbrev pub verdict_of : Result (Unit {0}) Report → papers.Verdict
verdict_of (Ok _) = accepted
verdict_of (Err r) = report_of r

-- what is said of a file: its refusal by number and place, or the verdict on its recording
pub data Said : Type 0 where
  refused : ℕ → ℕ → Said
  judged : papers.Verdict → Said

abbrev pub said_by : Result (Unit {0}) Objection → Said
said_by (Ok _) = judged accepted
said_by (Err (Refused number place)) = refused number place
said_by (Err (Reported r)) = judged (report_of r)
