-- `test_event` answers as the tests within an event do: one law for each way out.
use Rattle.recording.proofs.Answers.{kind_refused, worker_refused, field_refused, event_fine}
use Rattle.std.proofs.Common.{rules}
use Rattle.recording.proofs.event.test_event.Goals as goal

pub returns-in_default : goal.returns-in_default
returns-in_default c = search (rules, kind_refused, worker_refused, field_refused, event_fine)

pub returns-then-workers-e : goal.returns-then-workers-e
returns-then-workers-e c = rw c.at-then-workers-e.ensures (worker_refused c.args.workers c.args.fields c.args.e c.in-Ok.kind (search rules) (search rules))

pub returns-then-not-field_allowed : goal.returns-then-not-field_allowed
returns-then-not-field_allowed c = search (rules, kind_refused, worker_refused, field_refused, event_fine)

pub returns : goal.returns
returns c = search (rules, kind_refused, worker_refused, field_refused, event_fine)
