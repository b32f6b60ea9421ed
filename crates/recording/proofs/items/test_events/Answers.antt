-- `test_events` answers as the tests of the events do: what is still to come answers the same at each turn.
use Rattle.recording.proofs.Tests.{event_byte}
use Rattle.recording.proofs.Answers.{events_refused, events_next, events_end}
use Rattle.std.proofs.Common.{rules}
use Rattle.recording.proofs.items.test_events.Goals as goal

pub overflow_add-at-in-Err : goal.overflow_add-at-in-Err
overflow_add-at-in-Err g c = search (rules, event_byte)

pub returns-in-Err : goal.returns-in-Err
returns-in-Err g c = search (rules, events_refused)

pub loop-n-preserved : goal.loop-n-preserved
loop-n-preserved g c = search (rules, events_next)

pub returns : goal.returns
returns g c = search (rules, events_end)
