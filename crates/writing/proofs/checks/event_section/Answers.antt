-- `event_section` answers as the events and the end do.
use Rattle.writing.proofs.RowTests.{events_ended}
use Rattle.std.proofs.Common.{rules}
use Rattle.writing.proofs.checks.event_section.Goals as goal

pub returns : goal.returns
returns c = search (rules, events_ended)
