-- `event_of` tells the event by its kind.
use Rattle.recording.proofs.Answers.{is_read, is_write, is_crossing, is_no_kind}
use Rattle.std.proofs.Common.{rules}
use Rattle.recording.proofs.event_of.Goals as goal

pub returns-in-Ok-Read : goal.returns-in-Ok-Read
returns-in-Ok-Read c = search (rules, is_read, is_write, is_crossing, is_no_kind)

pub returns-in-Ok-Write : goal.returns-in-Ok-Write
returns-in-Ok-Write c = search (rules, is_read, is_write, is_crossing, is_no_kind)

pub returns-in_default : goal.returns-in_default
returns-in_default c = search (rules, is_read, is_write, is_crossing, is_no_kind)

pub returns-in_default-2 : goal.returns-in_default-2
returns-in_default-2 c = search (rules, is_read, is_write, is_crossing, is_no_kind)
