-- `field_allowed` tells the field numbers that an event of a kind may have.
use Rattle.recording.proofs.Answers.{field_crossing, field_read, field_write}
use Rattle.std.proofs.Common.{rules}
use Rattle.recording.proofs.event.field_allowed.Goals as goal

pub returns-in-Crossing : goal.returns-in-Crossing
returns-in-Crossing c = search (rules, field_crossing, field_read, field_write)

pub returns-in_default : goal.returns-in_default
returns-in_default c = search (rules, field_crossing, field_read, field_write)
