-- `event_at` reads event n of an accepted file.
use Rattle.recording.proofs.Answers.{event_room, event_is}
use Rattle.std.proofs.Common.{rules}
use Rattle.recording.proofs.event_at.Goals as goal

pub entry_at-requires : goal.entry_at-requires
entry_at-requires c = search (rules, event_room)

pub returns : goal.returns
returns c = search (rules, event_is)
