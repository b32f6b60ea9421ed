-- `entry_at` reads the three numbers of an event.
use Rattle.recording.proofs.Answers.{entry_is}
use Rattle.std.proofs.Common.{rules}
use Rattle.recording.proofs.numbers.entry_at.Goals as goal

pub returns : goal.returns
returns c = search (rules, entry_is)
