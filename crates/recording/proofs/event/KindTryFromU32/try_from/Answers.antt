-- A number is a kind or none.
use Rattle.recording.proofs.Answers.{no_kind}
use Rattle.std.proofs.Common.{rules}
use Rattle.recording.proofs.event.KindTryFromU32.try_from.Goals as goal

pub returns-in_default : goal.returns-in_default
returns-in_default c = search (rules, no_kind)
