-- `number_at` reads a two-byte number.
use Rattle.recording.proofs.Answers.{number_is}
use Rattle.std.proofs.Common.{rules}
use Rattle.recording.proofs.numbers.number_at.Goals as goal

pub returns : goal.returns
returns c = search (rules, number_is)
