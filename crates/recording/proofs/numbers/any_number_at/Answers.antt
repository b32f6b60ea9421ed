-- `any_number_at` reads a two-byte number at any place.
use Rattle.recording.proofs.Answers.{number_is}
use Rattle.std.proofs.Common.{rules}
use Rattle.recording.proofs.numbers.any_number_at.Goals as goal

pub returns : goal.returns
returns c = search (rules, number_is)
