-- `Words::of` begins before the first word.
use Rattle.std.proofs.Common.{rules}
use Rattle.spelling.proofs.Passing.{all_left}
use Rattle.spelling.proofs.words.Words.of.Goals as goal

pub returns : goal.returns
returns c = search (rules, all_left)
