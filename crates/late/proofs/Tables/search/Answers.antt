-- `late::Tables::search` meets its contract: what the cleared tables show, and what they show in the end.
use Rattle.late.proofs.Answers.{meant_few}
use Rattle.std.proofs.Common.{rules}
use Rattle.late.proofs.Tables.search.Goals as goal

pub clear-requires : goal.clear-requires
clear-requires c = search (rules, meant_few)
