-- `early::Tables::search` meets its contract: what the cleared tables show, and what they show in the end.
use Rattle.early.proofs.Answers.{accepted_few}
use Rattle.std.proofs.Common.{rules}
use Rattle.early.proofs.Tables.search.Goals as goal

pub clear-requires : goal.clear-requires
clear-requires c = search (rules, accepted_few)
