-- `late::Tables::clear` meets its contract: a 1 for each worker, and 0 elsewhere.
use Rattle.late.proofs.Shown.{shows_start}
use Rattle.std.proofs.Common.{rules}
use Rattle.late.proofs.Tables.clear.Goals as goal

pub returns : goal.returns
returns c = search (rules, shows_start)
