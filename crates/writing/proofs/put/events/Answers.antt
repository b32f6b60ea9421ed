-- `events` puts a count and its events.
use Rattle.writing.proofs.Bytes.{section_put}
use Rattle.std.proofs.Common.{rules}
use Rattle.writing.proofs.put.events.Goals as goal

pub returns : goal.returns
returns c = let count = rw c.count.ensures at c.number.ensures in search (rules, section_put)
