-- The bytes of a word stand behind what was written.
use Rattle.lines.proofs.Text.{copied}
use Rattle.std.proofs.Common.{rules}
use Rattle.lines.proofs.Page.put.Goals as goal

pub returns : goal.returns
returns c = record { puts = search (rules, copied); same_buffer = search rules }
