-- The words of the line, one after another.
use Rattle.lines.proofs.Lines.{reported_put}
use Rattle.std.proofs.Common.{rules}
use Rattle.lines.proofs.Page.reported_line.Goals as goal

pub returns : goal.returns
returns c = record { puts = search (rules, reported_put); same_buffer = search rules }
