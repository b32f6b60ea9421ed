-- The words of the line, one after another.
use Rattle.lines.proofs.Lines.{trace_put}
use Rattle.std.proofs.Common.{rules}
use Rattle.lines.proofs.Page.trace_line.Goals as goal

pub returns : goal.returns
returns c = record { puts = search (rules, trace_put); same_buffer = search rules }
