-- The words of the line, one after another.
use Rattle.lines.proofs.Lines.{refused_put}
use Rattle.std.proofs.Common.{rules}
use Rattle.lines.proofs.Page.refused_line.Goals as goal

pub returns : goal.returns
returns c = record { puts = search (rules, refused_put); same_buffer = search rules }
