-- The words to the end of the line, one after another.
use Rattle.lines.proofs.Lines.{labels_put}
use Rattle.std.proofs.Common.{rules}
use Rattle.lines.proofs.Page.labels.Goals as goal

pub returns : goal.returns
returns c = record { puts = search (rules, labels_put); same_buffer = search rules }
