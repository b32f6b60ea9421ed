-- The lines stand at the start of the buffer.
use Rattle.lines.proofs.Lines.{report_put}
use Rattle.std.proofs.Common.{rules}
use Rattle.lines.proofs.report.Goals as goal

pub returns : goal.returns
returns c = search (rules, report_put)
