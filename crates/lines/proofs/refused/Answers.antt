-- The line stands at the start of the buffer.
use Rattle.lines.proofs.Lines.{refused_only}
use Rattle.std.proofs.Common.{rules}
use Rattle.lines.proofs.refused.Goals as goal

pub returns : goal.returns
returns c = search (rules, refused_only)
