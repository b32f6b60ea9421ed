-- A label or the dash.
use Rattle.lines.proofs.Lines.{other_unknown, other_known}
use Rattle.std.proofs.Common.{rules}
use Rattle.lines.proofs.Page.other_label.Goals as goal

pub returns-then-eq : goal.returns-then-eq
returns-then-eq c = record { puts = search (rules, other_unknown, other_known); same_buffer = search rules }

pub returns-else-eq : goal.returns-else-eq
returns-else-eq c = record { puts = search (rules, other_unknown, other_known); same_buffer = search rules }
