-- A number stands after a space.
use Rattle.lines.proofs.Text.{number_put}
use Rattle.std.proofs.Common.{rules}
use Rattle.lines.proofs.Page.number.Goals as goal

pub returns : goal.returns
returns c = record { puts = search (rules, number_put); same_buffer = search rules }
