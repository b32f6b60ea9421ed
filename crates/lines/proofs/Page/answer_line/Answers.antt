-- One line for each sort of answer.
use Rattle.lines.proofs.Lines.{ok_put, refused_answer, reported_answer}
use Rattle.std.proofs.Common.{rules}
use Rattle.lines.proofs.Page.answer_line.Goals as goal

pub returns-in-Ok : goal.returns-in-Ok
returns-in-Ok c = record { puts = search (rules, ok_put, refused_answer, reported_answer); same_buffer = search rules }
