-- `step_at` hands out the event at a place, or says that none is left.
use Rattle.recording.proofs.Answers.{step_past, step_short, step_next}
use Rattle.std.proofs.Common.{rules}
use Rattle.recording.proofs.step_at.Goals as goal

pub returns-then-file-at : goal.returns-then-file-at
returns-then-file-at c = search (rules, step_past, step_short, step_next)

pub returns-then-file-at-lt-BYTES : goal.returns-then-file-at-lt-BYTES
returns-then-file-at-lt-BYTES c = search (rules, step_past, step_short, step_next)

pub returns : goal.returns
returns c = search (rules, step_past, step_short, step_next)
