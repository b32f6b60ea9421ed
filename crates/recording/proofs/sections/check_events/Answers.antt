-- `check_events` answers as the events and the end of the file do: one law for each way out.
use Rattle.recording.proofs.Answers.{to_end_refused, bytes_after, to_end_fine}
use Rattle.std.proofs.Common.{rules}
use Rattle.recording.proofs.sections.check_events.Goals as goal

pub returns-in_err-events : goal.returns-in_err-events
returns-in_err-events c = search (rules, to_end_refused, bytes_after, to_end_fine)

pub returns-then-last-file : goal.returns-then-last-file
returns-then-last-file c = search (rules, to_end_refused, bytes_after, to_end_fine)

pub returns : goal.returns
returns c = search (rules, to_end_refused, bytes_after, to_end_fine)
