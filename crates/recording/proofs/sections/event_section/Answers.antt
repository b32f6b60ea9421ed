-- `event_section` answers as the section of events does, with its count where it is fine.
use Rattle.recording.specs.Parts.{events_answer}
use Rattle.recording.proofs.Answers.{events_short}
use Rattle.std.proofs.Common.{rules}
use Rattle.recording.proofs.sections.event_section.Goals as goal

pub returns-then-end-at-lt2 : goal.returns-then-end-at-lt2
returns-then-end-at-lt2 c = rw c.at.ensures (search (rules, events_short))

pub returns-in_err-event_section : goal.returns-in_err-event_section
unfolding events_answer
returns-in_err-event_section c = search rules

pub returns : goal.returns
unfolding events_answer
returns c = search rules
