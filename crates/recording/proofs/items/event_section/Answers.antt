-- `event_section` answers as a section of events does: one law for each way out.
use Rattle.recording.proofs.Answers.{events_over, events_cut, events_order}
use Rattle.std.proofs.Common.{rules}
use Rattle.recording.proofs.items.event_section.Goals as goal

pub returns-then-count : goal.returns-then-count
returns-then-count g c = rw c.at.ensures (search (rules, events_over))

pub returns-then-size-at : goal.returns-then-size-at
returns-then-size-at g c = rw c.at-then-size-at.ensures (search (rules, events_cut))

pub returns : goal.returns
returns g c = search (rules, events_order)
