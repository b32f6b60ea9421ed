-- `check` answers as the whole list of tests does: one law for each way out.
use Rattle.recording.proofs.Answers.{section_few, workers_room, workers_refused, fields_room, fields_refused, events_answer_lem}
use Rattle.std.proofs.Common.{rules}
use Rattle.recording.proofs.check.Goals as goal

pub returns-in_err-workers : goal.returns-in_err-workers
returns-in_err-workers c = search (rules, workers_refused)

pub label_section-requires-2 : goal.label_section-requires-2
label_section-requires-2 c = search (rules, workers_room)

pub returns-in_err-fields : goal.returns-in_err-fields
returns-in_err-fields c = search (rules, fields_refused c.args.file.now c.label_section.result c.label_section.ensures c.in_ok-workers.workers c.in_ok-workers.was)

pub check_events-requires : goal.check_events-requires
check_events-requires c = search (rules, section_few, fields_room)

pub returns : goal.returns
returns c = search (rules, events_answer_lem c.args.file.now c.label_section.result c.label_section.ensures c.in_ok-workers.workers c.in_ok-workers.was)
