-- `check` answers as the whole list of tests does: one law for each way out.
use Rattle.writing.proofs.RowTests.{row_few, row_place, rows_workers, rows_fields, rows_end}
use Rattle.std.proofs.Common.{rules}
use Rattle.writing.proofs.checks.check.Goals as goal

pub returns-in_err-label_section : goal.returns-in_err-label_section
returns-in_err-label_section c = search (rules, rows_workers)

pub label_section-requires-2 : goal.label_section-requires-2
label_section-requires-2 c = search (rules, row_place)

pub returns-in_err-label_section-2 : goal.returns-in_err-label_section-2
returns-in_err-label_section-2 c = search (rules, rows_fields)

pub event_section-requires : goal.event_section-requires
event_section-requires c = search (rules, row_few)

pub returns : goal.returns
returns c = search (rules, rows_end)
