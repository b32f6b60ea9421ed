-- `label_section` answers as a section of labels does, in a file that goes as far as its labels fit.
use Rattle.recording.proofs.Answers.{labels_over}
use Rattle.writing.specs.Parts.{row_answer}
use Rattle.std.proofs.Common.{rules}
use Rattle.writing.proofs.checks.label_section.Goals as goal

pub returns-then-rule-row : goal.returns-then-rule-row
unfolding row_answer
returns-then-rule-row c = search (rules, labels_over)

pub returns : goal.returns
unfolding row_answer
returns c = search rules
