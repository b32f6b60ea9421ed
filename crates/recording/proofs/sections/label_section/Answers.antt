-- `label_section` answers as a section of labels does, with its count where it is fine.
use Rattle.recording.specs.Parts.{labels_answer}
use Rattle.recording.proofs.Answers.{labels_short}
use Rattle.std.proofs.Common.{rules}
use Rattle.recording.proofs.sections.label_section.Goals as goal

pub returns-then-end-at-lt2 : goal.returns-then-end-at-lt2
returns-then-end-at-lt2 c = rw c.at.ensures (search (rules, labels_short))

pub returns-in_err-label_section : goal.returns-in_err-label_section
unfolding labels_answer
returns-in_err-label_section c = search rules

pub returns : goal.returns
unfolding labels_answer
returns c = search rules
