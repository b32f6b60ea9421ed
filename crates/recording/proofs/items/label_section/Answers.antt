-- `label_section` answers as a section of labels does: one law for each way out.
use Rattle.recording.proofs.Answers.{labels_none, labels_over, labels_cut, labels_order}
use Rattle.std.proofs.Common.{rules}
use Rattle.recording.proofs.items.label_section.Goals as goal

pub returns-then-count-eq0 : goal.returns-then-count-eq0
returns-then-count-eq0 g c = rw c.at.ensures (search (rules, labels_none))

pub returns-then-rule-count : goal.returns-then-rule-count
returns-then-rule-count g c = rw c.at-then-rule-count.ensures (search (rules, labels_over))

pub returns-then-size-at : goal.returns-then-size-at
returns-then-size-at g c = rw c.at-then-size-at.ensures (search (rules, labels_cut))

pub returns : goal.returns
returns g c = search (rules, labels_order)
