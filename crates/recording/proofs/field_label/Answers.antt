-- `field_label` reads a field's label.
use Rattle.recording.proofs.Answers.{field_label_is}
use Rattle.std.proofs.Common.{rules}
use Rattle.recording.proofs.field_label.Goals as goal

pub returns : goal.returns
returns c = search (rules, field_label_is)
