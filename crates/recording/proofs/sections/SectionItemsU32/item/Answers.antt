-- A label of the file by its number.
use Rattle.recording.proofs.Answers.{label_number}
use Rattle.std.proofs.Common.{rules}
use Rattle.recording.proofs.sections.SectionItemsU32.item.Goals as goal

pub returns : goal.returns
returns c = search (rules, label_number)
