-- An event of the file by its number.
use Rattle.recording.proofs.Answers.{entry_number}
use Rattle.std.proofs.Common.{rules}
use Rattle.recording.proofs.sections.SectionItemsEntry.item.Goals as goal

pub returns : goal.returns
returns c = search (rules, entry_number)
