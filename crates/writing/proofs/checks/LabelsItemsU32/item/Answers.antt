-- A label is a number of its row.
use Rattle.writing.proofs.RowTests.{number_of_lem}
use Rattle.std.proofs.Common.{rules}
use Rattle.writing.proofs.checks.LabelsItemsU32.item.Goals as goal

pub returns : goal.returns
returns c = search (rules, number_of_lem)
