-- The numbers of an event are those of its rows.
use Rattle.writing.proofs.RowTests.{entry_of_lem}
use Rattle.std.proofs.Common.{rules}
use Rattle.writing.proofs.EventsItemsEntry.item.Goals as goal

pub returns : goal.returns
returns c = search (rules, entry_of_lem)
