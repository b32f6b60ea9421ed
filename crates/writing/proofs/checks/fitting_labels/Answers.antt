-- `fitting_labels` counts the labels before the first that is no two-byte value.
use Rattle.writing.proofs.RowTests.{first_too_large, fitting_few}
use Rattle.std.proofs.Common.{rules}
use Rattle.writing.proofs.checks.fitting_labels.Goals as goal

pub returns : goal.returns
returns c = let few = fitting_few c.args.row.now in let first = first_too_large c.args.row.now in search (rules, few, first)
