-- `label_items` puts the labels of a row, one after another.
use Rattle.writing.proofs.Bytes.{none_put, label_put}
use Rattle.std.proofs.Common.{rules}
use Rattle.writing.proofs.put.label_items.Goals as goal

pub loop-n-init : goal.loop-n-init
loop-n-init c = search (rules, none_put)

pub loop-n-preserved : goal.loop-n-preserved
loop-n-preserved c = search (rules, label_put)
