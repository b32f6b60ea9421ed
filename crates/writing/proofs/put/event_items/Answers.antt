-- `event_items` puts the events, one after another.
use Rattle.writing.proofs.Bytes.{none_put, event_put}
use Rattle.std.proofs.Common.{rules}
use Rattle.writing.proofs.put.event_items.Goals as goal

pub loop-n-init : goal.loop-n-init
loop-n-init c = search (rules, none_put)

pub loop-n-preserved : goal.loop-n-preserved
loop-n-preserved c = search (rules, event_put)
