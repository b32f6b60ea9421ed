-- What a read brings stands behind what `read` has read before.
use Rattle.std.proofs.Common.{rules}
use Rattle.input.proofs.Reading.{brought}
use Rattle.input.proofs.read.Goals as goal

pub loop-at-preserved : goal.loop-at-preserved
loop-at-preserved g c = search (rules, brought)
