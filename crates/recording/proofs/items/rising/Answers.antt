-- `rising` answers as the definition does: what is still to come answers the same at each turn.
use Rattle.recording.proofs.Answers.{labels_fall, labels_rise, labels_end}
use Rattle.std.proofs.Common.{rules}
use Rattle.recording.proofs.items.rising.Goals as goal

pub returns-then-label-before : goal.returns-then-label-before
returns-then-label-before g c = search (rules, labels_fall)

pub loop-n-preserved : goal.loop-n-preserved
loop-n-preserved g c = search (rules, labels_rise)

pub returns : goal.returns
returns g c = search (rules, labels_end)
