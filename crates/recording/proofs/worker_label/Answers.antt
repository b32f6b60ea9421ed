-- `worker_label` reads a worker's label.
use Rattle.recording.proofs.Answers.{worker_label_is}
use Rattle.std.proofs.Common.{rules}
use Rattle.recording.proofs.worker_label.Goals as goal

pub returns : goal.returns
returns c = search (rules, worker_label_is)
