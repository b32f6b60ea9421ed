-- `labels` puts a count and its labels.
use Rattle.writing.proofs.Bytes.{section_put}
use Rattle.std.proofs.Common.{rules}
use Rattle.writing.proofs.put.labels.Goals as goal

pub returns : goal.returns
returns c = search (rules, section_put)
