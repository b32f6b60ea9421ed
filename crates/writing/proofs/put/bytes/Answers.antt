-- `bytes` puts these bytes.
use Rattle.writing.proofs.Bytes.{copied}
use Rattle.std.proofs.Common.{rules}
use Rattle.writing.proofs.put.bytes.Goals as goal

pub returns : goal.returns
returns c = search (rules, copied)
