-- `make` hands the writer the words that were read, and answers and leaves what the writer does.
use Rattle.std.proofs.Common.{rules}
use Rattle.notation.proofs.Program.{made}
use Rattle.notation.proofs.make.Goals as goal

pub returns-in_err-write : goal.returns-in_err-write
returns-in_err-write c = made _ _ _ _ c.read.ensures _ c.in_ok-lengths.was _ _ _ c.write.ensures _ (search rules)

pub returns : goal.returns
returns c = made _ _ _ _ c.read.ensures _ c.in_ok-lengths.was _ _ _ c.write.ensures _ (search rules)
