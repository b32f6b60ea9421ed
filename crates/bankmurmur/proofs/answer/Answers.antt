-- `answer` forms what is printed for the file.
use Rattle.std.proofs.Common.{rules}
use Rattle.bankmurmur.proofs.Program.{refused_printed, judged_printed}
use Rattle.bankmurmur.proofs.answer.Goals as goal

pub returns-in-Err : goal.returns-in-Err
returns-in-Err c = search (rules, refused_printed)

pub returns-in-Ok : goal.returns-in-Ok
returns-in-Ok c = search (rules, judged_printed)
