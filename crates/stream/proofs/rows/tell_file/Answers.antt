-- `tell_file` reads the rows back only where the check has accepted the file.
use Rattle.std.proofs.Common.{rules}
use Rattle.recording.proofs.Acceptance.{fine_accepted}
use Rattle.stream.proofs.rows.tell_file.Goals as goal

pub read-requires : goal.read-requires
read-requires g c = search (rules, fine_accepted)
