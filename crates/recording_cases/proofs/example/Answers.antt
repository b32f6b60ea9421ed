-- `example` lists the events only where the check has accepted the file.
use Rattle.std.proofs.Common.{rules}
use Rattle.recording.proofs.Acceptance.{fine_accepted}
use Rattle.recording_cases.proofs.example.Goals as goal

pub events_of-requires : goal.events_of-requires
events_of-requires g c = search (rules, fine_accepted)
