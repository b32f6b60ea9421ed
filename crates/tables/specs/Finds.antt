-- What both finders' statements are made of: the verdicts on a file, the answer to it, and each lent table after it.
use Rattle.std.specs.Prelude.{Ok, Err, List, [], ℕ}
use Rattle.events.specs.Acts.{History, Recording, recording_of, before}
use Rattle.events.specs.Verdicts.{Verdict, accepted, reported, early_verdict, late_verdict}
use Rattle.recording.specs.Refusals.{Fault, number_of}
use Rattle.recording.specs.File.{events_in, worker_count, field_count, event_count}
use Rattle.flags.specs.Flags.{first_flag}
use Rattle.tables.specs.Lent.{showing}
use Rattle.tables.specs.Answers.{Said, refused, judged}

-- The recording in a file: the acts of each event, and the two verdicts. The fields from the first flag on are flags.
abbrev pub acts_in : List ℕ → Recording
acts_in file = recording_of (first_flag file) (events_in file)

abbrev pub early_of : List ℕ → Verdict
early_of file = early_verdict (first_flag file) (events_in file)

abbrev pub late_of : List ℕ → Verdict
late_of file = late_verdict (worker_count file) (field_count file) (first_flag file) (events_in file)

-- a refused file gets number and place, any other the verdict on its recording
abbrev pub said : Fault → Verdict → Said
said (Err r) v = refused (number_of r.reason) r.place
said (Ok _) v = judged v

-- the event that a verdict reports, or the event count
abbrev pub stop : Verdict → ℕ → ℕ
stop accepted count = count
stop (reported n s w u f) count = n

-- After a verdict the tables show the events before the reported one (all of them, if accepted).
abbrev pub shown_by : List ℕ → Verdict → History
shown_by file v = before [] (acts_in file) (stop v (event_count file))

-- A lent table after the answer: a refusal changes no word.
abbrev pub leaving : Fault → ℕ → (ℕ → ℕ) → List ℕ → List ℕ
leaving (Err _) full word lent = lent
leaving (Ok _) full word lent = showing full word lent
