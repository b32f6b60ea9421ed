-- What the inner functions of the check answer: parts of the one list of tests. Nothing outside the crate rests on them.
use Rattle.std.specs.Prelude.{Result, List, ℕ, ◌+◌, length}
use Rattle.recording.specs.declared.Counts.{Counts}
use Rattle.recording.specs.declared.refusal.Reason.{Reason}
use Rattle.recording.specs.declared.refusal.Refusal.{Refusal}
use Rattle.recording.specs.Tests.{events_at, label_section, event_section, events_to_end}
use Rattle.recording.specs.File.{number_at, label_at, entries_at, answered}

-- a section of labels, with its count at place at: its count, where it is fine
unfoldable pub labels_answer : List ℕ → ℕ → ℕ → Reason → Reason → Result ℕ Refusal
labels_answer s at limit range order =
    answered (label_section (length s) at (number_at s at) (label_at s (at + 2)) limit range order) (number_at s at)

-- the section of events, with its count at place at
unfoldable pub events_answer : List ℕ → ℕ → ℕ → ℕ → Result ℕ Refusal
events_answer s at W F = answered (event_section (length s) at W F (number_at s at) (entries_at s (at + 2))) (number_at s at)

-- from the event count to the end of the file, after W workers and F fields
unfoldable pub to_end_answer : List ℕ → ℕ → ℕ → Result Counts Refusal
to_end_answer s W F =
    answered (events_to_end (length s) W F (number_at s (events_at W F)) (entries_at s (events_at W F + 2)))
    (record { workers = W; fields = F; events = number_at s (events_at W F) })
