-- What the inner functions of the writer answer and ask: parts of the one list of tests, and of the file. Nothing outside the crate rests on them.
use Rattle.std.specs.Prelude.{◌≡◌, List, ℕ, ◌+◌, ◌*◌, ◌<◌, length, get_or}
use Rattle.recording.specs.declared.refusal.Reason.{Reason}
use Rattle.recording.specs.Refusals.{Fault}
use Rattle.recording.specs.declared.Entry.{Entry}
use Rattle.writing.specs.declared.Events.{Events}
use Rattle.recording.specs.Tests.{file_size, label_section, events_to_end}
use Rattle.writing.specs.Writing.{number_of, entry_of, longest, shortest, fitting_in, two_bytes, entry_bytes}

-- the events as they are lent: how many there are, how many are whole, and the numbers of event n
abbrev pub count_of : Events → ℕ
count_of e = longest e.kinds.now e.workers.now e.fields.now

abbrev pub whole_of : Events → ℕ
whole_of e = shortest e.kinds.now e.workers.now e.fields.now

abbrev pub event_in : Events → ℕ → Entry
event_in e = entry_of e.kinds.now e.workers.now e.fields.now

-- a row of labels to be written, with its count at place at
unfoldable pub row_answer : List ℕ → ℕ → ℕ → Reason → Reason → Fault
row_answer row at limit range order =
    label_section (at + 2 + 2 * fitting_in row) at (length row) (number_of row) limit range order

-- the events to be written, after W workers and F fields
unfoldable pub rows_answer : List ℕ → List ℕ → List ℕ → ℕ → ℕ → Fault
rows_answer kinds workers fields W F =
    events_to_end (file_size W F (shortest kinds workers fields)) W F (longest kinds workers fields) (entry_of kinds workers fields)

abbrev pub events_answer : Events → ℕ → ℕ → Fault
events_answer e = rows_answer e.kinds.now e.workers.now e.fields.now

-- the bytes of label n of a row, and of event n
abbrev pub label_bytes : List ℕ → ℕ → List ℕ
label_bytes row n = two_bytes (number_of row n)

abbrev pub event_bytes_of : Events → ℕ → List ℕ
event_bytes_of e n = entry_bytes (event_in e n)

-- what is put into the buffer fits its bytes
pub record EntryFits (e : Entry) : Type 0 where
  pub kind_fits : e.kind < 256
  pub worker_fits : e.worker < 256
  pub field_fits : e.field < 65536

pub record LabelsFit (row : List ℕ) : Type 0 where
  pub label_fits : (n : ℕ) → n < length row → get_or row n 0 < 65536

-- each event is whole, and its numbers fit
pub record EntriesFit (kinds workers fields : List ℕ) : Type 0 where
  pub all_whole : longest kinds workers fields ≡ shortest kinds workers fields
  pub entry_fits : (n : ℕ) → n < longest kinds workers fields → EntryFits (entry_of kinds workers fields n)

abbrev pub EventsFit : Events → Type 0
EventsFit e = EntriesFit e.kinds.now e.workers.now e.fields.now
