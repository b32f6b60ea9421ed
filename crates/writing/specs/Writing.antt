-- What the writer is given, the file that it makes of it, what it answers and what it leaves in the lent buffer.
use Rattle.std.specs.Prelude.{◌≡◌, Result, Ok, Err, cond, List, [], ◌∷◌, ◌++◌, ℕ, zero, suc, ◌+◌, ◌*◌, ◌/◌, ◌%◌, min, max, ltb, leb, length, get_or, drop}
use Rattle.events.specs.declared.Event.{Event}
use Rattle.events.specs.declared.Event.TheVariants.{Read, Write, Crossing}
use Rattle.recording.specs.declared.refusal.Refusal.{Refusal}
use Rattle.recording.specs.declared.refusal.Reason.TheVariants.{ShortBuffer}
use Rattle.recording.specs.Refusals.{Fault}
use Rattle.recording.specs.declared.Entry.{Entry}
use Rattle.writing.specs.declared.Rows.{Rows as Lent}
use Rattle.recording.specs.Tests.{need, ◌then◌, fields_at, file_size, Contents, file_tests}
use Rattle.recording.specs.File.{worker_count, field_count, event_count, worker_label, field_label, event_at}

-- Rows of plain numbers: worker labels, field labels, and the events as kinds, worker numbers and field numbers.
pub record Rows : Type 0 where
  pub worker_labels : List ℕ
  pub field_labels : List ℕ
  pub kinds : List ℕ
  pub workers : List ℕ
  pub fields : List ℕ

-- the rows as they are lent
abbrev pub rows_given : List ℕ → List ℕ → List ℕ → List ℕ → List ℕ → Rows
rows_given worker_labels field_labels kinds workers fields =
    record { worker_labels = worker_labels; field_labels = field_labels; kinds = kinds; workers = workers; fields = fields }

abbrev pub rows_lent : Lent → Rows
rows_lent l = rows_given l.worker_labels.now l.field_labels.now l.events.kinds.now l.events.workers.now l.events.fields.now

-- number n of a row
unfoldable pub number_of : List ℕ → ℕ → ℕ
number_of row n = get_or row n 0

-- the numbers of event n
unfoldable pub entry_of : List ℕ → List ℕ → List ℕ → ℕ → Entry
entry_of kinds workers fields n = record { kind = number_of kinds n; worker = number_of workers n; field = number_of fields n }

-- There are as many events as the longest of their rows has numbers; as many as the shortest has are whole.
abbrev pub longest : List ℕ → List ℕ → List ℕ → ℕ
longest kinds workers fields = max (length kinds) (max (length workers) (length fields))

abbrev pub shortest : List ℕ → List ℕ → List ℕ → ℕ
shortest kinds workers fields = min (length kinds) (min (length workers) (length fields))

-- what the file is to hold
abbrev pub contents_of : Rows → Contents
contents_of r =
    record {
      workers = length r.worker_labels;
      worker_label = number_of r.worker_labels;
      fields = length r.field_labels;
      field_label = number_of r.field_labels;
      events = longest r.kinds r.workers r.fields;
      entry = entry_of r.kinds r.workers r.fields;
    }

-- Labels may be any 2-byte value: of label n and those after it, k in all, so many come before the first that is none.
unfoldable pub fitting : (ℕ → ℕ) → ℕ → ℕ → ℕ
fitting label n zero = 0
fitting label n (suc k) = cond (ltb (label n) 65536) (1 + fitting label (n + 1) k) 0

-- the same of a whole row
abbrev pub fitting_in : List ℕ → ℕ
fitting_in row = fitting (number_of row) 0 (length row)

-- How many bytes can be written: up to the first label that is no 2-byte value, or else up to the first event that is not whole. Where all are fine that is the whole file.
unfoldable pub reach : Rows → ℕ
reach r =
    let W = length r.worker_labels in
    let F = length r.field_labels in
    let w = fitting_in r.worker_labels in
    let f = fitting_in r.field_labels in
    cond (ltb w W) (2 + 2 * w) (cond (ltb f F) (fields_at W + 2 + 2 * f) (file_size W F (shortest r.kinds r.workers r.fields)))

-- The tests and their order are those of reading, at the places of the file to be written; what cannot be written is missing (1).
unfoldable pub rows_tests : Rows → Fault
rows_tests r = file_tests (reach r) (contents_of r)

-- Then 12: buffer shorter than 6 + 2W + 2F + 4E.
abbrev pub size_of : Contents → ℕ
size_of c = file_size c.workers c.fields c.events

unfoldable pub write_tests : ℕ → Rows → Fault
write_tests room r = rows_tests r then need (leb (size_of (contents_of r)) room) ShortBuffer 0

-- All two-byte numbers have the low byte first.
abbrev pub two_bytes : ℕ → List ℕ
two_bytes x = x % 256 ∷ x / 256 ∷ []

-- An event's bytes: kind, worker number, field number (2 bytes).
abbrev pub entry_bytes : Entry → List ℕ
entry_bytes e = e.kind ∷ e.worker ∷ two_bytes e.field

-- item n and those after it, k in all
unfoldable pub items : (ℕ → List ℕ) → ℕ → ℕ → List ℕ
items bytes n zero = []
items bytes n (suc k) = bytes n ++ items bytes (n + 1) k

-- a section: its count, then its items
unfoldable pub section_of : ℕ → (ℕ → List ℕ) → List ℕ
section_of count bytes = two_bytes count ++ items bytes 0 count

-- a 2-byte label each
abbrev pub labels_of : ℕ → (ℕ → ℕ) → List ℕ
labels_of count label = section_of count (λ n. two_bytes (label n))

abbrev pub events_of : ℕ → (ℕ → Entry) → List ℕ
events_of count entry = section_of count (λ n. entry_bytes (entry n))

-- Three sections in a fixed order, each after its count.
unfoldable pub file_of : Contents → List ℕ
file_of c = labels_of c.workers c.worker_label ++ (labels_of c.fields c.field_label ++ events_of c.events c.entry)

-- What the writer answers: the refusal, or how many bytes it has written.
abbrev pub wrote : Fault → List ℕ → Result ℕ Refusal
wrote (Err refusal) file = Err refusal
wrote (Ok done) file = Ok (length file)

-- A refusal changes no byte. A buffer longer than needed keeps its tail.
abbrev pub left : Fault → List ℕ → List ℕ → List ℕ
left (Err refusal) file lent = lent
left (Ok done) file lent = file ++ drop (length file) lent

-- what the writer answers to these rows, and leaves in the buffer that was lent as lent
abbrev pub writer_says : Rows → List ℕ → Result ℕ Refusal
writer_says r lent = wrote (write_tests (length lent) r) (file_of (contents_of r))

abbrev pub writer_leaves : Rows → List ℕ → List ℕ
writer_leaves r lent = left (write_tests (length lent) r) (file_of (contents_of r)) lent

-- What the writer promises: this answer, and this buffer at exit.
pub record Writes (r : Rows) (lent : List ℕ) (answer : Result ℕ Refusal) (buffer : List ℕ) : Type 0 where
  pub answers : answer ≡ writer_says r lent
  pub bytes : buffer ≡ writer_leaves r lent

-- An event's numbers. Kind 1 is a read, 2 a write, 3 a crossing. A crossing has field number 0.
abbrev pub numbers_of : Event → Entry
numbers_of (Read w f) = record { kind = 1; worker = w.0; field = f.0 }
numbers_of (Write w f) = record { kind = 2; worker = w.0; field = f.0 }
numbers_of (Crossing w) = record { kind = 3; worker = w.0; field = 0 }

-- k numbers from number n on, as a row
unfoldable pub listed : (ℕ → ℕ) → ℕ → ℕ → List ℕ
listed number n zero = []
listed number n (suc k) = number n ∷ listed number (n + 1) k

-- what is read from a file, its labels and events, as rows
unfoldable pub rows_in : List ℕ → Rows
rows_in s =
    record {
      worker_labels = listed (worker_label s) 0 (worker_count s);
      field_labels = listed (field_label s) 0 (field_count s);
      kinds = listed (λ n. (numbers_of (event_at s n)).kind) 0 (event_count s);
      workers = listed (λ n. (numbers_of (event_at s n)).worker) 0 (event_count s);
      fields = listed (λ n. (numbers_of (event_at s n)).field) 0 (event_count s);
    }
