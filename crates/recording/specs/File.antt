-- What the bytes of a recording file hold, and what checking them answers.
use Rattle.std.specs.Prelude.{◌≡◌, Result, Ok, Err, Option, Some, None, Bool, true, cond, List, [], ◌∷◌, ℕ, zero, suc, ◌+◌, ◌*◌, eqb, leb, length, get_or}
use Rattle.events.specs.declared.Event.{Event}
use Rattle.events.specs.declared.Event.TheVariants.{Read, Write, Crossing}
use Rattle.recording.specs.declared.refusal.Refusal.{Refusal}
use Rattle.recording.specs.Refusals.{Fault, fine}
use Rattle.recording.specs.declared.Entry.{Entry}
use Rattle.recording.specs.declared.Counts.{Counts}
use Rattle.recording.specs.declared.Reader.{Reader}
use Rattle.recording.specs.Tests.{Contents, event_bytes, fields_at, events_at, all_tests}

-- All two-byte numbers have the low byte first.
abbrev pub two_byte : ℕ → ℕ → ℕ
two_byte low high = low + 256 * high

-- the two-byte number at place i
unfoldable pub number_at : List ℕ → ℕ → ℕ
number_at s i = two_byte (get_or s i 0) (get_or s (i + 1) 0)

-- label n of those that start at place at: a 2-byte label each
unfoldable pub label_at : List ℕ → ℕ → ℕ → ℕ
label_at s at n = number_at s (at + 2 * n)

-- An event's bytes: kind, worker number, field number (2 bytes).
unfoldable pub entry_at : List ℕ → ℕ → Entry
entry_at s i = record { kind = get_or s i 0; worker = get_or s (i + 1) 0; field = number_at s (i + 2) }

-- event n of those that start at place at
unfoldable pub entries_at : List ℕ → ℕ → ℕ → Entry
entries_at s at n = entry_at s (at + event_bytes * n)

-- Kind 1 is a read, 2 a write, 3 a crossing.
unfoldable pub event_of : Entry → Event
event_of e =
    cond (eqb e.kind 1) (Read (record { 0 = e.worker }) (record { 0 = e.field }))
    (cond (eqb e.kind 2) (Write (record { 0 = e.worker }) (record { 0 = e.field })) (Crossing (record { 0 = e.worker })))

-- the three counts
unfoldable pub worker_count : List ℕ → ℕ
worker_count s = number_at s 0

unfoldable pub field_count : List ℕ → ℕ
field_count s = number_at s (fields_at (worker_count s))

unfoldable pub event_count : List ℕ → ℕ
event_count s = number_at s (events_at (worker_count s) (field_count s))

-- Worker and field numbers count from 0 in their sections.
unfoldable pub worker_label : List ℕ → ℕ → ℕ
worker_label s = label_at s 2

unfoldable pub field_label : List ℕ → ℕ → ℕ
field_label s = label_at s (fields_at (worker_count s) + 2)

-- event n, as its numbers and as an event
unfoldable pub entry_in : List ℕ → ℕ → Entry
entry_in s = entries_at s (events_at (worker_count s) (field_count s) + 2)

unfoldable pub event_at : List ℕ → ℕ → Event
event_at s n = event_of (entry_in s n)

-- k events from event n on
unfoldable pub events_from : List ℕ → ℕ → ℕ → List Event
events_from s n zero = []
events_from s n (suc k) = event_at s n ∷ events_from s (n + 1) k

-- A recording is a list of events in one order, numbered from 0.
unfoldable pub events_in : List ℕ → List Event
events_in s = events_from s 0 (event_count s)

-- Three sections in a fixed order, each after its count.
abbrev pub contents_in : List ℕ → Contents
contents_in s =
    record {
      workers = worker_count s;
      worker_label = worker_label s;
      fields = field_count s;
      field_label = field_label s;
      events = event_count s;
      entry = entry_in s;
    }

-- The first test that fails gives the answer. `tables` says that every lent table has its full length.
unfoldable pub refusal : Bool → List ℕ → Fault
refusal tables s = all_tests tables (length s) (contents_in s)

abbrev pub counts_in : List ℕ → Counts
counts_in s = record { workers = worker_count s; fields = field_count s; events = event_count s }

-- What the check answers: the refusal, or the counts.
abbrev pub answered : {A : Type 0} → Fault → A → Result A Refusal
answered (Err refusal) counts = Err refusal
answered (Ok done) counts = Ok counts

unfoldable pub checked : List ℕ → Result Counts Refusal
checked s = answered (refusal true s) (counts_in s)

-- The file is accepted, and these are its counts: what a reader of its events relies on.
pub record Accepted (s : List ℕ) (counts : Counts) : Type 0 where
  pub fine : refusal true s ≡ fine
  pub workers : counts.workers ≡ worker_count s
  pub fields : counts.fields ≡ field_count s
  pub events : counts.events ≡ event_count s

-- With these counts, the place of event n.
abbrev pub place_of : Counts → ℕ → ℕ
place_of c n = events_at c.workers c.fields + 2 + event_bytes * n

-- A reader hands out one event at a time: the event at a place with the place of the next, or the end where no event's bytes are left.
unfoldable pub step_at : List ℕ → ℕ → Option (Event × ℕ)
step_at s at = cond (leb (at + event_bytes) (length s)) (Some (event_of (entry_at s at), at + event_bytes)) None

-- So a reader moves on to the next event, and keeps its file and its counts. At the end it stays.
abbrev pub HandsOut : Reader → Option Event → Reader → Type 0
HandsOut old (Some e) new = (step_at old.file.now old.at ≡ Some (e, new.at)) × (new.file ≡ old.file) × (new.counts ≡ old.counts)
HandsOut old None new = (step_at old.file.now old.at ≡ None) × (new ≡ old)
