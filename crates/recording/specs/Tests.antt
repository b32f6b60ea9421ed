-- The tests that a recording passes, with their reasons and places, in their order. They are over numbers, not bytes, so that they hold for a file that is read and for one to be written.
use Rattle.std.specs.Prelude.{◌≡◌, Result, Ok, Err, MatchResult, Bool, true, false, cond, ◌&&◌, ◌||◌, ℕ, zero, suc, ◌+◌, ◌*◌, ◌-◌, eqb, ltb, leb}
use Rattle.recording.specs.declared.event.Kind.{Kind}
use Rattle.recording.specs.declared.event.Kind.TheVariants.{Read, Write, Crossing}
use Rattle.recording.specs.declared.event.UnknownKind.{UnknownKind}
use Rattle.recording.specs.declared.refusal.Reason.{Reason}
use Rattle.recording.specs.declared.refusal.Reason.TheVariants.{CutShort, WorkerCount, WorkerOrder, FieldCount, FieldOrder, EventCount, Kind as BadKind, Worker as BadWorker, Field as BadField, ExtraBytes, ShortTable}
use Rattle.recording.specs.Refusals.{Fault, fine, refused, number_of}
use Rattle.recording.specs.declared.Entry.{Entry}

-- A test that must hold; if it does not, this reason at this place.
unfoldable pub need : Bool → Reason → ℕ → Fault
need true reason place = fine
need false reason place = refused reason place

-- The first test that fails gives the answer.
infixr 30 ◌then◌
unfoldable pub ◌then◌ : Fault → Fault → Fault
◌then◌ (Ok done) later = later
◌then◌ (Err refusal) later = Err refusal

-- 4 bytes each: kind, worker number, field number (2 bytes).
abbrev pub event_bytes : ℕ
event_bytes = 4

-- With W workers and F fields: the place of the field count, and of the event count.
abbrev pub fields_at : ℕ → ℕ
fields_at W = 2 + 2 * W

abbrev pub events_at : ℕ → ℕ → ℕ
events_at W F = 4 + 2 * W + 2 * F

-- With W workers, F fields and E events a file has exactly 6 + 2W + 2F + 4E bytes.
abbrev pub file_size : ℕ → ℕ → ℕ → ℕ
file_size W F E = 6 + 2 * W + 2 * F + event_bytes * E

-- 3, 5: label not above the one before; the place is the later label. It is about label n and the k labels after it, of those that start at place at.
unfoldable pub rising : (ℕ → ℕ) → Reason → ℕ → ℕ → ℕ → Fault
rising label order at n zero = fine
rising label order at n (suc k) =
    need (ltb (label n) (label (n + 1))) order (at + 2 * (n + 1)) then rising label order at (n + 1) k

-- Kind 1 is a read, 2 a write, 3 a crossing.
unfoldable pub kind_allowed : ℕ → Bool
kind_allowed kind = eqb kind 1 || (eqb kind 2 || eqb kind 3)

abbrev pub kind_number : Kind → ℕ
kind_number Read = 1
kind_number Write = 2
kind_number Crossing = 3

-- what a number says as a kind: the kind of that number, or that there is none
abbrev pub Decodes : ℕ → Result Kind UnknownKind → Type 0
Decodes number r = MatchResult r (λ kind. kind_number kind ≡ number) (λ e. (e.0 ≡ number) × (kind_allowed number ≡ false))

-- A crossing has field number 0; any other event has one below the field count.
unfoldable pub field_allowed : ℕ → ℕ → ℕ → Bool
field_allowed F kind field = cond (eqb kind 3) (eqb field 0) (ltb field F)

-- The place of 7, 8 and 9, for an event that starts at start: the kind is its first byte (7), the worker its second (8), the field its third (9), also where only the field's high byte is bad.
unfoldable pub event_place : Reason → ℕ → ℕ
event_place reason start = cond (eqb (number_of reason) 8) (start + 1) (cond (eqb (number_of reason) 9) (start + 2) start)

-- Within an event: kind (7), worker (8), field (9).
unfoldable pub event_tests : ℕ → ℕ → Entry → ℕ → Fault
event_tests W F e start =
    need (kind_allowed e.kind) BadKind (event_place BadKind start)
    then need (ltb e.worker W) BadWorker (event_place BadWorker start)
    then need (field_allowed F e.kind e.field) BadField (event_place BadField start)

-- Event n and the events after it, k in all, of those that start at place at: the first bad event answers.
unfoldable pub events_tests : ℕ → ℕ → (ℕ → Entry) → ℕ → ℕ → ℕ → Fault
events_tests W F entry at n zero = fine
events_tests W F entry at n (suc k) =
    event_tests W F (entry n) (at + event_bytes * n) then events_tests W F entry at (n + 1) k

-- A section, with its count at place at: a count is present (1), its range, all its items are present (1), its items in order. The place of 1 is the file length.
unfoldable pub section : ℕ → ℕ → Fault → ℕ → Fault → Fault
section size at range bytes items =
    need (leb (at + 2) size) CutShort size
    then range
    then need (leb (at + 2 + bytes) size) CutShort size
    then items

-- Worker count, 1 to 16 (2), or field count, 1 to 512 (4); then a 2-byte label each, strictly rising (3, 5). `range` and `order` are the reasons.
unfoldable pub label_section : ℕ → ℕ → ℕ → (ℕ → ℕ) → ℕ → Reason → Reason → Fault
label_section size at count label limit range order =
    section size at (need (ltb 0 count && leb count limit) range at) (2 * count) (rising label order (at + 2) 0 (count - 1))

-- Event count, 0 to 16,000 (6); then 4 bytes each.
unfoldable pub event_section : ℕ → ℕ → ℕ → ℕ → ℕ → (ℕ → Entry) → Fault
event_section size at W F count entry =
    section size at (need (leb count 16000) EventCount at) (event_bytes * count) (events_tests W F entry (at + 2) 0 count)

-- 10: bytes after the last event; the place is the first extra byte, where the file should end.
unfoldable pub end_test : ℕ → ℕ → Fault
end_test size end = need (leb size end) ExtraBytes end

-- The events, and nothing after them.
unfoldable pub events_to_end : ℕ → ℕ → ℕ → ℕ → (ℕ → Entry) → Fault
events_to_end size W F count entry = event_section size (events_at W F) W F count entry then end_test size (file_size W F count)

-- What a file holds: worker labels, field labels, and the numbers of each event.
pub record Contents : Type 0 where
  pub workers : ℕ
  pub worker_label : ℕ → ℕ
  pub fields : ℕ
  pub field_label : ℕ → ℕ
  pub events : ℕ
  pub entry : ℕ → Entry

-- The tests of a file of size bytes, front to back: workers (1, 2, 1, 3), fields (1, 4, 1, 5), events (1, 6, 1, then 7 to 9 event by event), and last no byte after the last event (10).
unfoldable pub file_tests : ℕ → Contents → Fault
file_tests size c =
    label_section size 0 c.workers c.worker_label 16 WorkerCount WorkerOrder
    then label_section size (fields_at c.workers) c.fields c.field_label 512 FieldCount FieldOrder
    then events_to_end size c.workers c.fields c.events c.entry

-- Test 11 comes before the file is looked at: every lent table has its full length.
unfoldable pub all_tests : Bool → ℕ → Contents → Fault
all_tests tables size c = need tables ShortTable 0 then file_tests size c
