-- A well-formed recording, read or to be written, in the words of the file's description alone: no order of tests, no number of a refusal.
use Rattle.std.specs.Prelude.{◌≡◌, List, ℕ, ◌+◌, ◌<◌, ◌≤◌, length}
use Rattle.recording.specs.declared.Entry.{Entry}
use Rattle.recording.specs.Tests.{file_size, Contents}
use Rattle.recording.specs.File.{contents_in}

-- With W workers and F fields. Kind 1 is a read, 2 a write, 3 a crossing. A crossing has field number 0.
pub data Good (W F : ℕ) (e : Entry) : Type 0 where
  read : e.kind ≡ 1 → e.worker < W → e.field < F → Good W F e
  write : e.kind ≡ 2 → e.worker < W → e.field < F → Good W F e
  crossing : e.kind ≡ 3 → e.worker < W → e.field ≡ 0 → Good W F e

-- What a file of so many bytes holds, or would hold.
pub record Formed (bytes : ℕ) (c : Contents) : Type 0 where
  -- Worker count, 1 to 16; then a label each, strictly rising.
  pub some_worker : 1 ≤ c.workers
  pub few_workers : c.workers ≤ 16
  pub workers_rise : (w : ℕ) → w + 1 < c.workers → c.worker_label w < c.worker_label (w + 1)
  -- Field count, 1 to 512; then a label each, strictly rising.
  pub some_field : 1 ≤ c.fields
  pub few_fields : c.fields ≤ 512
  pub fields_rise : (f : ℕ) → f + 1 < c.fields → c.field_label f < c.field_label (f + 1)
  -- Event count, 0 to 16,000; then the events.
  pub few_events : c.events ≤ 16000
  pub events_good : (n : ℕ) → n < c.events → Good c.workers c.fields (c.entry n)
  -- With W workers, F fields and E events a file has exactly 6 + 2W + 2F + 4E bytes.
  pub size : bytes ≡ file_size c.workers c.fields c.events

-- a well-formed file
abbrev pub WellFormed : List ℕ → Type 0
WellFormed s = Formed (length s) (contents_in s)
