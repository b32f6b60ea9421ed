-- Reading a written file gives back its labels and events.
use mathlib.Core.Path.{◌≡◌, refl, sym, ◌∙◌, ap}
use mathlib.Core.List.{List, ◌++◌}
use Prim.Native.Nat.{ℕ, zero, suc, ◌+◌, ◌*◌, ◌/◌, ◌%◌, ◌<◌, ◌≤◌}
use native.Mathlib.Omega.{arith}
use lib.ListN.{length, get_or, take, drop, get_or-append}
use lib.Seq.{get_or-append-add, take_at}
use Rattle.std.specs.Prelude.{Result, Ok, Err}
use Rattle.recording.specs.declared.refusal.Refusal.{Refusal}
use Rattle.recording.specs.Refusals.{Fault, fine}
use Rattle.recording.specs.declared.Entry.{Entry}
use Rattle.recording.specs.Tests.{Contents, fields_at, events_at}
use Rattle.recording.specs.File.{two_byte, number_at, label_at, entry_at, entries_at, worker_count, field_count, event_count, worker_label, field_label, entry_in, event_at, contents_in, checked}
use Rattle.recording.specs.WellFormed.{WellFormed}
use Rattle.writing.specs.Writing.{Rows, number_of, entry_of, contents_of, rows_tests, write_tests, two_bytes, entry_bytes, items, section_of, labels_of, events_of, file_of, wrote, Writes, numbers_of, rows_in}
use Rattle.recording.proofs.Tests.{then_fine}
use Rattle.recording.proofs.Acceptance.{well_formed_accepted}
use Rattle.writing.proofs.Bytes.{length-section}
use Rattle.writing.proofs.Writing.{length-file, Whole, whole}
use Rattle.writing.proofs.Contents.{Agrees, agrees_formed}
use Rattle.writing.proofs.Listed.{numbers_back, row_back}

-- a two-byte number is the number of its two bytes
pub two_byte_back : (x : ℕ) → two_byte (x % 256) (x / 256) ≡ x
two_byte_back x = omega arith

-- these bytes stand at this place
abbrev Holds : List ℕ → ℕ → List ℕ → Type 0
Holds s at part = (i : ℕ) → i < length part → get_or s (at + i) 0 ≡ get_or part i 0

holds_first : (a b : List ℕ) → Holds (a ++ b) 0 a
holds_first a b i l = let z : 0 + i ≡ i = omega arith in rw z (get_or-append a b 0 i l)

holds_later : (a b part : List ℕ) (at : ℕ) → Holds b at part → Holds (a ++ b) (length a + at) part
holds_later a b part at h i l = let z : length a + at + i ≡ length a + (at + i) = omega arith in rw z (get_or-append-add a b (at + i) 0 ∙ h i l)

-- byte i of item j, of items that have m bytes each
module _ (bytes : ℕ → List ℕ) (m : ℕ) (each : (j : ℕ) → length (bytes j) ≡ m) where
  item_byte : (n k j i : ℕ) → j < k → i < m → get_or (items bytes n k) (m * j + i) 0 ≡ get_or (bytes (n + j)) i 0
  unfolding items
  item_byte n zero j i l b = absurd (omega arith)
  item_byte n (suc k) zero i l b =
      let z : m * 0 + i ≡ i = omega arith in
      let y : n + 0 ≡ n = omega arith in
      let x = each n in
      rw (z, y) (get_or-append (bytes n) (items bytes (n + 1) k) 0 i (omega arith))
  item_byte n (suc k) (suc j) i l b =
      let x = each n in
      let z : m * suc j + i ≡ length (bytes n) + (m * j + i) = omega arith in
      let y : n + 1 + j ≡ n + suc j = omega arith in
      rw z (get_or-append-add (bytes n) (items bytes (n + 1) k) (m * j + i) 0 ∙ rw (item_byte (n + 1) k j i (omega arith) b, y))

  -- a section at a place of the file
  module _ (s : List ℕ) (at count : ℕ) (h : Holds s at (section_of count bytes)) where
    count_back : number_at s at ≡ count
    unfolding number_at section_of
    count_back =
        let l = length-section bytes m each count in
        let z : at + 0 ≡ at = omega arith in
        let first = rw z at (h 0 (omega arith)) in
        rw (first, h 1 (omega arith)) (two_byte_back count)

    byte_back : (j i : ℕ) → j < count → i < m → m * j + m ≤ m * count → get_or s (at + 2 + m * j + i) 0 ≡ get_or (bytes j) i 0
    unfolding section_of
    byte_back j i l b room =
        let long = length-section bytes m each count in
        let z : at + 2 + m * j + i ≡ at + suc (suc (m * j + i)) = omega arith in
        let y : 0 + j ≡ j = omega arith in
        rw z (h (suc (suc (m * j + i))) (omega arith) ∙ rw (item_byte 0 count j i l b, y))

module _ (s : List ℕ) (at count : ℕ) where
  label_back : (label : ℕ → ℕ) → Holds s at (labels_of count label) → (n : ℕ) → n < count → label_at s (at + 2) n ≡ label n
  unfolding label_at number_at
  label_back label h n l =
      let bytes : ℕ → List ℕ = λ k. two_bytes (label k) in
      let z : at + 2 + 2 * n + 0 ≡ at + 2 + 2 * n = omega arith in
      let low = rw z at (byte_back bytes 2 (λ _. refl) s at count h n 0 l (omega arith) (omega arith)) in
      let high = byte_back bytes 2 (λ _. refl) s at count h n 1 l (omega arith) (omega arith) in
      rw (low, high) (two_byte_back (label n))

  entry_back : (entry : ℕ → Entry) → Holds s at (events_of count entry) → (n : ℕ) → n < count → entries_at s (at + 2) n ≡ entry n
  unfolding entries_at entry_at number_at
  entry_back entry h n l =
      let bytes : ℕ → List ℕ = λ k. entry_bytes (entry k) in
      let byte : (i : ℕ) → i < 4 → get_or s (at + 2 + 4 * n + i) 0 ≡ get_or (entry_bytes (entry n)) i 0 =
      λ i b. byte_back bytes 4 (λ _. refl) s at count h n i l b (omega arith) in
      let y : at + 2 + 4 * n + 0 ≡ at + 2 + 4 * n = omega arith in
      let z : at + 2 + 4 * n + 2 + 1 ≡ at + 2 + 4 * n + 3 = omega arith in
      let kind = rw y at (byte 0 (omega arith)) in
      rw (kind, byte 1 (omega arith), byte 2 (omega arith), z, byte 3 (omega arith), two_byte_back (entry n).field)

-- what a written file holds
module _ (c : Contents) where
  abbrev file : List ℕ
  file = file_of c

  abbrev workers_part : List ℕ
  workers_part = labels_of c.workers c.worker_label

  abbrev fields_part : List ℕ
  fields_part = labels_of c.fields c.field_label

  abbrev events_part : List ℕ
  events_part = events_of c.events c.entry

  workers_hold : Holds file 0 workers_part
  unfolding file_of
  workers_hold = holds_first workers_part (fields_part ++ events_part)

  fields_hold : Holds file (fields_at c.workers) fields_part
  unfolding file_of
  fields_hold =
      let l = length-section (λ n. two_bytes (c.worker_label n)) 2 (λ _. refl) c.workers in
      let z : fields_at c.workers ≡ length workers_part + 0 = omega arith in
      rw z (holds_later workers_part (fields_part ++ events_part) fields_part 0 (holds_first fields_part events_part))

  events_hold : Holds file (events_at c.workers c.fields) events_part
  unfolding file_of
  events_hold =
      let l = length-section (λ n. two_bytes (c.worker_label n)) 2 (λ _. refl) c.workers in
      let m = length-section (λ n. two_bytes (c.field_label n)) 2 (λ _. refl) c.fields in
      let z : events_at c.workers c.fields ≡ length workers_part + (length fields_part + 0) = omega arith in
      rw z
      (holds_later workers_part (fields_part ++ events_part) events_part (length fields_part + 0)
      (holds_later fields_part events_part events_part 0 (λ i b. let y : 0 + i ≡ i = omega arith in rw y)))

  workers_back : worker_count file ≡ c.workers
  unfolding worker_count
  workers_back = count_back (λ n. two_bytes (c.worker_label n)) 2 (λ _. refl) file 0 c.workers workers_hold

  fields_back : field_count file ≡ c.fields
  unfolding field_count
  fields_back = rw workers_back (count_back (λ n. two_bytes (c.field_label n)) 2 (λ _. refl) file (fields_at c.workers) c.fields fields_hold)

  events_back : event_count file ≡ c.events
  unfolding event_count
  events_back =
      rw (workers_back, fields_back) (count_back (λ n. entry_bytes (c.entry n)) 4 (λ _. refl) file (events_at c.workers c.fields) c.events events_hold)

  reads_back : Agrees (contents_in file) c
  unfolding worker_label field_label entry_in
  reads_back =
      record {
        workers = workers_back;
        worker_labels = label_back file 0 c.workers c.worker_label workers_hold;
        fields = fields_back;
        field_labels = rw workers_back (label_back file (fields_at c.workers) c.fields c.field_label fields_hold);
        events = events_back;
        entries = rw (workers_back, fields_back) (entry_back file (events_at c.workers c.fields) c.events c.entry events_hold);
      }

-- rows that pass the tests
module _ (r : Rows) (passes : rows_tests r ≡ fine) where
  abbrev c : Contents
  c = contents_of r

  abbrev made : List ℕ
  made = file_of (contents_of r)

  all : Whole r
  all = whole r passes

  back : Agrees (contents_in made) c
  back = reads_back c

  written_well_formed : WellFormed made
  written_well_formed = agrees_formed (length made) (contents_in made) c back (rw (length-file c) all.formed)

  event_back : (n : ℕ) → n < c.events → numbers_of (event_at made n) ≡ c.entry n
  unfolding event_at
  event_back n l =
      let e : entry_in made n ≡ c.entry n = back.entries n l in
      rw e (numbers_back c.workers c.fields (c.entry n) (all.formed.events_good n l))

  rows_back : rows_in made ≡ r
  unfolding rows_in entry_of number_of
  rows_back =
      let fit = all.events_fit in
      let E = all.events_count in
      let n₁ = back.workers in
      let n₂ = back.fields in
      let n₃ = back.events in
      let n₄ = fit.all_whole in
      rw (
        row_back (worker_label made) (worker_count made) r.worker_labels n₁ back.worker_labels,
        row_back (field_label made) (field_count made) r.field_labels n₂ back.field_labels,
        row_back (λ n. (numbers_of (event_at made n)).kind) (event_count made) r.kinds (omega arith) (λ n l. ap (λ (e : Entry). e.kind) (event_back n (omega arith))),
        row_back (λ n. (numbers_of (event_at made n)).worker) (event_count made) r.workers (omega arith) (λ n l. ap (λ (e : Entry). e.worker) (event_back n (omega arith))),
        row_back (λ n. (numbers_of (event_at made n)).field) (event_count made) r.fields (omega arith) (λ n l. ap (λ (e : Entry). e.field) (event_back n (omega arith))),
      )

-- READING A WRITTEN FILE: where the writer answers so many bytes, they are a file that the check accepts with the rows' counts, and the labels and events read from it are the rows.
module _ (r : Rows) (lent : List ℕ) (answer : Result ℕ Refusal) (buffer : List ℕ) (n : ℕ) (w : Writes r lent answer buffer) (says : answer ≡ Ok n) where
  passed : (write_tests (length lent) r ≡ fine) × (n ≡ length (file_of (contents_of r)))
  passed = by (write_tests (length lent) r) refl (sym says ∙ w.answers)
    where
      by : (x : Fault) → write_tests (length lent) r ≡ x → Ok n ≡ wrote x (file_of (contents_of r)) → (write_tests (length lent) r ≡ fine) × (n ≡ length (file_of (contents_of r)))
      by (Ok done) e q = (e, cc)
      by (Err refusal) e q = let z : ◌≡◌ {A = ℕ} 0 1 = cc in absurd (omega arith)

  rows_fine : rows_tests r ≡ fine
  unfolding write_tests
  rows_fine = (then_fine (rows_tests r) _ passed.0).0

  file_is : take n buffer ≡ file_of (contents_of r)
  file_is =
      let p = passed in
      rw (w.bytes, p.0) (take_at (file_of (contents_of r)) (drop (length (file_of (contents_of r))) lent) n (sym p.1))

  pub read_accepted : checked (take n buffer) ≡ Ok (record { workers = length r.worker_labels; fields = length r.field_labels; events = length r.kinds })
  read_accepted =
      let b = reads_back (contents_of r) in
      let e = (whole r rows_fine).events_count in
      rw file_is (well_formed_accepted (file_of (contents_of r)) (written_well_formed r rows_fine) ∙ rw (b.workers, b.fields, b.events, e))

  pub read_same : rows_in (take n buffer) ≡ r
  read_same = rw file_is (rows_back r rows_fine)
