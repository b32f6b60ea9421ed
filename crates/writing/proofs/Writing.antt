-- What the writer's ways out answer and leave, and that no other outcome meets its promise.
use mathlib.Core.Path.{◌≡◌, refl, sym, ◌∙◌}
use mathlib.Core.List.{List, ◌++◌, append_assoc}
use Prim.Native.Nat.{ℕ, ◌+◌, ◌*◌, ◌<◌, ◌≤◌}
use native.Mathlib.Omega.{arith}
use lib.Dec.{leb}
use lib.ListN.{length, length-append}
use borrow.Author.Tests.{lt-ltb, le-ltb, le-leb, lt-leb}
use Rattle.std.specs.Prelude.{Result, Ok, Err}
use Rattle.recording.specs.declared.refusal.Reason.TheVariants.{ShortBuffer}
use Rattle.recording.specs.declared.refusal.Refusal.{Refusal}
use Rattle.recording.specs.Refusals.{Fault, fine, refused}
use Rattle.recording.specs.declared.Entry.{Entry}
use Rattle.recording.specs.Tests.{need, ◌then◌, Contents}
use Rattle.recording.specs.WellFormed.{Good, Formed}
use Rattle.recording.specs.WellFormed.Good.{read, write, crossing}
use Rattle.byte_rows.specs.Buffer.{put}
use Rattle.writing.specs.declared.Rows.{Rows as Lent}
use Rattle.writing.specs.Writing.{Rows, rows_lent, number_of, longest, shortest, fitting_in, reach, contents_of, size_of, rows_tests, write_tests, two_bytes, entry_bytes, labels_of, events_of, file_of, Writes}
use Rattle.writing.specs.Parts.{count_of, event_in, EntryFits, LabelsFit, EntriesFit, EventsFit}
use Rattle.recording.proofs.WellFormed.{fine_formed}
use Rattle.writing.proofs.RowTests.{either, fitting_all}
use Rattle.byte_rows.proofs.Buffer.{put_put, put_start}
use Rattle.writing.proofs.Bytes.{length-section}

-- a file is as long as its counts say
pub length-file : (c : Contents) → length (file_of c) ≡ size_of c
unfolding file_of
length-file c =
    let a = length-section (λ n. two_bytes (c.worker_label n)) 2 (λ _. refl) c.workers in
    let b = length-section (λ n. two_bytes (c.field_label n)) 2 (λ _. refl) c.fields in
    let d = length-section (λ n. entry_bytes (c.entry n)) 4 (λ _. refl) c.events in
    rw (length-append, length-append, a, b, d) (omega arith)

good_fits : (W F : ℕ) (e : Entry) → W ≤ 16 → F ≤ 512 → Good W F e → EntryFits e
good_fits W F e few few' (read k w f) = record { kind_fits = omega arith; worker_fits = omega arith; field_fits = omega arith }
good_fits W F e few few' (write k w f) = record { kind_fits = omega arith; worker_fits = omega arith; field_fits = omega arith }
good_fits W F e few few' (crossing k w f) = record { kind_fits = omega arith; worker_fits = omega arith; field_fits = omega arith }

-- rows that pass the tests can be written whole
module _ (r : Rows) where
  abbrev W : ℕ
  W = length r.worker_labels

  abbrev F : ℕ
  F = length r.field_labels

  abbrev w : ℕ
  w = fitting_in r.worker_labels

  abbrev f : ℕ
  f = fitting_in r.field_labels

  pub record Whole : Type 0 where
    pub formed : Formed (size_of (contents_of r)) (contents_of r)
    pub workers_fit : LabelsFit r.worker_labels
    pub fields_fit : LabelsFit r.field_labels
    pub events_fit : EntriesFit r.kinds r.workers r.fields
    pub events_count : longest r.kinds r.workers r.fields ≡ length r.kinds

  -- what is reached is the whole file only if every label fits and no row is shorter than another
  module _ (e : reach r ≡ size_of (contents_of r)) where
    workers_reached : W ≤ w
    unfolding reach
    workers_reached = either w W (λ l. let z = rw (lt-ltb w W l) at e in absurd (omega arith)) (λ l. l)

    fields_reached : F ≤ f
    unfolding reach
    fields_reached =
        either f F (λ l. let z = rw (le-ltb w W workers_reached, lt-ltb f F l) at e in absurd (omega arith)) (λ l. l)

    events_reached : shortest r.kinds r.workers r.fields ≡ longest r.kinds r.workers r.fields
    unfolding reach
    events_reached = let z = rw (le-ltb w W workers_reached, le-ltb f F fields_reached) at e in omega arith

  fits : (row : List ℕ) → length row ≤ fitting_in row → LabelsFit row
  unfolding number_of
  fits row l = record { label_fits = λ n k. fitting_all (number_of row) 0 (length row) l n (omega arith) (omega arith) }

  pub whole : rows_tests r ≡ fine → Whole
  unfolding rows_tests
  whole t =
      let g = fine_formed (reach r) (contents_of r) t in
      let size = g.size in
      let same = events_reached size in
      record {
        formed = rw size at g;
        workers_fit = fits r.worker_labels (workers_reached size);
        fields_fit = fits r.field_labels (fields_reached size);
        events_fit =
            record {
              all_whole = sym same;
              entry_fits = λ n l. good_fits W F _ g.few_workers g.few_fields (g.events_good n (omega arith));
            };
        events_count = omega arith;
      }

-- the ways out of the writer, whose tests of the rows answer a
module _ (l : Lent) (a : Fault) (p : a ≡ rows_tests (rows_lent l)) where
  abbrev rows : Rows
  rows = rows_lent l

  pub rows_refused : (lent : List ℕ) (refusal : Refusal) → a ≡ Err refusal → Writes rows lent (Err refusal) lent
  unfolding write_tests ◌then◌
  rows_refused lent refusal k = record { answers = rw (← p, k); bytes = rw (← p, k) }

  module _ (k : a ≡ fine) where
    all : Whole rows
    all = whole rows (sym p ∙ k)

    -- what the functions that put the bytes ask for
    pub workers_few : length l.worker_labels.now ≤ 512
    workers_few = let few = all.formed.few_workers in omega arith

    pub workers_fit : LabelsFit l.worker_labels.now
    workers_fit = all.workers_fit

    pub fields_few : length l.field_labels.now ≤ 512
    fields_few = all.formed.few_fields

    pub fields_fit : LabelsFit l.field_labels.now
    fields_fit = all.fields_fit

    pub events_few : count_of l.events ≤ 16000
    events_few = all.formed.few_events

    pub events_fit : EventsFit l.events
    events_fit = all.events_fit

    abbrev fields_place : ℕ
    fields_place = 2 + 2 * length l.worker_labels.now

    abbrev events_place : ℕ
    events_place = fields_place + 2 + 2 * length l.field_labels.now

    abbrev size : ℕ
    size = events_place + 2 + 4 * count_of l.events

    size_is : size ≡ size_of (contents_of rows)
    size_is = omega arith

    module _ (lent : List ℕ) where
      tests_then : (b : Fault) → need (leb (size_of (contents_of rows)) (length lent)) ShortBuffer 0 ≡ b → write_tests (length lent) rows ≡ b
      unfolding write_tests ◌then◌
      tests_then b q = rw (← p, k) q

      pub buffer_short : length lent < size → Writes rows lent (Err (record { reason = ShortBuffer; place = 0 })) lent
      unfolding need
      buffer_short m =
          let s = size_is in
          let q = tests_then (refused ShortBuffer 0) (rw (lt-leb (size_of (contents_of rows)) (length lent) (omega arith))) in
          record { answers = rw q; bytes = rw q }

      pub file_written : (b₁ b₂ b₃ : List ℕ) → size ≤ length lent
          → b₁ ≡ put lent 0 (labels_of (length l.worker_labels.now) (number_of l.worker_labels.now))
          → b₂ ≡ put b₁ fields_place (labels_of (length l.field_labels.now) (number_of l.field_labels.now))
          → b₃ ≡ put b₂ events_place (events_of (count_of l.events) (event_in l.events))
          → Writes rows lent (Ok size) b₃
      unfolding need file_of
      file_written b₁ b₂ b₃ m q₁ q₂ q₃ =
          let s = size_is in
          let c = contents_of rows in
          let passes = tests_then fine (rw (le-leb (size_of c) (length lent) (omega arith))) in
          let A = labels_of c.workers c.worker_label in
          let B = labels_of c.fields c.field_label in
          let C = events_of c.events c.entry in
          let a = length-section (λ n. two_bytes (c.worker_label n)) 2 (λ _. refl) c.workers in
          let b = length-section (λ n. two_bytes (c.field_label n)) 2 (λ _. refl) c.fields in
          let ab = length-append A B in
          let one : fields_place ≡ 0 + length A = omega arith in
          let two : events_place ≡ 0 + length (A ++ B) = omega arith in
          let after_two : b₂ ≡ put lent 0 (A ++ B) = rw (one, q₁, put_put lent 0 A (omega arith) B) at q₂ in
          let done : b₃ ≡ put lent 0 (A ++ B ++ C) = rw (two, after_two, put_put lent 0 (A ++ B) (omega arith) C) at q₃ in
          record { answers = rw (passes, length-file c) (rw size_is); bytes = rw passes (done ∙ rw (put_start, append_assoc A B C)) }

-- Any two outcomes that the promise allows are equal, every byte of the buffer included.
pub one_outcome : (r : Rows) (lent : List ℕ) (a a' : Result ℕ Refusal) (b b' : List ℕ) → Writes r lent a b → Writes r lent a' b' → (a ≡ a') × (b ≡ b')
one_outcome r lent a a' b b' x y = (x.answers ∙ sym y.answers, x.bytes ∙ sym y.bytes)
