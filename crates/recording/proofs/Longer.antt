-- No test looks past the longest well-formed file: a longer file gets the answer of its first 65,063 bytes or more.
use mathlib.Core.Path.{◌≡◌, refl, sym}
use mathlib.Core.Bool.{Bool, true, false}
use mathlib.Core.List.{List}
use Prim.Native.Nat.{ℕ, zero, suc, ◌+◌, ◌*◌, ◌-◌, ◌<◌, ◌≤◌}
use native.Mathlib.Omega.{arith}
use lib.Dec.{ltb, leb}
use lib.ListN.{length, get_or, take}
use lib.Seq.{get_or-take, length-take-le, take_all}
use borrow.Author.Tests.{lt-leb, leb-true, ltb-true, ltb-false}
use Rattle.recording.specs.declared.refusal.Reason.{Reason}
use Rattle.recording.specs.declared.refusal.Reason.TheVariants.{WorkerCount, WorkerOrder, FieldCount, FieldOrder, ShortTable}
use Rattle.recording.specs.Refusals.{Fault}
use Rattle.std.specs.Prelude.{Ok, Err}
use Rattle.recording.specs.declared.Entry.{Entry}
use Rattle.recording.specs.Tests.{need, rising, events_tests, label_section, event_section, end_test, events_to_end, fields_at, events_at, file_size, file_tests, all_tests}
use Rattle.recording.specs.File.{number_at, label_at, entry_at, entries_at, worker_count, field_count, event_count, worker_label, field_label, entry_in, refusal, counts_in, answered, checked}
use Rattle.recording.proofs.Tests.{need_fine, then_same, section_same, section_passed, labels_good, and_both}
use Rattle.recording.proofs.WellFormed.{fine_well_formed}

-- labels or events that agree answer the same
rising_same : (label label' : ℕ → ℕ) (order : Reason) (at n k : ℕ) → ((j : ℕ) → j ≤ n + k → label j ≡ label' j) → rising label order at n k ≡ rising label' order at n k
unfolding rising
rising_same label label' order at n zero same = refl
rising_same label label' order at n (suc k) same =
    rw (same n (omega arith), same (n + 1) (omega arith), rising_same label label' order at (n + 1) k (λ j l. same j (omega arith)))

events_same : (W F : ℕ) (entry entry' : ℕ → Entry) (at n k : ℕ) → ((j : ℕ) → j < n + k → entry j ≡ entry' j) → events_tests W F entry at n k ≡ events_tests W F entry' at n k
unfolding events_tests
events_same W F entry entry' at n zero same = refl
events_same W F entry entry' at n (suc k) same =
    rw (same n (omega arith), events_same W F entry entry' at (n + 1) k (λ j l. same j (omega arith)))

-- two files that agree as far as a test looks, and are both longer
module _ (s t : List ℕ) (long : 65062 < length s) (long' : 65062 < length t) (agree : (i : ℕ) → i < 65062 → get_or s i 0 ≡ get_or t i 0) where
  number_same : (i : ℕ) → i + 2 ≤ 65062 → number_at s i ≡ number_at t i
  unfolding number_at
  number_same i l = rw (agree i (omega arith), agree (i + 1) (omega arith))

  label_same : (at n : ℕ) → at + 2 * n + 2 ≤ 65062 → label_at s at n ≡ label_at t at n
  unfolding label_at
  label_same at n l = number_same (at + 2 * n) l

  entry_same : (at n : ℕ) → at + 4 * n + 4 ≤ 65062 → entries_at s at n ≡ entries_at t at n
  unfolding entries_at entry_at
  entry_same at n l =
      rw (agree (at + 4 * n) (omega arith), agree (at + 4 * n + 1) (omega arith), number_same (at + 4 * n + 2) (omega arith))

  labels_same : (at limit : ℕ) (range order : Reason) → at + 2 * limit + 4 ≤ 65062
      → label_section (length s) at (number_at s at) (label_at s (at + 2)) limit range order ≡ label_section (length t) at (number_at t at) (label_at t (at + 2)) limit range order
  unfolding label_section
  labels_same at limit range order l =
      rw (number_same at (omega arith))
      (section_same (length s) (length t) at (2 * number_at t at) _ _ _ (omega arith) (omega arith)
      (λ fine.
      let few = leb-true (number_at t at) limit (and_both (ltb 0 (number_at t at)) (leb (number_at t at) limit) (need_fine _ _ _ fine)).1 in
      (omega arith, omega arith, rising_same (label_at s (at + 2)) (label_at t (at + 2)) order (at + 2) 0 (number_at t at - 1) (λ j m. label_same (at + 2) j (omega arith)))))

  to_end_same : (W F : ℕ) → W ≤ 16 → F ≤ 512
      → events_to_end (length s) W F (number_at s (events_at W F)) (entries_at s (events_at W F + 2)) ≡ events_to_end (length t) W F (number_at t (events_at W F)) (entries_at t (events_at W F + 2))
  unfolding events_to_end event_section end_test
  to_end_same W F few_workers few_fields =
      rw (number_same (events_at W F) (omega arith))
      (then_same _ _ _ _
      (section_same (length s) (length t) (events_at W F) (4 * number_at t (events_at W F)) _ _ _ (omega arith) (omega arith)
      (λ fine.
      let few = leb-true (number_at t (events_at W F)) 16000 (need_fine _ _ _ fine) in
      (omega arith, omega arith, events_same W F (entries_at s (events_at W F + 2)) (entries_at t (events_at W F + 2)) _ 0 (number_at t (events_at W F)) (λ j m. entry_same (events_at W F + 2) j (omega arith)))))
      (λ fine.
      let few = leb-true (number_at t (events_at W F)) 16000 (need_fine _ _ _ (section_passed _ _ _ _ _ fine).range_fine) in
      let end = file_size W F (number_at t (events_at W F)) in
      rw (lt-leb (length s) end (omega arith), lt-leb (length t) end (omega arith))))

  pub same_refusal : (tables : Bool) → refusal tables s ≡ refusal tables t
  unfolding refusal all_tests file_tests worker_count field_count event_count worker_label field_label entry_in
  same_refusal tables =
      let W = number_same 0 (omega arith) in
      then_same (need tables ShortTable 0) _ _ _ refl
      (λ _.
      then_same _ _ _ _ (labels_same 0 16 WorkerCount WorkerOrder (omega arith))
      (λ workers.
      let few = (labels_good (length s) 0 (number_at s 0) (label_at s 2) 16 WorkerCount WorkerOrder workers).few in
      rw W
      (then_same _ _ _ _ (labels_same (fields_at (number_at t 0)) 512 FieldCount FieldOrder (omega arith))
      (λ fields.
      let few' = (labels_good (length s) (fields_at (number_at t 0)) (number_at s (fields_at (number_at t 0))) (label_at s (fields_at (number_at t 0) + 2)) 512 FieldCount FieldOrder fields).few in
      let F = number_same (fields_at (number_at t 0)) (omega arith) in
      rw F (to_end_same (number_at t 0) (number_at t (fields_at (number_at t 0))) (omega arith) (omega arith))))))

  pub same_checked : checked s ≡ checked t
  unfolding checked
  same_checked = by (refusal true s) refl
    where
      by : (x : Fault) → refusal true s ≡ x → answered (refusal true s) (counts_in s) ≡ answered (refusal true t) (counts_in t)
      by (Ok done) e = let g = fine_well_formed s true e in absurd (omega arith)
      by (Err refusal) e = rw (← same_refusal true, e)

-- a file and its first m bytes
module _ (s : List ℕ) (m : ℕ) (l : 65062 < m) where
  either : {P : Type 0} → (length s ≤ m → P) → (65062 < length s → 65062 < length (take m s) → ((i : ℕ) → i < 65062 → get_or s i 0 ≡ get_or (take m s) i 0) → P) → P
  either {P} short long = by (ltb m (length s)) refl
    where
      by : (b : Bool) → ltb m (length s) ≡ b → P
      by true e =
          let h = ltb-true m (length s) e in
          let q = length-take-le m s (omega arith) in
          long (omega arith) (omega arith) (λ i j. sym (get_or-take m s i 0 (omega arith)))
      by false e = short (ltb-false m (length s) e)

  pub longer_refusal : (tables : Bool) → refusal tables (take m s) ≡ refusal tables s
  longer_refusal tables = either (λ short. rw (take_all m s short)) (λ a b c. sym (same_refusal s (take m s) a b c tables))

  pub longer_checked : checked (take m s) ≡ checked s
  longer_checked = either (λ short. rw (take_all m s short)) (λ a b c. sym (same_checked s (take m s) a b c))
