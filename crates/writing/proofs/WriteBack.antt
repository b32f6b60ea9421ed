-- Writing what was read gives back the same bytes.
use mathlib.Core.Path.{◌≡◌, sym, ◌∙◌, ap}
use mathlib.Core.List.{List, ◌++◌}
use Prim.Native.Nat.{ℕ, zero, suc, ◌+◌, ◌*◌, ◌/◌, ◌%◌, ◌<◌, ◌≤◌}
use native.Mathlib.Numerals.{add-one}
use native.Mathlib.Omega.{arith}
use lib.ListN.{length, get_or, take, drop, length-drop, take-append-drop}
use lib.Seq.{take-add, take_all, drop-drop, drop-cons}
use borrow.Author.Tests.{le-leb}
use Rattle.std.specs.Prelude.{Result, Ok}
use Rattle.recording.specs.declared.refusal.Refusal.{Refusal}
use Rattle.recording.specs.Refusals.{fine}
use Rattle.recording.specs.Tests.{Contents, fields_at, events_at}
use Rattle.recording.specs.File.{number_at, label_at, entry_at, entries_at, worker_count, field_count, event_count, worker_label, field_label, entry_in, event_at, contents_in}
use Rattle.recording.specs.WellFormed.{WellFormed}
use Rattle.writing.specs.Writing.{Rows, number_of, entry_of, longest, shortest, reach, contents_of, size_of, rows_tests, write_tests, two_bytes, entry_bytes, items, section_of, labels_of, events_of, file_of, Writes, numbers_of, listed, rows_in}
use Rattle.recording.proofs.Tests.{fine_first, fine_need}
use Rattle.recording.proofs.WellFormed.{formed_fine}
use Rattle.writing.proofs.RowTests.{fitting_whole, reach_whole}
use Rattle.writing.proofs.Contents.{Agrees, agrees_formed, file_same}
use Rattle.writing.proofs.Listed.{numbers_back, length-listed, number_listed}

-- items that are parts of a file, each m bytes long, are together a part of it
items_part : (bytes : ℕ → List ℕ) (m : ℕ) (s : List ℕ) (at n k : ℕ) → ((j : ℕ) → j < n + k → bytes j ≡ take m (drop (at + m * j) s))
    → items bytes n k ≡ take (m * k) (drop (at + m * n) s)
unfolding items
items_part bytes m s at n zero each = let z : m * 0 ≡ 0 = omega arith in rw z
items_part bytes m s at n (suc k) each =
    let z : m * suc k ≡ m + m * k = omega arith in
    let y : at + m * n + m ≡ at + m * (n + 1) = omega arith in
    rw (z, take-add m (m * k) (drop (at + m * n) s), drop-drop, y, each n (omega arith), items_part bytes m s at (n + 1) k (λ j l. each j (omega arith)))

-- a file of bytes
module _ (s : List ℕ) (bytes : (i : ℕ) → get_or s i 0 < 256) where
  two_part : (i : ℕ) → i + 2 ≤ length s → two_bytes (number_at s i) ≡ take 2 (drop i s)
  unfolding number_at
  two_part i l =
      let b = bytes i in
      let low : (get_or s i 0 + 256 * get_or s (i + 1) 0) % 256 ≡ get_or s i 0 = omega arith in
      let high : (get_or s i 0 + 256 * get_or s (i + 1) 0) / 256 ≡ get_or s (i + 1) 0 = omega arith in
      rw (drop-cons s i 0 (omega arith), drop-cons s (suc i) 0 (omega arith), low, high) (rw add-one)

  entry_part : (i : ℕ) → i + 4 ≤ length s → entry_bytes (entry_at s i) ≡ take 4 (drop i s)
  unfolding entry_at
  entry_part i l =
      let z : i + 2 ≡ suc (suc i) = omega arith in
      rw (two_part (i + 2) (omega arith), drop-cons s i 0 (omega arith), drop-cons s (suc i) 0 (omega arith), z) (rw add-one)

  section_part : (part : ℕ → List ℕ) (m at : ℕ) → at + 2 + m * number_at s at ≤ length s
      → ((j : ℕ) → j < number_at s at → part j ≡ take m (drop (at + 2 + m * j) s)) → section_of (number_at s at) part ≡ take (2 + m * number_at s at) (drop at s)
  unfolding section_of
  section_part part m at room each =
      let n = number_at s at in
      let z : at + 2 + m * 0 ≡ at + 2 = omega arith in
      let rest : items part 0 n ≡ take (m * n) (drop 2 (drop at s)) =
      items_part part m s (at + 2) 0 n (λ j l. each j (omega arith)) ∙ rw (z, drop-drop) in
      ap (λ (l : List ℕ). l ++ items part 0 n) (two_part at (omega arith)) ∙ rw (rest, take-add 2 (m * n) (drop at s))

  labels_part : (at : ℕ) → at + 2 + 2 * number_at s at ≤ length s → labels_of (number_at s at) (label_at s (at + 2)) ≡ take (2 + 2 * number_at s at) (drop at s)
  unfolding label_at
  labels_part at room = section_part (λ n. two_bytes (label_at s (at + 2) n)) 2 at room (λ j l. two_part (at + 2 + 2 * j) (omega arith))

  events_part : (at : ℕ) → at + 2 + 4 * number_at s at ≤ length s → events_of (number_at s at) (entries_at s (at + 2)) ≡ take (2 + 4 * number_at s at) (drop at s)
  unfolding entries_at
  events_part at room = section_part (λ n. entry_bytes (entries_at s (at + 2) n)) 4 at room (λ j l. entry_part (at + 2 + 4 * j) (omega arith))

  module _ (good : WellFormed s) where
    file_back : file_of (contents_in s) ≡ s
    unfolding file_of worker_count field_count event_count worker_label field_label entry_in
    file_back =
        let size = good.size in
        let W = number_at s 0 in
        let F = number_at s (fields_at W) in
        let E = number_at s (events_at W F) in
        let y : events_at W F ≡ fields_at W + (2 + 2 * F) = omega arith in
        let end = length-drop (events_at W F) s in
        rw (
          labels_part 0 (omega arith),
          labels_part (fields_at W) (omega arith),
          events_part (events_at W F) (omega arith),
          take_all (2 + 4 * E) (drop (events_at W F) s) (omega arith),
          y,
          ← drop-drop (2 + 2 * F) (fields_at W) s,
          take-append-drop (2 + 2 * F) (drop (fields_at W) s),
        )
        (take-append-drop (2 + 2 * W) s)

    abbrev r : Rows
    r = rows_in s

    abbrev c : Contents
    c = contents_of (rows_in s)

    number_back : (number : ℕ → ℕ) (count n : ℕ) → n < count → number_of (listed number 0 count) n ≡ number n
    unfolding number_of
    number_back number count n l = let z : 0 + n ≡ n = omega arith in number_listed number 0 count n l ∙ rw z

    numbers : (n : ℕ) → n < event_count s → numbers_of (event_at s n) ≡ entry_in s n
    unfolding event_at
    numbers n l = numbers_back (worker_count s) (field_count s) (entry_in s n) (good.events_good n l)

    one : (longest r.kinds r.workers r.fields ≡ event_count s) × (shortest r.kinds r.workers r.fields ≡ event_count s)
    unfolding rows_in
    one =
        let kinds = length-listed (λ n. (numbers_of (event_at s n)).kind) 0 (event_count s) in
        let workers = length-listed (λ n. (numbers_of (event_at s n)).worker) 0 (event_count s) in
        let fields = length-listed (λ n. (numbers_of (event_at s n)).field) 0 (event_count s) in
        (omega arith, omega arith)

    agree : Agrees c (contents_in s)
    unfolding rows_in entry_of
    agree =
        record {
          workers = length-listed (worker_label s) 0 (worker_count s);
          worker_labels = number_back (worker_label s) (worker_count s);
          fields = length-listed (field_label s) 0 (field_count s);
          field_labels = number_back (field_label s) (field_count s);
          events = one.0;
          entries =
              λ n l.
              rw (
                number_back (λ n. (numbers_of (event_at s n)).kind) (event_count s) n l,
                number_back (λ n. (numbers_of (event_at s n)).worker) (event_count s) n l,
                number_back (λ n. (numbers_of (event_at s n)).field) (event_count s) n l,
              )
              (numbers n l);
        }

    label_two : (at n : ℕ) → label_at s at n < 65536
    unfolding label_at number_at
    label_two at n = let a = bytes (at + 2 * n) in let b = bytes (at + 2 * n + 1) in omega arith

    reached : reach r ≡ length s
    unfolding worker_label field_label
    reached =
        let a = agree in
        let W = a.workers in
        let F = a.fields in
        let w = fitting_whole (number_of r.worker_labels) 0 (length r.worker_labels) (λ j l. rw (a.worker_labels j (omega arith)) (label_two 2 j)) in
        let f = fitting_whole (number_of r.field_labels) 0 (length r.field_labels) (λ j l. rw (a.field_labels j (omega arith)) (label_two (fields_at (worker_count s) + 2) j)) in
        reach_whole r (omega arith) (omega arith) ∙ rw (W, F, one.1) (sym good.size)

    tests_pass : rows_tests r ≡ fine
    unfolding rows_tests
    tests_pass = formed_fine (reach r) c (rw reached (agrees_formed (length s) c (contents_in s) agree good))

-- WRITING WHAT WAS READ: the rows read from a well-formed file of bytes, written into a buffer that is long enough, give back the same bytes, and the buffer keeps its tail.
pub writes_back : (s : List ℕ) → ((i : ℕ) → get_or s i 0 < 256) → WellFormed s → (lent : List ℕ) → length s ≤ length lent
    → (answer : Result ℕ Refusal) (buffer : List ℕ) → Writes (rows_in s) lent answer buffer → (answer ≡ Ok (length s)) × (buffer ≡ s ++ drop (length s) lent)
unfolding write_tests
writes_back s bytes good lent room answer buffer w =
    let a = agree s bytes good in
    let c = contents_of (rows_in s) in
    let file : file_of c ≡ s = file_same c (contents_in s) a ∙ file_back s bytes good in
    let size : size_of c ≡ length s = rw (a.workers, a.fields, a.events) (sym good.size) in
    let passes : write_tests (length lent) (rows_in s) ≡ fine =
    fine_first _ _ (tests_pass s bytes good) ∙ fine_need _ _ _ (le-leb (size_of c) (length lent) (omega arith)) in
    (w.answers ∙ rw (passes, file), w.bytes ∙ rw (passes, file))
