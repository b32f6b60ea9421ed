-- Laws of rows that are to be written: what the functions over rows answer, and that it is the answer of the one list of tests.
use mathlib.Core.Path.{◌≡◌, refl, sym, ◌∙◌}
use mathlib.Core.Bool.{Bool, true, false, cond}
use mathlib.Core.List.{List, [], ◌∷◌}
use Prim.Native.Nat.{ℕ, zero, suc, ◌+◌, ◌*◌, ◌<◌, ◌≤◌}
use native.Mathlib.Omega.{arith}
use lib.Dec.{ltb}
use lib.ListN.{length, get_or}
use borrow.Author.Tests.{lt-ltb, le-ltb, le-leb, ltb-true, ltb-false}
use Rattle.std.specs.Option.{unwrap_or}
use Rattle.std.specs.List.{position, position_or_len}
use Rattle.std.proofs.lemmas.Grind.{common_steps}
use Rattle.std.proofs.lemmas.List.Sums.{prefix_len-le-length}
use Rattle.events.proofs.Tests.{bool}
use Rattle.std.specs.Prelude.{Err, not, nat_lt}
use Rattle.recording.specs.declared.refusal.Reason.{Reason}
use Rattle.recording.specs.declared.refusal.Reason.TheVariants.{WorkerCount, WorkerOrder, FieldCount, FieldOrder}
use Rattle.recording.specs.declared.refusal.Refusal.{Refusal}
use Rattle.recording.specs.Refusals.{Fault, fine}
use Rattle.recording.specs.declared.Entry.{Entry}
use Rattle.recording.specs.Tests.{◌then◌, label_section, event_section, end_test, events_to_end, fields_at, file_size, file_tests}
use Rattle.writing.specs.Writing.{Rows, number_of, entry_of, longest, shortest, fitting, fitting_in, reach, rows_tests}
use Rattle.writing.specs.Parts.{row_answer, rows_answer}
use Rattle.recording.proofs.Tests.{fine_need, then_done, first_or_later, then_same, section_same, Labels, labels_good}

pub number_of_lem : (row : List ℕ) (n x : ℕ) → x ≡ get_or row n 0 → x ≡ number_of row n
unfolding number_of
number_of_lem row n x q = q

pub entry_of_lem : (kinds workers fields : List ℕ) (n kind worker field : ℕ) → kind ≡ get_or kinds n 0 → worker ≡ get_or workers n 0 → field ≡ get_or fields n 0
    → ◌≡◌ {A = Entry} (record { kind = kind; worker = worker; field = field }) (entry_of kinds workers fields n)
unfolding entry_of number_of
entry_of_lem kinds workers fields n kind worker field p q r = rw (p, q, r)

-- a number is below another, or not
pub either : {P : Type 0} (a b : ℕ) → (a < b → P) → (b ≤ a → P) → P
either a b less more = bool (ltb a b) (λ e. less (ltb-true a b e)) (λ e. more (ltb-false a b e))

-- the labels of a row from label n on: the first that is no two-byte value is the first above 65535
abbrev too_large : ℕ → Bool
too_large x = nat_lt 65535 x

fitting_row : (row : List ℕ) (label : ℕ → ℕ) (n : ℕ) → ((j : ℕ) → j < length row → label (n + j) ≡ get_or row j 0)
    → position_or_len too_large row ≡ fitting label n (length row)
unfolding fitting
fitting_row [] label n same = refl
fitting_row (x ∷ row) label n same =
    let z : n + 0 ≡ n = omega arith in
    let here : label n ≡ x = rw z at (same 0 (omega arith)) in
    let later = fitting_row row label (n + 1) (λ j l. let y : n + 1 + j ≡ n + suc j = omega arith in rw y (same (suc j) (omega arith))) in
    rw (here, ← later) (either 65535 x (λ l. rw (lt-ltb 65535 x l, le-ltb x 65536 (omega arith))) (λ l. rw (le-ltb 65535 x l, lt-ltb x 65536 (omega arith))))

fitting_is : (row : List ℕ) → position_or_len too_large row ≡ fitting_in row
unfolding number_of
fitting_is row = fitting_row row (λ j. get_or row j 0) 0 (λ j l. let z : 0 + j ≡ j = omega arith in rw z)

pub fitting_few : (row : List ℕ) → fitting_in row ≤ length row
fitting_few row = rw (← fitting_is row) (prefix_len-le-length (λ x. not (too_large x)) row)

unwrapped : (p : ℕ → Bool) (row : List ℕ) → unwrap_or (position p row) (length row) ≡ position_or_len p row
unwrapped p row = let l = prefix_len-le-length (λ x. not (p x)) row in grind (arith, common_steps)

pub first_too_large : (row : List ℕ) → unwrap_or (position too_large row) (length row) ≡ fitting_in row
first_too_large row = unwrapped too_large row ∙ fitting_is row

pub fitting_whole : (label : ℕ → ℕ) (n k : ℕ) → ((j : ℕ) → j < n + k → label j < 65536) → fitting label n k ≡ k
unfolding fitting
fitting_whole label n zero all = refl
fitting_whole label n (suc k) all =
    let later = fitting_whole label (n + 1) k (λ j l. all j (omega arith)) in
    rw (lt-ltb (label n) 65536 (all n (omega arith))) (omega arith)

-- where all fit, each is a two-byte value
pub fitting_all : (label : ℕ → ℕ) (n k : ℕ) → k ≤ fitting label n k → (j : ℕ) → n ≤ j → j < n + k → label j < 65536
unfolding fitting
fitting_all label n zero e j l m = absurd (omega arith)
fitting_all label n (suc k) e j l m =
    by (ltb (label n) 65536) refl e (λ z. fitting_all label (n + 1) k z j)
  where
    by : (t : Bool) → ltb (label n) 65536 ≡ t → suc k ≤ cond t (1 + fitting label (n + 1) k) 0
        → (k ≤ fitting label (n + 1) k → n + 1 ≤ j → j < n + 1 + k → label j < 65536) → label j < 65536
    by true t e later =
        first_or_later n j l
        (λ q. let z = ltb-true (label n) 65536 t in rw q at z)
        (λ p. later (omega arith) p (omega arith))
    by false t e later = absurd (omega arith)

-- the events that are to be written end where their file does
pub events_ended : (kinds workers fields : List ℕ) (W F : ℕ) (r : Fault)
    → r ≡ event_section (4 + 2 * W + 2 * F + 2 + 4 * shortest kinds workers fields) (4 + 2 * W + 2 * F) W F (longest kinds workers fields) (entry_of kinds workers fields)
    → r ≡ rows_answer kinds workers fields W F
unfolding rows_answer events_to_end end_test
events_ended kinds workers fields W F r q =
    let n = longest kinds workers fields in
    let m = shortest kinds workers fields in
    let z : 4 + 2 * W + 2 * F + 2 + 4 * m ≡ file_size W F m = omega arith in
    rw z at q ∙ sym (then_done _ _ (fine_need _ _ _ (le-leb (file_size W F m) (file_size W F n) (omega arith))))

-- a row that is fine has a good count
module _ (row : List ℕ) (at limit : ℕ) (range order : Reason) (a : Fault) (p : a ≡ row_answer row at limit range order) (k : a ≡ fine) where
  good : Labels (at + 2 + 2 * fitting_in row) at (length row) (number_of row) limit range order
  unfolding row_answer
  good = labels_good _ at (length row) (number_of row) limit range order (sym p ∙ k)

  pub row_few : length row ≤ limit
  row_few = good.few

  -- where the next row's count stands
  pub row_place : limit ≤ 16 → 2 + 2 * length row ≤ 1000
  row_place l = let few = row_few in omega arith

-- A section that ends before the file does answers the same, however long the file is.
ends_before : (size size' at count : ℕ) (label : ℕ → ℕ) (limit : ℕ) (range order : Reason) → at + 2 + 2 * count ≤ size → at + 2 + 2 * count ≤ size'
    → label_section size at count label limit range order ≡ label_section size' at count label limit range order
unfolding label_section
ends_before size size' at count label limit range order l l' =
    section_same size size' at (2 * count) _ _ _ (omega arith) (omega arith) (λ _. (l, l', refl))

-- So the sections of the rows, one after another, are the one list of tests.
module _ (r : Rows) where
  abbrev W : ℕ
  W = length r.worker_labels

  abbrev F : ℕ
  F = length r.field_labels

  abbrev w : ℕ
  w = fitting_in r.worker_labels

  abbrev f : ℕ
  f = fitting_in r.field_labels

  abbrev m : ℕ
  m = shortest r.kinds r.workers r.fields

  abbrev in_order : Fault
  in_order =
      row_answer r.worker_labels 0 16 WorkerCount WorkerOrder
      then (row_answer r.field_labels (fields_at W) 512 FieldCount FieldOrder
      then rows_answer r.kinds r.workers r.fields W F)

  workers_cut : w < W → rows_tests r ≡ in_order
  unfolding rows_tests file_tests reach row_answer
  workers_cut l =
      let z : 0 + 2 + 2 * w ≡ 2 + 2 * w = omega arith in
      rw (lt-ltb w W l, z)
      (then_same _ _ _ _ refl (λ passed. let room = (labels_good (2 + 2 * w) 0 W (number_of r.worker_labels) 16 WorkerCount WorkerOrder passed).room in absurd (omega arith)))

  module _ (l : W ≤ w) where
    fields_cut : f < F → rows_tests r ≡ in_order
    unfolding rows_tests file_tests reach row_answer
    fields_cut k =
        rw (le-ltb w W l, lt-ltb f F k)
        (then_same _ _ _ _ (ends_before (fields_at W + 2 + 2 * f) (0 + 2 + 2 * w) 0 W (number_of r.worker_labels) 16 WorkerCount WorkerOrder (omega arith) (omega arith))
        (λ _. then_same _ _ _ _ refl
        (λ passed. let room = (labels_good (fields_at W + 2 + 2 * f) (fields_at W) F (number_of r.field_labels) 512 FieldCount FieldOrder passed).room in absurd (omega arith))))

    labels_whole : F ≤ f → rows_tests r ≡ in_order
    unfolding rows_tests file_tests reach row_answer rows_answer
    labels_whole k =
        rw (le-ltb w W l, le-ltb f F k)
        (then_same _ _ _ _ (ends_before (file_size W F m) (0 + 2 + 2 * w) 0 W (number_of r.worker_labels) 16 WorkerCount WorkerOrder (omega arith) (omega arith))
        (λ _. then_same _ _ _ _
        (ends_before (file_size W F m) (fields_at W + 2 + 2 * f) (fields_at W) F (number_of r.field_labels) 512 FieldCount FieldOrder (omega arith) (omega arith)) (λ _. refl)))

  pub reach_whole : W ≤ w → F ≤ f → reach r ≡ file_size W F m
  unfolding reach
  reach_whole l k = rw (le-ltb w W l, le-ltb f F k)

  pub rows_tests_lem : rows_tests r ≡ in_order
  rows_tests_lem = either w W workers_cut (λ l. either f F (fields_cut l) (labels_whole l))

  module _ (a : Fault) (p : a ≡ row_answer r.worker_labels 0 16 WorkerCount WorkerOrder) where
    pub rows_workers : (refusal : Refusal) → a ≡ Err refusal → Err refusal ≡ rows_tests r
    unfolding ◌then◌
    rows_workers refusal k = rw (rows_tests_lem, ← p, k)

    module _ (k : a ≡ fine) (b : Fault) (q : b ≡ row_answer r.field_labels (2 + 2 * length r.worker_labels) 512 FieldCount FieldOrder) where
      pub rows_fields : (refusal : Refusal) → b ≡ Err refusal → Err refusal ≡ rows_tests r
      unfolding ◌then◌
      rows_fields refusal t = rw (rows_tests_lem, ← p, k, ← q, t)

      pub rows_end : b ≡ fine → (e : Fault) → e ≡ rows_answer r.kinds r.workers r.fields (length r.worker_labels) (length r.field_labels) → e ≡ rows_tests r
      unfolding ◌then◌
      rows_end t e x = rw (rows_tests_lem, ← p, k, ← q, t) x
