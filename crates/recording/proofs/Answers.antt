-- What each way through the functions answers.
use mathlib.Core.Path.{◌≡◌, refl, sym, ◌∙◌, ap}
use mathlib.Core.Bool.{Bool, true, false, not, cond, ◌||◌, and-false}
use mathlib.Core.List.{List}
use Prim.Native.Nat.{ℕ, ◌+◌, ◌*◌, ◌-◌, ◌<◌, ◌≤◌}
use native.Mathlib.Omega.{arith}
use lib.Dec.{eqb, ltb, leb}
use lib.ListN.{length, get_or}
use borrow.Author.Tests.{lt-ltb, le-ltb, le-leb, lt-leb, leb-true, ne_eqb}
use Rattle.sorts.proofs.Counting.{one_left, none_left}
use Rattle.events.specs.declared.Event.{Event}
use Rattle.events.specs.declared.Event.TheVariants as events
use Rattle.recording.proofs.Guarantee.{guarantee}
use Rattle.recording.proofs.Tests.{Labels, labels_good, answered_ok, answered_err, further, event_further}
use Rattle.std.specs.Prelude.{Result, Ok, Err, Option, Some, None}
use Rattle.recording.specs.declared.event.Kind.{Kind}
use Rattle.recording.specs.declared.event.Kind.TheVariants.{Read, Write, Crossing}
use Rattle.recording.specs.declared.refusal.Reason.{Reason}
use Rattle.recording.specs.declared.refusal.Reason.TheVariants.{CutShort, WorkerCount, WorkerOrder, FieldCount, FieldOrder, EventCount, Kind as BadKind, Worker as BadWorker, Field as BadField, ExtraBytes}
use Rattle.recording.specs.declared.refusal.Refusal.{Refusal}
use Rattle.recording.specs.Refusals.{Fault, fine, refused}
use Rattle.recording.specs.declared.Entry.{Entry}
use Rattle.recording.specs.declared.Counts.{Counts}
use Rattle.recording.specs.Tests.{need, ◌then◌, rising, kind_allowed, kind_number, field_allowed, event_place, event_tests, events_tests, section, label_section, event_section, end_test, events_to_end, events_at, file_tests, all_tests}
use Rattle.recording.specs.File.{number_at, label_at, entry_at, entries_at, worker_count, field_count, event_count, worker_label, field_label, entry_in, refusal, checked, event_of, event_at, Accepted, step_at}
use Rattle.recording.specs.Parts.{labels_answer, events_answer, to_end_answer}

pub number_is : (s : List ℕ) (i low high r : ℕ) → low ≡ get_or s i 0 → high ≡ get_or s (i + 1) 0 → r ≡ low + 256 * high → r ≡ number_at s i
unfolding number_at
number_is s i low high r p q e = rw (← p, ← q) e

pub label_number : (s : List ℕ) (at n r : ℕ) → r ≡ number_at s (at + 2 * n) → r ≡ label_at s at n
unfolding label_at
label_number s at n r q = q

-- labels looked at up to label n, follow - n of them to come, which answer x
module _ (label : ℕ → ℕ) (order : Reason) (at follow n : ℕ) (x : Fault) (inv : rising label order at n (follow - n) ≡ x) where
  pub labels_fall : (before later : ℕ) → n < follow → before ≡ label n → later ≡ label (n + 1) → later ≤ before → refused order (at + 2 * (n + 1)) ≡ x
  unfolding rising ◌then◌ need
  labels_fall before later l q r m = rw (one_left n follow l, le-ltb (label n) (label (n + 1)) (omega arith)) at inv

  pub labels_rise : (before later : ℕ) → n < follow → before ≡ label n → later ≡ label (n + 1) → before < later
      → rising label order at (n + 1) (follow - (n + 1)) ≡ x
  unfolding rising ◌then◌ need
  labels_rise before later l q r m = rw (one_left n follow l, lt-ltb (label n) (label (n + 1)) (omega arith)) at inv

  pub labels_end : follow ≤ n → fine ≡ x
  unfolding rising
  labels_end l = rw (none_left n follow l) at inv

pub entry_is : (s : List ℕ) (i kind worker field : ℕ) → kind ≡ get_or s i 0 → worker ≡ get_or s (i + 1) 0 → field ≡ number_at s (i + 2)
    → ◌≡◌ {A = Entry} (record { kind = kind; worker = worker; field = field }) (entry_at s i)
unfolding entry_at
entry_is s i kind worker field p q r = rw (p, q, r)

-- a number as a kind
module _ (number : ℕ) where
  pub no_kind : (number ≡ 1 → ⊥) → (number ≡ 2 → ⊥) → (number ≡ 3 → ⊥) → kind_allowed number ≡ false
  unfolding kind_allowed
  no_kind a b c = rw (ne_eqb number 1 a, ne_eqb number 2 b, ne_eqb number 3 c)

kind_is : (kind : Kind) (number : ℕ) → kind_number kind ≡ number → kind_allowed number ≡ true
unfolding kind_allowed
kind_is Read number q = rw (← q)
kind_is Write number q = rw (← q)
kind_is Crossing number q = rw (← q)

-- the field numbers that an event of a kind may have
module _ (F field : ℕ) where
  pub field_crossing : eqb field 0 ≡ field_allowed F (kind_number Crossing) field
  unfolding field_allowed
  field_crossing = refl

  pub field_read : ltb field F ≡ field_allowed F (kind_number Read) field
  unfolding field_allowed
  field_read = refl

  pub field_write : ltb field F ≡ field_allowed F (kind_number Write) field
  unfolding field_allowed
  field_write = refl

not-true : (b : Bool) → not b ≡ true → b ≡ false
not-true true e = let z : ◌≡◌ {A = ℕ} 0 1 = cc in absurd (omega arith)
not-true false e = refl

not-false : (b : Bool) → not b ≡ false → b ≡ true
not-false true e = refl
not-false false e = let z : ◌≡◌ {A = ℕ} 0 1 = cc in absurd (omega arith)

-- an event, test by test
module _ (W F : ℕ) (e : Entry) where
  pub kind_refused : kind_allowed e.kind ≡ false → refused BadKind 0 ≡ event_tests W F e 0
  unfolding event_tests event_place ◌then◌ need
  kind_refused q = rw q

  module _ (kind : Kind) (q : kind_number kind ≡ e.kind) where
    pub worker_refused : W ≤ e.worker → refused BadWorker 1 ≡ event_tests W F e 0
    unfolding event_tests event_place ◌then◌ need
    worker_refused l = rw (kind_is kind e.kind q, le-ltb e.worker W l)

    module _ (l : e.worker < W) (f : Bool) (p : f ≡ field_allowed F (kind_number kind) e.field) where
      pub field_refused : not f ≡ true → refused BadField 2 ≡ event_tests W F e 0
      unfolding event_tests event_place ◌then◌ need
      field_refused b = rw (kind_is kind e.kind q, lt-ltb e.worker W l, ← q, ← p, not-true f b)

      pub event_fine : not f ≡ false → fine ≡ event_tests W F e 0
      unfolding event_tests ◌then◌ need
      event_fine b = rw (kind_is kind e.kind q, lt-ltb e.worker W l, ← q, ← p, not-false f b)

-- events looked at before event n, count - n of them to come, which answer x
module _ (entry : ℕ → Entry) (at W F count n : ℕ) (x : Fault) (inv : events_tests W F entry at n (count - n) ≡ x) where
  module _ (e : Entry) (r : Fault) (l : n < count) (q : e ≡ entry n) (t : r ≡ event_tests W F e 0) where
    pub events_refused : (refusal : Refusal) → r ≡ Err refusal → refused refusal.reason (at + 4 * n + refusal.place) ≡ x
    unfolding events_tests ◌then◌ further
    events_refused refusal k = rw (one_left n count l, ← q, event_further W F e (at + 4 * n), ← t, k) at inv

    pub events_next : r ≡ fine → events_tests W F entry at (n + 1) (count - (n + 1)) ≡ x
    unfolding events_tests ◌then◌ further
    events_next k = rw (one_left n count l, ← q, event_further W F e (at + 4 * n), ← t, k) at inv

  pub events_end : count ≤ n → fine ≡ x
  unfolding events_tests
  events_end l = rw (none_left n count l) at inv

pub entry_number : (s : List ℕ) (at n : ℕ) (e : Entry) → e ≡ entry_at s (at + 4 * n) → e ≡ entries_at s at n
unfolding entries_at
entry_number s at n e q = q

-- a section of labels, test by test
module _ (size at count : ℕ) (label : ℕ → ℕ) (limit : ℕ) (range order : Reason) (here : at + 2 ≤ size) where
  pub labels_none : count ≡ 0 → refused range at ≡ label_section size at count label limit range order
  unfolding label_section section ◌then◌ need
  labels_none z = rw (le-leb (at + 2) size here, z)

  pub labels_over : limit < count → refused range at ≡ label_section size at count label limit range order
  unfolding label_section section ◌then◌ need
  labels_over l = simp (le-leb (at + 2) size here, lt-leb count limit l, and-false)

  module _ (some : count ≡ 0 → ⊥) (few : count ≤ limit) where
    pub labels_cut : size - at - 2 < 2 * count → refused CutShort size ≡ label_section size at count label limit range order
    unfolding label_section section ◌then◌ need
    labels_cut l = rw (le-leb (at + 2) size here, lt-ltb 0 count (omega arith), le-leb count limit few, lt-leb (at + 2 + 2 * count) size (omega arith))

    pub labels_order : (r : Fault) → 2 * count ≤ size - at - 2 → r ≡ rising label order (at + 2) 0 (count - 1)
        → r ≡ label_section size at count label limit range order
    unfolding label_section section ◌then◌ need
    labels_order r l q =
        rw (le-leb (at + 2) size here, lt-ltb 0 count (omega arith), le-leb count limit few, le-leb (at + 2 + 2 * count) size (omega arith)) q

-- a section of events, test by test
module _ (size at W F count : ℕ) (entry : ℕ → Entry) (here : at + 2 ≤ size) where
  pub events_over : 16000 < count → refused EventCount at ≡ event_section size at W F count entry
  unfolding event_section section ◌then◌ need
  events_over l = rw (le-leb (at + 2) size here, lt-leb count 16000 l)

  module _ (few : count ≤ 16000) where
    pub events_cut : size - at - 2 < 4 * count → refused CutShort size ≡ event_section size at W F count entry
    unfolding event_section section ◌then◌ need
    events_cut l = rw (le-leb (at + 2) size here, le-leb count 16000 few, lt-leb (at + 2 + 4 * count) size (omega arith))

    pub events_order : (r : Fault) → 4 * count ≤ size - at - 2 → r ≡ events_tests W F entry (at + 2) 0 count → r ≡ event_section size at W F count entry
    unfolding event_section section ◌then◌ need
    events_order r l q = rw (le-leb (at + 2) size here, le-leb count 16000 few, le-leb (at + 2 + 4 * count) size (omega arith)) q

-- a file that ends before a section's count
module _ (s : List ℕ) (at : ℕ) (l : length s - at < 2) (m : at ≤ length s) where
  pub labels_short : (limit : ℕ) (range order : Reason) → Err (record { reason = CutShort; place = length s }) ≡ labels_answer s at limit range order
  unfolding labels_answer label_section section ◌then◌ need
  labels_short limit range order = rw (lt-leb (at + 2) (length s) (omega arith))

  pub events_short : (W F : ℕ) → Err (record { reason = CutShort; place = length s }) ≡ events_answer s at W F
  unfolding events_answer event_section section ◌then◌ need
  events_short W F = rw (lt-leb (at + 2) (length s) (omega arith))

-- from the event count on: the events answer r, and then the end
module _ (s : List ℕ) (W F : ℕ) (r : Result ℕ Refusal) (q : r ≡ events_answer s (4 + 2 * W + 2 * F) W F) where
  pub to_end_refused : (refusal : Refusal) → r ≡ Err refusal → Err refusal ≡ to_end_answer s W F
  unfolding to_end_answer events_answer events_to_end ◌then◌
  to_end_refused refusal k =
      rw (answered_err (event_section (length s) (events_at W F) W F (number_at s (events_at W F)) (entries_at s (events_at W F + 2))) _ refusal (sym q ∙ k))

  module _ (n : ℕ) (k : r ≡ Ok n) where
    events_are_fine : (event_section (length s) (events_at W F) W F (number_at s (events_at W F)) (entries_at s (events_at W F + 2)) ≡ fine) × (number_at s (events_at W F) ≡ n)
    unfolding events_answer
    events_are_fine = answered_ok _ _ n (sym q ∙ k)

    pub bytes_after : 4 + 2 * W + 2 * F + 2 + 4 * n < length s → Err (record { reason = ExtraBytes; place = 4 + 2 * W + 2 * F + 2 + 4 * n }) ≡ to_end_answer s W F
    unfolding to_end_answer events_to_end end_test ◌then◌ need
    bytes_after m =
        let z : 4 + 2 * W + 2 * F + 2 + 4 * n ≡ 6 + 2 * W + 2 * F + 4 * n = omega arith in
        rw (events_are_fine.0, events_are_fine.1, z, lt-leb (length s) (6 + 2 * W + 2 * F + 4 * n) (omega arith))

    pub to_end_fine : length s ≤ 4 + 2 * W + 2 * F + 2 + 4 * n → Ok (record { workers = W; fields = F; events = n }) ≡ to_end_answer s W F
    unfolding to_end_answer events_to_end end_test ◌then◌ need
    to_end_fine m = rw (events_are_fine.0, events_are_fine.1, le-leb (length s) (6 + 2 * W + 2 * F + 4 * n) (omega arith))

-- a section of labels that answers r, refused or fine: then its count is small and its labels are there
module _ (s : List ℕ) (at limit : ℕ) (range order : Reason) (r : Result ℕ Refusal) (q : r ≡ labels_answer s at limit range order) where
  section_is_refused : (refusal : Refusal) → r ≡ Err refusal
      → label_section (length s) at (number_at s at) (label_at s (at + 2)) limit range order ≡ Err refusal
  unfolding labels_answer
  section_is_refused refusal k = answered_err _ _ refusal (sym q ∙ k)

  module _ (m : ℕ) (k : r ≡ Ok m) where
    section_is_fine : (label_section (length s) at (number_at s at) (label_at s (at + 2)) limit range order ≡ fine) × (number_at s at ≡ m)
    unfolding labels_answer
    section_is_fine = answered_ok _ _ m (sym q ∙ k)

    section_labels : Labels (length s) at (number_at s at) (label_at s (at + 2)) limit range order
    section_labels = labels_good (length s) at (number_at s at) (label_at s (at + 2)) limit range order section_is_fine.0

    section_room : at + 2 + 2 * m ≤ length s
    section_room = rw section_is_fine.1 at section_labels.room

    pub section_few : m ≤ limit
    section_few = rw section_is_fine.1 at section_labels.few

-- where the next section starts, whatever the limit and the numbers: after the workers, and after the fields
module _ (s : List ℕ) (limit : ℕ) (range order : Reason) (r : Result ℕ Refusal) (W : ℕ) where
  pub workers_room : r ≡ labels_answer s 0 limit range order → r ≡ Ok W → 2 + 2 * W ≤ length s
  workers_room q k = section_room s 0 limit range order r q W k

  pub fields_room : (F : ℕ) → r ≡ labels_answer s (2 + 2 * W) limit range order → r ≡ Ok F → 4 + 2 * W + 2 * F ≤ length s
  fields_room F q k = let z = section_room s (2 + 2 * W) limit range order r q F k in omega arith

-- the whole file: the workers answer r, and where they are fine the fields answer r'
module _ (s : List ℕ) (r : Result ℕ Refusal) (q : r ≡ labels_answer s 0 16 WorkerCount WorkerOrder) where
  pub workers_refused : (refusal : Refusal) → r ≡ Err refusal → Err refusal ≡ checked s
  unfolding checked refusal all_tests file_tests worker_count worker_label ◌then◌ need
  workers_refused refusal k = rw (section_is_refused s 0 16 WorkerCount WorkerOrder r q refusal k)

  module _ (W : ℕ) (k : r ≡ Ok W) where
    module _ (r' : Result ℕ Refusal) (q' : r' ≡ labels_answer s (2 + 2 * W) 512 FieldCount FieldOrder) where
      pub fields_refused : (refusal : Refusal) → r' ≡ Err refusal → Err refusal ≡ checked s
      unfolding checked refusal all_tests file_tests worker_count worker_label field_count field_label ◌then◌ need
      fields_refused refusal k' =
          let a = section_is_fine s 0 16 WorkerCount WorkerOrder r q W k in
          rw (a.0, a.1, section_is_refused s (2 + 2 * W) 512 FieldCount FieldOrder r' q' refusal k')

      module _ (F : ℕ) (k' : r' ≡ Ok F) where
        pub events_answer_lem : (a : Result Counts Refusal) → a ≡ to_end_answer s W F → a ≡ checked s
        unfolding checked refusal all_tests file_tests worker_count worker_label field_count field_label event_count entry_in to_end_answer ◌then◌ need
        events_answer_lem a t =
            let b = section_is_fine s 0 16 WorkerCount WorkerOrder r q W k in
            let c = section_is_fine s (2 + 2 * W) 512 FieldCount FieldOrder r' q' F k' in
            rw (b.0, b.1, c.0, c.1) t

-- an event's numbers as an event
module _ (e : Entry) where
  pub is_read : kind_number Read ≡ e.kind → events.Read (record { 0 = e.worker }) (record { 0 = e.field }) ≡ event_of e
  unfolding event_of
  is_read q = rw (← q)

  pub is_write : kind_number Write ≡ e.kind → events.Write (record { 0 = e.worker }) (record { 0 = e.field }) ≡ event_of e
  unfolding event_of
  is_write q = rw (← q)

  pub is_crossing : kind_number Crossing ≡ e.kind → events.Crossing (record { 0 = e.worker }) ≡ event_of e
  unfolding event_of
  is_crossing q = rw (← q)

  pub is_no_kind : kind_allowed e.kind ≡ false → events.Crossing (record { 0 = e.worker }) ≡ event_of e
  unfolding kind_allowed event_of
  is_no_kind q = by (eqb e.kind 1) (eqb e.kind 2) refl refl q
    where
      by : (one two : Bool) → eqb e.kind 1 ≡ one → eqb e.kind 2 ≡ two → (one || (two || eqb e.kind 3)) ≡ false
          → events.Crossing (record { 0 = e.worker }) ≡ cond one (events.Read (record { 0 = e.worker }) (record { 0 = e.field })) (cond two (events.Write (record { 0 = e.worker }) (record { 0 = e.field })) (events.Crossing (record { 0 = e.worker })))
      by true two a b c = let z : ◌≡◌ {A = ℕ} 0 1 = cc in absurd (omega arith)
      by false true a b c = let z : ◌≡◌ {A = ℕ} 0 1 = cc in absurd (omega arith)
      by false false a b c = refl

-- event n of an accepted file
module _ (s : List ℕ) (c : Counts) (n : ℕ) (ok : Accepted s c) where
  pub event_room : n < c.events → 4 + 2 * c.workers + 2 * c.fields + 2 + 4 * n + 4 ≤ length s
  event_room l = let g = guarantee s c ok in omega arith

  pub event_is : (e : Entry) (r : Event) → e ≡ entry_at s (4 + 2 * c.workers + 2 * c.fields + 2 + 4 * n) → r ≡ event_of e → r ≡ event_at s n
  unfolding event_at entry_in entries_at
  event_is e r p q = rw (← ok.workers, ← ok.fields, ← p) q

-- labels by number
module _ (s : List ℕ) (n r : ℕ) where
  pub worker_label_is : r ≡ number_at s (2 + 2 * n) → r ≡ worker_label s n
  unfolding worker_label label_at
  worker_label_is q = q

  pub field_label_is : (W : ℕ) → W ≡ number_at s 0 → r ≡ number_at s (2 + 2 * W + 2 + 2 * n) → r ≡ field_label s n
  unfolding field_label label_at worker_count
  field_label_is W p q = rw (← p) q

abbrev place_in : Option (Event × ℕ) → ℕ
place_in (Some p) = p.1
place_in None = 0

-- what a reader hands out at a place
module _ (s : List ℕ) (at : ℕ) where
  pub step_past : length s < at → None ≡ step_at s at
  unfolding step_at
  step_past l = rw (lt-leb (at + 4) (length s) (omega arith))

  pub step_short : at ≤ length s → length s - at < 4 → None ≡ step_at s at
  unfolding step_at
  step_short l m = rw (lt-leb (at + 4) (length s) (omega arith))

  pub step_next : (e : Entry) (r : Event) → at ≤ length s → 4 ≤ length s - at → e ≡ entry_at s at → r ≡ event_of e → Some (r, at + 4) ≡ step_at s at
  unfolding step_at
  step_next e r l m p q = rw (le-leb (at + 4) (length s) (omega arith), ← p, ← q)

  -- what is handed out stands in the file, so less is left after it
  pub step_fewer : (e : Event) (next : ℕ) → step_at s at ≡ Some (e, next) → length s - next < length s - at
  unfolding step_at
  step_fewer e next q = by (leb (at + 4) (length s)) refl q
    where
      by : (t : Bool) → leb (at + 4) (length s) ≡ t → ◌≡◌ {A = Option (Event × ℕ)} (cond t (Some (event_of (entry_at s at), at + 4)) None) (Some (e, next)) → length s - next < length s - at
      by true l k = let room = leb-true (at + 4) (length s) l in let z : at + 4 ≡ next = ap place_in k in omega arith
      by false l k = let z : ◌≡◌ {A = ℕ} 0 1 = cc in absurd (omega arith)
