-- The tests pass exactly on the well-formed recordings.
use mathlib.Core.Path.{◌≡◌, refl}
use mathlib.Core.Bool.{Bool, true, false, cond, ◌||◌}
use mathlib.Core.List.{List}
use Prim.Native.Nat.{ℕ, zero, suc, ◌+◌, ◌*◌, ◌<◌, ◌≤◌}
use native.Mathlib.Omega.{arith}
use lib.Dec.{eqb, ltb}
use lib.ListN.{length}
use borrow.Author.Tests.{lt-ltb, le-leb, leb-true, ltb-true, eqb-true}
use Rattle.recording.specs.declared.refusal.Reason.TheVariants.{WorkerCount, WorkerOrder, FieldCount, FieldOrder, ShortTable}
use Rattle.recording.specs.Refusals.{fine}
use Rattle.recording.specs.declared.Entry.{Entry}
use Rattle.recording.specs.Tests.{need, ◌then◌, kind_allowed, field_allowed, event_tests, events_tests, section, label_section, event_section, end_test, events_to_end, fields_at, events_at, file_size, Contents, file_tests, all_tests}
use Rattle.recording.specs.File.{contents_in, refusal}
use Rattle.recording.specs.WellFormed.{Good, Formed, WellFormed}
use Rattle.recording.specs.WellFormed.Good.{read, write, crossing}
use Rattle.recording.proofs.Tests.{need_fine, fine_need, then_fine, fine_then, first_or_later, section_passed, passed_section, labels_good, good_labels}

-- an event
module _ (W F : ℕ) (e : Entry) where
  good_by : (one two : Bool) → eqb e.kind 1 ≡ one → eqb e.kind 2 ≡ two → (one || (two || eqb e.kind 3)) ≡ true → e.worker < W
      → cond (eqb e.kind 3) (eqb e.field 0) (ltb e.field F) ≡ true → Good W F e
  good_by true two p q k w f =
      let one = eqb-true e.kind 1 p in
      read one w (ltb-true e.field F (rw one at f))
  good_by false true p q k w f =
      let two = eqb-true e.kind 2 q in
      write two w (ltb-true e.field F (rw two at f))
  good_by false false p q k w f =
      let three = eqb-true e.kind 3 k in
      crossing three w (eqb-true e.field 0 (rw three at f))

  pub event_good : (start : ℕ) → event_tests W F e start ≡ fine → Good W F e
  unfolding event_tests kind_allowed field_allowed
  event_good start t =
      let a = then_fine _ _ t in
      let b = then_fine _ _ a.1 in
      good_by (eqb e.kind 1) (eqb e.kind 2) refl refl (need_fine _ _ _ a.0) (ltb-true e.worker W (need_fine _ _ _ b.0)) (need_fine _ _ _ b.1)

  pub good_event : (start : ℕ) → Good W F e → event_tests W F e start ≡ fine
  unfolding event_tests kind_allowed field_allowed ◌then◌ need
  good_event start (read k w f) = rw (k, lt-ltb e.worker W w, lt-ltb e.field F f)
  good_event start (write k w f) = rw (k, lt-ltb e.worker W w, lt-ltb e.field F f)
  good_event start (crossing k w f) = rw (k, lt-ltb e.worker W w, f)

-- all events
module _ (W F : ℕ) (entry : ℕ → Entry) (at : ℕ) where
  pub events_good : (n k : ℕ) → events_tests W F entry at n k ≡ fine → (j : ℕ) → n ≤ j → j < n + k → Good W F (entry j)
  unfolding events_tests
  events_good n zero t j l m = absurd (omega arith)
  events_good n (suc k) t j l m =
      let a = then_fine _ _ t in
      first_or_later n j l
      (λ q. rw q at (event_good W F (entry n) (at + 4 * n) a.0))
      (λ p. events_good (n + 1) k a.1 j p (omega arith))

  pub good_events : (n k : ℕ) → ((j : ℕ) → n ≤ j → j < n + k → Good W F (entry j)) → events_tests W F entry at n k ≡ fine
  unfolding events_tests
  good_events n zero all = refl
  good_events n (suc k) all =
      fine_then _ _ (good_event W F (entry n) (at + 4 * n) (all n (omega arith) (omega arith)))
      (good_events (n + 1) k (λ j l m. all j (omega arith) (omega arith)))

-- the whole recording, of a file that has or would have so many bytes
module _ (bytes : ℕ) (c : Contents) where
  pub fine_formed : file_tests bytes c ≡ fine → Formed bytes c
  unfolding file_tests events_to_end event_section end_test
  fine_formed t =
      let b = then_fine (label_section bytes 0 c.workers c.worker_label 16 WorkerCount WorkerOrder) _ t in
      let workers = labels_good bytes 0 c.workers c.worker_label 16 WorkerCount WorkerOrder b.0 in
      let d = then_fine (label_section bytes (fields_at c.workers) c.fields c.field_label 512 FieldCount FieldOrder) _ b.1 in
      let fields = labels_good bytes (fields_at c.workers) c.fields c.field_label 512 FieldCount FieldOrder d.0 in
      let e = then_fine (section bytes (events_at c.workers c.fields) _ _ _) _ d.1 in
      let p = section_passed _ _ _ _ _ e.0 in
      let few = leb-true c.events 16000 (need_fine _ _ _ p.range_fine) in
      let end = leb-true bytes (file_size c.workers c.fields c.events) (need_fine _ _ _ e.1) in
      let room = p.room in
      record {
        some_worker = workers.some;
        few_workers = workers.few;
        workers_rise = workers.rise;
        some_field = fields.some;
        few_fields = fields.few;
        fields_rise = fields.rise;
        few_events = few;
        events_good = λ n l. events_good c.workers c.fields c.entry _ 0 c.events p.items_fine n (omega arith) (omega arith);
        size = omega arith;
      }

  pub formed_fine : Formed bytes c → file_tests bytes c ≡ fine
  unfolding file_tests events_to_end event_section end_test
  formed_fine g =
      let exact = g.size in
      fine_then _ _
      (good_labels bytes 0 c.workers c.worker_label 16 WorkerCount WorkerOrder
      (record { some = g.some_worker; few = g.few_workers; room = omega arith; rise = g.workers_rise }))
      (fine_then _ _
      (good_labels bytes (fields_at c.workers) c.fields c.field_label 512 FieldCount FieldOrder
      (record { some = g.some_field; few = g.few_fields; room = omega arith; rise = g.fields_rise }))
      (fine_then _ _
      (passed_section bytes (events_at c.workers c.fields) _ _ _
      (record {
        range_fine = fine_need _ _ _ (le-leb c.events 16000 g.few_events);
        room = omega arith;
        items_fine = good_events c.workers c.fields c.entry _ 0 c.events (λ n _ l. g.events_good n (omega arith));
      }))
      (fine_need _ _ _ (le-leb bytes (file_size c.workers c.fields c.events) (omega arith)))))

-- a file that is read
module _ (s : List ℕ) where
  pub fine_well_formed : (tables : Bool) → refusal tables s ≡ fine → WellFormed s
  unfolding refusal all_tests
  fine_well_formed tables t = fine_formed (length s) (contents_in s) (then_fine (need tables ShortTable 0) _ t).1

  pub well_formed_fine : WellFormed s → refusal true s ≡ fine
  unfolding refusal all_tests
  well_formed_fine g = fine_then _ _ (fine_need true ShortTable 0 refl) (formed_fine (length s) (contents_in s) g)
