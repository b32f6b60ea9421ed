-- What the finders may know of an accepted file, and nothing else.
use mathlib.Core.Path.{◌≡◌, refl, ◌∙◌, ap}
use mathlib.Core.Bool.{true}
use mathlib.Core.List.{List, [], ◌∷◌}
use Prim.Native.Nat.{ℕ, zero, suc, ◌+◌, ◌*◌, ◌-◌, ◌<◌, ◌≤◌}
use native.Mathlib.Nat.{sub-zero}
use native.Mathlib.Omega.{arith}
use lib.ListN.{length, drop, drop_of_length-le}
use Rattle.sorts.proofs.Counting.{one_left}
use Rattle.events.specs.Acts.{Within, EventWithin}
use Rattle.recording.specs.declared.Entry.{Entry}
use Rattle.recording.specs.declared.Counts.{Counts}
use Rattle.recording.specs.File.{worker_count, field_count, event_count, entry_in, event_of, event_at, events_from, events_in, Accepted}
use Rattle.recording.specs.WellFormed.{Good}
use Rattle.recording.specs.WellFormed.Good.{read, write, crossing}
use Rattle.recording.proofs.WellFormed.{fine_well_formed}

-- a list of events by number
events_length : (s : List ℕ) (n k : ℕ) → length (events_from s n k) ≡ k
unfolding events_from
events_length s n zero = refl
events_length s n (suc k) = ap suc (events_length s (n + 1) k)

events_drop : (s : List ℕ) (j n k : ℕ) → j ≤ k → drop j (events_from s n k) ≡ events_from s (n + j) (k - j)
unfolding events_from
events_drop s zero n k l = let z : n + 0 ≡ n = omega arith in rw (z, sub-zero)
events_drop s (suc j) n zero l = absurd (omega arith)
events_drop s (suc j) n (suc k) l =
    let a : n + 1 + j ≡ n + suc j = omega arith in
    let b : k - j ≡ suc k - suc j = omega arith in
    events_drop s j (n + 1) k (omega arith) ∙ rw (a, b)

events_next : (s : List ℕ) (n k : ℕ) → n < k → drop n (events_from s 0 k) ≡ event_at s n ∷ drop (n + 1) (events_from s 0 k)
unfolding events_from
events_next s n k l =
    let z : (j : ℕ) → 0 + j ≡ j = λ j. omega arith in
    rw (events_drop s n 0 k (omega arith), events_drop s (n + 1) 0 k (omega arith), one_left n k l, z n, z (n + 1))

events_end : (s : List ℕ) (k : ℕ) → drop k (events_from s 0 k) ≡ []
events_end s k = let q = events_length s 0 k in drop_of_length-le (events_from s 0 k) {i = k} (omega arith)

events_within : (W F : ℕ) (s : List ℕ) (n k : ℕ) → ((j : ℕ) → n ≤ j → j < n + k → EventWithin W F (event_at s j)) → Within W F (events_from s n k)
unfolding events_from
events_within W F s n zero all = tt
events_within W F s n (suc k) all = (all n (omega arith) (omega arith), events_within W F s (n + 1) k (λ j l m. all j (omega arith) (omega arith)))

good_within : (W F : ℕ) (e : Entry) → Good W F e → EventWithin W F (event_of e)
unfolding event_of
good_within W F e (read k w f) = rw k (w, f)
good_within W F e (write k w f) = rw k (w, f)
good_within W F e (crossing k w f) = rw k w

pub record Guarantee (s : List ℕ) (c : Counts) : Type 0 where
  -- the counts are within the limits, and the file is exactly as long as they say
  pub some_worker : 1 ≤ c.workers
  pub few_workers : c.workers ≤ 16
  pub some_field : 1 ≤ c.fields
  pub few_fields : c.fields ≤ 512
  pub few_events : c.events ≤ 16000
  pub size : length s ≡ 6 + 2 * c.workers + 2 * c.fields + 4 * c.events
  -- every event's worker and field are below the counts
  pub count : length (events_in s) ≡ c.events
  pub within : Within c.workers c.fields (events_in s)
  pub event_within : (n : ℕ) → n < c.events → EventWithin c.workers c.fields (event_at s n)
  -- the list of events, event by event
  pub next : (n : ℕ) → n < c.events → drop n (events_in s) ≡ event_at s n ∷ drop (n + 1) (events_in s)
  pub end : drop c.events (events_in s) ≡ []

pub guarantee : (s : List ℕ) (c : Counts) → Accepted s c → Guarantee s c
unfolding events_in event_at
guarantee s c ok =
    let g = fine_well_formed s true ok.fine in
    let W = ok.workers in
    let F = ok.fields in
    let E = ok.events in
    let at : (n : ℕ) → n < c.events → EventWithin (worker_count s) (field_count s) (event_at s n) =
    λ n l. good_within (worker_count s) (field_count s) (entry_in s n) (g.events_good n (omega arith)) in
    record {
      some_worker = rw W g.some_worker;
      few_workers = rw W g.few_workers;
      some_field = rw F g.some_field;
      few_fields = rw F g.few_fields;
      few_events = rw E g.few_events;
      size = rw (W, F, E) g.size;
      count = rw E (events_length s 0 (event_count s));
      within = rw (W, F) (events_within (worker_count s) (field_count s) s 0 (event_count s) (λ n _ l. at n (omega arith)));
      event_within = λ n l. rw (W, F) (at n l);
      next = λ n l. events_next s n (event_count s) (omega arith);
      end = rw E (events_end s (event_count s));
    }
