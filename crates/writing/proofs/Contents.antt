-- Laws of what a file holds: contents that agree are formed alike and make the same file.
use mathlib.Core.Path.{◌≡◌, refl}
use mathlib.Core.List.{List}
use Prim.Native.Nat.{ℕ, zero, suc, ◌+◌, ◌<◌}
use native.Mathlib.Omega.{arith}
use Rattle.recording.specs.Tests.{Contents}
use Rattle.recording.specs.WellFormed.{Formed}
use Rattle.writing.specs.Writing.{two_bytes, entry_bytes, items, section_of, file_of}

-- two contents that agree as far as their counts go
pub record Agrees (c d : Contents) : Type 0 where
  pub workers : c.workers ≡ d.workers
  pub worker_labels : (w : ℕ) → w < d.workers → c.worker_label w ≡ d.worker_label w
  pub fields : c.fields ≡ d.fields
  pub field_labels : (f : ℕ) → f < d.fields → c.field_label f ≡ d.field_label f
  pub events : c.events ≡ d.events
  pub entries : (n : ℕ) → n < d.events → c.entry n ≡ d.entry n

-- contents that agree are formed alike
pub agrees_formed : (bytes : ℕ) (c d : Contents) → Agrees c d → Formed bytes d → Formed bytes c
agrees_formed bytes c d a g =
    let W = a.workers in
    let F = a.fields in
    let E = a.events in
    record {
      some_worker = rw W g.some_worker;
      few_workers = rw W g.few_workers;
      workers_rise = λ w l. rw (a.worker_labels w (omega arith), a.worker_labels (w + 1) (omega arith)) (g.workers_rise w (omega arith));
      some_field = rw F g.some_field;
      few_fields = rw F g.few_fields;
      fields_rise = λ f l. rw (a.field_labels f (omega arith), a.field_labels (f + 1) (omega arith)) (g.fields_rise f (omega arith));
      few_events = rw E g.few_events;
      events_good = λ n l. rw (W, F, a.entries n (omega arith)) (g.events_good n (omega arith));
      size = rw (W, F, E) g.size;
    }

-- and make the same file
items_same : (bytes bytes' : ℕ → List ℕ) (n k : ℕ) → ((j : ℕ) → j < n + k → bytes j ≡ bytes' j) → items bytes n k ≡ items bytes' n k
unfolding items
items_same bytes bytes' n zero same = refl
items_same bytes bytes' n (suc k) same = rw (same n (omega arith), items_same bytes bytes' (n + 1) k (λ j l. same j (omega arith)))

pub file_same : (c d : Contents) → Agrees c d → file_of c ≡ file_of d
unfolding file_of section_of
file_same c d a =
    rw (a.workers, a.fields, a.events)
    (rw (
      items_same (λ n. two_bytes (c.worker_label n)) (λ n. two_bytes (d.worker_label n)) 0 d.workers (λ j l. rw (a.worker_labels j (omega arith))),
      items_same (λ n. two_bytes (c.field_label n)) (λ n. two_bytes (d.field_label n)) 0 d.fields (λ j l. rw (a.field_labels j (omega arith))),
      items_same (λ n. entry_bytes (c.entry n)) (λ n. entry_bytes (d.entry n)) 0 d.events (λ j l. rw (a.entries j (omega arith))),
    ))
