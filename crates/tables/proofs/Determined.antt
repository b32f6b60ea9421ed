-- No two answers of the code say the same, so what is said determines the answer.
use mathlib.Core.Path.{◌≡◌, refl, sym, ◌∙◌, ap}
use mathlib.Core.Bool.{cond}
use Prim.Native.Nat.{ℕ}
use lib.Dec.{eqb}
use Rattle.std.specs.Prelude.{Option, Some, None, Result, Ok, Err}
use Rattle.sorts.specs.declared.Worker.{Worker}
use Rattle.sorts.specs.declared.Field.{Field}
use Rattle.recording.specs.declared.refusal.Reason.{Reason}
use Rattle.recording.specs.declared.refusal.Reason.TheVariants.{CutShort, WorkerCount, WorkerOrder, FieldCount, FieldOrder, EventCount, Kind, Worker as Reason-worker, Field as Reason-field, ExtraBytes, ShortTable, ShortBuffer}
use Rattle.recording.specs.declared.refusal.Refusal.{Refusal}
use Rattle.recording.specs.Refusals.{number_of}
use Rattle.tables.specs.declared.Sort.{Sort}
use Rattle.tables.specs.declared.Sort.TheVariants.{WriteAfterWrite, WriteAfterRead, ReadAfterWrite}
use Rattle.tables.specs.declared.Report.{Report}
use Rattle.tables.specs.declared.Objection.{Objection}
use Rattle.tables.specs.declared.Objection.TheVariants.{Refused, Reported}
use Rattle.tables.specs.Answers.{found_of, sort_number, report_of, said_by}

-- A number names one sort and one reason.
abbrev sort_numbered : ℕ → Sort
sort_numbered n = cond (eqb n 1) WriteAfterWrite (cond (eqb n 2) WriteAfterRead ReadAfterWrite)

sort_back : (s : Sort) → sort_numbered (sort_number s) ≡ s
sort_back WriteAfterWrite = refl
sort_back WriteAfterRead = refl
sort_back ReadAfterWrite = refl

pub one_sort : (s t : Sort) → sort_number s ≡ sort_number t → s ≡ t
one_sort s t e = sym (sort_back s) ∙ ap (λ (n : ℕ). sort_numbered n) e ∙ sort_back t

abbrev early_reason : ℕ → Reason → Reason
early_reason n r =
    cond (eqb n 1) CutShort
    (cond (eqb n 2) WorkerCount
    (cond (eqb n 3) WorkerOrder
    (cond (eqb n 4) FieldCount
    (cond (eqb n 5) FieldOrder
    (cond (eqb n 6) EventCount r)))))

abbrev reason_numbered : ℕ → Reason
reason_numbered n =
    early_reason n
    (cond (eqb n 7) Kind
    (cond (eqb n 8) Reason-worker
    (cond (eqb n 9) Reason-field
    (cond (eqb n 10) ExtraBytes
    (cond (eqb n 11) ShortTable ShortBuffer)))))

reason_back : (r : Reason) → reason_numbered (number_of r) ≡ r
reason_back CutShort = refl
reason_back WorkerCount = refl
reason_back WorkerOrder = refl
reason_back FieldCount = refl
reason_back FieldOrder = refl
reason_back EventCount = refl
reason_back Kind = refl
reason_back Reason-worker = refl
reason_back Reason-field = refl
reason_back ExtraBytes = refl
reason_back ShortTable = refl
reason_back ShortBuffer = refl

pub one_reason : (r s : Reason) → number_of r ≡ number_of s → r ≡ s
one_reason r s e = sym (reason_back r) ∙ ap (λ (n : ℕ). reason_numbered n) e ∙ reason_back s

one_worker : (w u : Worker) → w.0 ≡ u.0 → w ≡ u
one_worker w u q = let made : ℕ → Worker = λ n. record { 0 = n } in ap made q

one_field : (f g : Field) → f.0 ≡ g.0 → f ≡ g
one_field f g q = let made : ℕ → Field = λ n. record { 0 = n } in ap made q

one_report : (r t : Report) → report_of r ≡ report_of t → r ≡ t
one_report r t e =
    let n : r.event ≡ t.event = cc in
    let s : r.sort ≡ t.sort = cc in
    let w = one_worker r.worker t.worker (cc) in
    let u = one_worker r.other t.other (cc) in
    let f = one_field r.field t.field (cc) in
    let made : ℕ → ℕ → Worker → Worker → Field → Report = λ n s w u f. record { event = n; sort = s; worker = w; other = u; field = f } in
    let k : made r.event r.sort r.worker r.other r.field ≡ made t.event t.sort t.worker t.other t.field = cc in
    k

pub one_found : (a b : Option Worker) → found_of a ≡ found_of b → a ≡ b
one_found (Some w) (Some u) e = let k = one_worker w u (cc) in cc
one_found (Some w) None e = cc
one_found None (Some u) e = cc
one_found None None e = refl

pub one_refusal : (r s : Refusal) → number_of r.reason ≡ number_of s.reason → r.place ≡ s.place → r ≡ s
one_refusal r s n p =
    let reason = one_reason r.reason s.reason n in
    let made : Reason → ℕ → Refusal = λ x p. record { reason = x; place = p } in
    let k : made r.reason r.place ≡ made s.reason s.place = cc in
    k

pub one_answer : (a b : Result (Unit {0}) Objection) → said_by a ≡ said_by b → a ≡ b
one_answer (Ok u) (Ok v) e = refl
one_answer (Ok u) (Err (Refused m q)) e = cc
one_answer (Ok u) (Err (Reported t)) e = cc
one_answer (Err (Refused n p)) (Ok v) e = cc
one_answer (Err (Refused n p)) (Err (Refused m q)) e = cc
one_answer (Err (Refused n p)) (Err (Reported t)) e = cc
one_answer (Err (Reported r)) (Ok v) e = cc
one_answer (Err (Reported r)) (Err (Refused m q)) e = cc
one_answer (Err (Reported r)) (Err (Reported t)) e = let k = one_report r t (cc) in cc
