-- The demands, said of the definitions alone: no table and no code stands in these statements. Open this file first.
use mathlib.Core.Path.{◌≡◌}
use mathlib.Core.Bool.{cond}
use mathlib.Core.List.{List, [], ◌∷◌}
use Prim.Native.Nat.{ℕ, ◌+◌, ◌<◌, ◌≤◌}
use lib.Dec.{eqb, T}
use lib.ListN.{length, get_or}
use Rattle.sorts.specs.declared.Worker.{Worker}
use Rattle.sorts.specs.declared.Field.{Field}
use Rattle.sorts.specs.Words.{joined}
use Rattle.events.specs.declared.Event.{Event}
use Rattle.events.specs.declared.Event.TheVariants.{Read, Write}
use Rattle.events.specs.Acts.{Act, History, Recording, Within, deed_of, acts_of, recording_of, entered, before, worker_of}
use Rattle.events.specs.Stretches.{stretch_of, has_read, has_written}
use Rattle.events.specs.Words.{writer_word, readers_word, version_word, log_word}
use Rattle.events.specs.Positions.{closes, ClosesAt, event_worker, rise, OpenSince}
use Rattle.events.specs.Clashes.{Clash, OnWritten, Some, SomeAt, FirstClash}
use Rattle.events.specs.Verdicts.{Verdict, accepted, reported, early_verdict, late_verdict}
use Rattle.events.specs.Reports.{EventNames, Reports, ReportsSome, ReportsBy, Exactly, Writes, Crosses}
use Rattle.events.proofs.Histories.{Sound, recording_sound, recording_length}
use Rattle.events.proofs.Stretches.{own_clash}
use Rattle.events.proofs.Deeds.{closes_crosses, crosses_closes, stretch_rises, write_number, read_number, closing_calm, writer_kept, readers_kept, version_kept, log_cleared}
use Rattle.events.proofs.Positions.{positions, read_follows, written_follows, crossing_at}
use Rattle.events.proofs.Walks.{not_both}
use Rattle.events.proofs.Early.{Finds, accepts, finds, found_early, says_first, one_first}
use Rattle.events.proofs.Late.{late_accepts, LateReports, late_reports, stops_at, stops_by}

-- w's open stretch has read (written) f at n exactly if some event before n is w's read (write) of f, and no event from there up to n
-- closes w's stretch.
pub has_read_at : (P : ℕ) (es : List Event) (n w f : ℕ)
    → Exactly (T (has_read (before [] (recording_of P es) n) w f)) (OpenSince P es n w (Read (record { 0 = w }) (record { 0 = f })))
has_read_at P es n w f = positions (read_follows P w f) es n

pub has_written_at : (P : ℕ) (es : List Event) (n w f : ℕ)
    → Exactly (T (has_written (before [] (recording_of P es) n) w f)) (OpenSince P es n w (Write (record { 0 = w }) (record { 0 = f })))
has_written_at P es n w f = positions (written_follows P w f) es n

-- The events that close u's stretch are those with a crossing of u among their acts.
pub closes_exactly : (P u : ℕ) (e : Event) → Exactly (T (closes P u e)) (Some (Crosses u) (acts_of (deed_of P e)))
closes_exactly P u e = (closes_crosses P u e, crosses_closes P u e)

-- An event raises its own worker's stretch number, and nobody else's: an access of a flag by two.
pub number_rises : (P : ℕ) (h : History) (e : Event) (u : ℕ)
    → stretch_of (entered h (acts_of (deed_of P e))) u ≡ stretch_of h u + cond (eqb (event_worker e) u) (rise P e) 0
number_rises = stretch_rises

-- An access of a plain field bears the number of its worker's open stretch.
module _ (P : ℕ) (h : History) (w : Worker) (f : Field) (plain : f.0 < P) where
  pub write_bears : writer_word (entered h (acts_of (deed_of P (Write w f)))) f.0 ≡ joined (stretch_of h w.0) w.0
  write_bears = write_number P h w f plain

  pub read_bears : readers_word (entered h (acts_of (deed_of P (Read w f)))) f.0 w.0 ≡ stretch_of h w.0
  read_bears = read_number P h w f plain

-- A worker never clashes with itself: what it did before changes nothing of what it meets.
pub never_with_itself : (h : History) (a b : Act) → worker_of b ≡ worker_of a → Clash (a ∷ h) b → Clash h b
never_with_itself = own_clash

-- A crossing never clashes, and no more does an access of a flag: no event that closes a stretch does.
pub no_crossing_clashes : (P u : ℕ) (h : History) (e : Event) → T (closes P u e) → Some (Clash h) (acts_of (deed_of P e)) → ⊥
no_crossing_clashes = closing_calm

-- Such an event clears its worker's log words, and enters no other table than the stretch words.
module _ (P u : ℕ) (h : History) (e : Event) (closing : T (closes P u e)) (f : ℕ) where
  abbrev after : History
  after = entered h (acts_of (deed_of P e))

  pub clears_log : (w : ℕ) → log_word after f w ≡ cond (eqb u w) 0 (log_word h f w)
  clears_log = log_cleared P u h e closing f

  pub enters_no_writer : writer_word after f ≡ writer_word h f
  enters_no_writer = writer_kept P u h e closing f

  pub enters_no_version : version_word after f ≡ version_word h f
  enters_no_version = version_kept P u h e closing f

  pub enters_no_reader : (w : ℕ) → readers_word after f w ≡ readers_word h f w
  enters_no_reader = readers_kept P u h e closing f

-- a verdict names one event
one_number : (v : Verdict) (n m : ℕ) → Reports v n → Reports v m → n ≡ m
one_number v n m a b = let p = a.says in let q = b.says in cc

-- es are a recording's events, with W workers and F fields, P of them plain
module _ (W F P : ℕ) (few : W ≤ 16) (es : List Event) (within : Within W F es) where
  -- the acts of each event
  abbrev all : Recording
  all = recording_of P es

  sound : Sound W F all
  sound = recording_sound P W F F (λ f _ l. l) es within

  found : Finds W F few all sound (early_verdict P es)
  found = found_early W F few all sound

  -- DEMAND 2. Early reports event n exactly if n is the lowest-numbered event that clashes.
  pub early_reports : (n : ℕ) → Exactly (Reports (early_verdict P es) n) (FirstClash all n)
  early_reports n = (λ r. to r found, λ c. from c found)
    where
      to : Reports (early_verdict P es) n → Finds W F few all sound (early_verdict P es) → FirstClash all n
      to r (accepts q _) = not_both (early_verdict P es) n r.sort r.worker r.other r.field q r.says
      to r (finds k s w u f q _ c _) =
          rw (one_number (early_verdict P es) n k r (record { sort = s; worker = w; other = u; field = f; says = q })) c

      from : FirstClash all n → Finds W F few all sound (early_verdict P es) → Reports (early_verdict P es) n
      from c (accepts _ z) = absurd (z n c.clashes)
      from c (finds k s w u f q _ c' _) =
          rw (one_first W F few all sound n k c c') (record { sort = s; worker = w; other = u; field = f; says = q })

  -- It reports n with sort s, worker w, other worker u and field f exactly if n is that event and these are its names.
  pub early_names : (n s w u f : ℕ)
      → Exactly (early_verdict P es ≡ reported n s w u f) (FirstClash all n × EventNames (before [] all n) (get_or all n []) s w u f)
  early_names n s w u f = (λ q. to q found, λ c. says_first W F few all sound n s w u f c.0 c.1)
    where
      to : early_verdict P es ≡ reported n s w u f → Finds W F few all sound (early_verdict P es)
          → FirstClash all n × EventNames (before [] all n) (get_or all n []) s w u f
      to q (accepts z _) = not_both (early_verdict P es) n s w u f z q
      to q (finds k s' w' u' f' q' _ c names) =
          let kn : n ≡ k = cc in
          let ks : s ≡ s' = cc in
          let kw : w ≡ w' = cc in
          let ku : u ≡ u' = cc in
          let kf : f ≡ f' = cc in
          rw (kn, ks, kw, ku, kf) (c, names)

  -- It accepts exactly if no event clashes.
  pub early_accepts : Exactly (early_verdict P es ≡ accepted) ((n : ℕ) → SomeAt Clash all n → ⊥)
  early_accepts = (λ q. to q found, λ z. from z found)
    where
      to : early_verdict P es ≡ accepted → Finds W F few all sound (early_verdict P es) → (n : ℕ) → SomeAt Clash all n → ⊥
      to q (accepts _ z) = z
      to q (finds k s w u f q' _ _ _) = not_both (early_verdict P es) k s w u f q q'

      from : ((n : ℕ) → SomeAt Clash all n → ⊥) → Finds W F few all sound (early_verdict P es) → early_verdict P es ≡ accepted
      from z (accepts q _) = q
      from z (finds k s w u f _ _ c _) = absurd (z k c.clashes)

  -- DEMAND 3. n is the first event that clashes.
  module _ (n : ℕ) (first : FirstClash all n) where
    inside : Finds W F few all sound (early_verdict P es) → n < length all
    inside (accepts _ z) = absurd (z n first.clashes)
    inside (finds k s w u f _ l c _) = rw (one_first W F few all sound n k first c) l

    late_run : LateReports W F few all sound n first (inside found) (late_verdict W F P es)
    late_run = late_reports W F few all sound n first (inside found)

    -- Late reports never before n.
    pub late_not_before : (m : ℕ) → Reports (late_verdict W F P es) m → n ≤ m
    late_not_before m r = rw (one_number (late_verdict W F P es) m late_run.number r late_run.reports) late_run.not_before

    -- If another worker's open stretch had written the field, it reports at n itself.
    pub late_at_once : SomeAt OnWritten all n → Reports (late_verdict W F P es) n
    late_at_once o = rw (stops_at W F few all sound n first (inside found) late_run o) at late_run.reports

    -- Otherwise another worker u's open stretch had read a field f that w writes at n: it reports no later than u's next crossing, or access
    -- of a flag,
    pub late_by_crossing : (w u f : ℕ) → Some (Writes w f) (get_or all n []) → (u ≡ w → ⊥) → T (has_read (before [] all n) u f)
        → (m : ℕ) → n < m → ClosesAt P es m u → ReportsBy (late_verdict W F P es) m
    late_by_crossing w u f wrote ne read m l c = record {
      event = late_run.number;
      reports = late_run.reports;
      in_time = stops_by W F few all sound n first (inside found) late_run w u f wrote ne read m l (crossing_at P es m u c);
    }

    -- or the end if that worker crosses no more.
    pub late_by_end : ReportsBy (late_verdict W F P es) (length es)
    late_by_end = record {
      event = late_run.number;
      reports = late_run.reports;
      in_time = rw (← recording_length P es) late_run.by_end;
    }

  -- Late reports exactly when early does.
  pub late_reports_too : Exactly (ReportsSome (late_verdict W F P es)) (ReportsSome (early_verdict P es))
  late_reports_too = (λ r. to r found, λ r. from r found)
    where
      to : ReportsSome (late_verdict W F P es) → Finds W F few all sound (early_verdict P es) → ReportsSome (early_verdict P es)
      to r (accepts _ z) =
          let b = r.reports in
          not_both (late_verdict W F P es) r.event b.sort b.worker b.other b.field (late_accepts W F few all sound z) b.says
      to r (finds k s w u f q _ _ _) = record { event = k; reports = record { sort = s; worker = w; other = u; field = f; says = q } }

      from : ReportsSome (early_verdict P es) → Finds W F few all sound (early_verdict P es) → ReportsSome (late_verdict W F P es)
      from r (accepts q _) =
          let b = r.reports in
          not_both (early_verdict P es) r.event b.sort b.worker b.other b.field q b.says
      from r (finds k s w u f _ _ c _) = let b = late_by_end k c in record { event = b.event; reports = b.reports }
