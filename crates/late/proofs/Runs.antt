-- The finder's loop: what holds before event n, and what each way on gives.
use mathlib.Core.Path.{◌≡◌, refl, sym, ◌∙◌}
use mathlib.Core.List.{List, []}
use Prim.Native.Nat.{ℕ, ◌+◌, ◌<◌, ◌≤◌}
use native.Mathlib.Omega.{arith}
use lib.ListN.{length}
use Rattle.events.specs.declared.Event.{Event}
use Rattle.events.specs.declared.Deed.{Deed}
use Rattle.events.specs.Acts.{Act, History, deed_of, acts_of, before}
use Rattle.events.specs.Clashes.{OnWritten, Some}
use Rattle.events.specs.Words.{writer_word, version_word, log_word}
use Rattle.events.specs.Verdicts.{accepted, reported, first_of, stale_field, end_by, late_look, late_verdict}
use Rattle.events.specs.Verdicts as papers
use Rattle.events.proofs.Histories.{ActsWithin}
use Rattle.events.proofs.Walks.{not_both}
use Rattle.events.proofs.Late.{LateLooked, passed, stopped, late_looked, EndLooked, all_passed, one_stopped, end_looked}
use Rattle.events.proofs.Plain.{late_plain}
use Rattle.recording.specs.declared.Counts.{Counts}
use Rattle.recording.specs.File.{Accepted, event_at, events_in}
use Rattle.recording.proofs.Guarantee.{Guarantee, guarantee}
use Rattle.flags.specs.Flags.{first_flag}
use Rattle.flags.proofs.Flags.{plain_in_file, accepted_first_flag}
use Rattle.tables.specs.declared.Report.{Report}
use Rattle.tables.specs.Lent.{cells}
use Rattle.tables.specs.Answers.{report_of}
use Rattle.tables.specs.Finds.{acts_in, late_of, shown_by}
use Rattle.tables.proofs.Lent.{shown_length}
use Rattle.tables.proofs.Files.{deed_at, file_sound, file_deed, file_does}
use Rattle.tables.proofs.Runs.{Sees, Reached, Course, reached_start, reached_next, reached_stop, reached_end, now_within, event_within, history_next, history_stop, history_end}
use Rattle.stale.specs.declared.Logs.{Logs}
use Rattle.stale.specs.Stale.{stale_field_by}
use Rattle.late.specs.declared.Tables.{Tables}
use Rattle.late.specs.Steps.{Room, Stepped}
use Rattle.late.specs.Runs.{Shows, Ready, Ran}
use Rattle.late.proofs.Shown.{room_shown, end_shown, step_says, step_passed, step_stopped}

-- what the late look passes met no open stretch that had written its field, and what it reports bears the event's number
late_sees : (W F : ℕ) → W ≤ 16 → Sees (late_look F) W F
late_sees W F few = record {
  calm = λ h i n e q s. calm h n e q s (late_looked W F few h i n e);
  number = λ h i n e m s w u f q. number h n e m s w u f q (late_looked W F few h i n e);
}
  where
    calm : (h : History) (n : ℕ) (e : List Act) → first_of (late_look F h n) e ≡ accepted → Some (OnWritten h) e → LateLooked F h n e (first_of (late_look F h n) e) → ⊥
    calm h n e q s (passed _ z _) = z s
    calm h n e q s (stopped a w u f k _) = not_both (first_of (late_look F h n) e) n a w u f q k

    number : (h : History) (n : ℕ) (e : List Act) (m s w u f : ℕ) → first_of (late_look F h n) e ≡ reported m s w u f → LateLooked F h n e (first_of (late_look F h n) e) → m ≡ n
    number h n e m s w u f q (passed k _ _) = not_both (first_of (late_look F h n) e) m s w u f k q
    number h n e m s w u f q (stopped a b d g k _) = cc

-- what is said after the last event
abbrev end : ℕ → ℕ → History → ℕ → papers.Verdict
end W F h n = end_by (stale_field F h) n 0 W

-- the events before n were passed and are entered; the tables were lent as t₀
pub record Running (file : List ℕ) (counts : Counts) (t₀ t : Tables) (n : ℕ) : Type 0 where
  pub low : n ≤ counts.events
  pub short : counts.events ≤ 16000
  pub so_far : Reached (late_look t₀.plain) (end t₀.workers t₀.plain) file n
  pub shows : Shows (before [] (acts_in file) n) t₀ t

module _ (file : List ℕ) (counts : Counts) (t₀ : Tables) (ready : Ready file counts t₀) where
  checked : Accepted file counts
  checked = ready.meant.checked

  good : Guarantee file counts
  good = guarantee file counts checked

  -- the tables' worker count, and the number of plain fields, which the walks are over
  workers : t₀.workers ≡ counts.workers
  workers = ready.meant.workers

  plain : t₀.plain ≡ first_flag file
  plain = accepted_first_flag file counts t₀.plain checked ready.meant.plain

  few : t₀.workers ≤ 16
  few = rw workers good.few_workers

  fit : t₀.plain ≤ 512
  fit = omega (arith, plain, plain_in_file file, checked.fields, good.few_fields)

  course : Course (late_look t₀.plain) (end t₀.workers t₀.plain) t₀.workers t₀.plain file counts
  course =
      rw (workers, plain)
      (record { sees = late_sees counts.workers (first_flag file) good.few_workers; good = good; sound = file_sound file counts good })

  -- leaving out the flags changes no verdict
  whole : late_verdict t₀.workers t₀.plain (first_flag file) (events_in file) ≡ late_of file
  whole =
      rw (workers, plain, ← checked.workers, ← checked.fields)
      (late_plain counts.workers counts.fields (first_flag file) (omega (arith, plain_in_file file, checked.fields)) (events_in file) good.within)

  pub run_start : Running file counts t₀ t₀ 0
  unfolding before
  run_start = record { low = omega arith; short = good.few_events; so_far = reached_start course; shows = ready.empty }

  -- before event n
  module _ (t : Tables) (n : ℕ) (run : Running file counts t₀ t n) where
    abbrev now : History
    now = before [] (acts_in file) n

    inside : ActsWithin t₀.workers t₀.plain now
    inside = now_within course n run.so_far

    -- the lengths that the search at the end asks for
    pub end_writer : 512 ≤ length t.writer.now
    end_writer = shown_length 512 (writer_word now) t₀.writer.now t.writer.now run.shows.writer

    pub end_version : 512 ≤ length t.version.now
    end_version = shown_length 512 (version_word now) t₀.version.now t.version.now run.shows.version

    pub end_log : 8192 ≤ length t.log.now
    end_log = shown_length 8192 (cells (log_word now)) t₀.log.now t.log.now run.shows.log

    pub end_workers : counts.workers ≤ 16
    end_workers = good.few_workers

    pub end_fields : t₀.plain ≤ 512
    end_fields = fit

    -- after the last event
    pub run_end : (logs : Logs) (v : papers.Verdict) → counts.events ≤ n
        → (logs.writer.now ≡ t.writer.now) × (logs.version.now ≡ t.version.now) × (logs.log.now ≡ t.log.now)
        → v ≡ end_by (stale_field_by t₀.plain logs.log.now logs.version.now logs.writer.now) counts.events 0 counts.workers → Ran file v t₀ t
    run_end logs v l words q = record {
      answer = says ∙ sym (reached_end course n run.so_far l) ∙ whole;
      shows = rw (all_shown (end_looked t₀.plain now n 0 t₀.workers)) run.shows;
    }
      where
        here : counts.events ≡ n
        here = omega (arith, run.low)

        says : v ≡ end_by (stale_field t₀.plain now) n 0 t₀.workers
        says = q ∙ rw (here, ← workers, words.0, words.1, words.2) (end_shown t₀ t few fit now inside run.shows run.so_far.calm n)

        all_shown : EndLooked t₀.plain now n 0 t₀.workers (end_by (stale_field t₀.plain now) n 0 t₀.workers) → shown_by file v ≡ now
        all_shown (all_passed k _) = rw (says ∙ k) (history_end course checked n run.low l)
        all_shown (one_stopped u f k _) = rw (says ∙ k)

    module _ (l : n < counts.events) where
      abbrev event : List Act
      event = acts_of (deed_at file n)

      event_inside : ActsWithin t₀.workers t₀.plain event
      event_inside = event_within course n run.so_far l

      -- Event n does d. The loop has it from the event and the number of plain fields.
      module _ (e : Event) (r : e ≡ event_at file n) (d : Deed) (k : d ≡ deed_of t₀.plain e) where
        does : d ≡ deed_at file n
        does = file_does file counts good checked n t₀.plain ready.meant.plain e r d k

        pub run_room : Room d t
        run_room =
            rw does
            (room_shown t₀ t few fit (first_flag file) (events_in file) n (omega (arith, run.short, run.low)) (deed_at file n) (rw (workers, plain) (file_deed file counts good n l)) run.shows)

        -- what the words say of event n is the late look at it
        module _ (v : papers.Verdict) (t' : Tables) (step : Stepped n (acts_of d) v t t') where
          stepped : Stepped n event v t t'
          stepped = rw does at step

          says : v ≡ first_of (late_look t₀.plain now n) event
          says = step_says t₀ t few fit now inside run.shows run.so_far.calm n event event_inside v t' stepped

          reported_stop : (m a w u f : ℕ) → v ≡ reported m a w u f → Ran file v t₀ t'
          reported_stop m a w u f q = record {
            answer = q ∙ sym (reached_stop course n run.so_far l m a w u f (sym says ∙ q)) ∙ whole;
            shows =
                rw (history_stop course n run.so_far l v m a w u f says q)
                (step_stopped t₀ t few fit now inside run.shows n event v t' stepped m a w u f q);
          }

        pub run_stop : (v : papers.Verdict) (r : Report) (t' : Tables) → v ≡ report_of r → Stepped n (acts_of d) (report_of r) t t' → Ran file v t₀ t'
        run_stop v r t' q step = rw q (reported_stop (report_of r) t' step r.event r.sort r.worker.0 r.other.0 r.field.0 refl)

        pub run_next : (t' : Tables) → Stepped n (acts_of d) accepted t t' → Running file counts t₀ t' (n + 1)
        run_next t' step =
            let later = reached_next course n run.so_far l (sym (says accepted t' step)) in
            let history = history_next course n run.so_far l in
            record {
              low = omega arith;
              short = run.short;
              so_far = later;
              shows =
                  rw history
                  (step_passed t₀ t few fit now inside run.shows n event event_inside accepted t' (stepped accepted t' step) refl (rw history at later.calm));
            }
