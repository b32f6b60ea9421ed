-- The finder's loop: what holds before event n, and what each way on gives.
use mathlib.Core.Path.{◌≡◌, sym, ◌∙◌}
use mathlib.Core.List.{List, []}
use Prim.Native.Nat.{ℕ, ◌+◌, ◌<◌, ◌≤◌}
use native.Mathlib.Omega.{arith}
use Rattle.events.specs.declared.Event.{Event}
use Rattle.events.specs.declared.Deed.{Deed}
use Rattle.events.specs.Acts.{Act, History, deed_of, acts_of, before, deed_worker}
use Rattle.events.specs.Clashes.{OnWritten, Some}
use Rattle.events.specs.Words.{stretch_word, writer_word, readers_word}
use Rattle.events.specs.Verdicts.{accepted, reported, first_of, early_look}
use Rattle.events.specs.Verdicts as papers
use Rattle.events.proofs.Histories.{ActsWithin}
use Rattle.events.proofs.Stretches.{some_on_written}
use Rattle.events.proofs.Walks.{not_both}
use Rattle.events.proofs.Early.{EventLooked, all_calm, one_met, event_looked}
use Rattle.recording.specs.declared.Counts.{Counts}
use Rattle.recording.specs.File.{event_at, field_label}
use Rattle.recording.proofs.Guarantee.{Guarantee, guarantee}
use Rattle.flags.specs.Flags.{flags_from}
use Rattle.tables.specs.declared.Report.{Report}
use Rattle.tables.specs.Lent.{cells}
use Rattle.tables.specs.Answers.{report_of}
use Rattle.tables.specs.Finds.{acts_in}
use Rattle.tables.proofs.Lent.{shown_length}
use Rattle.tables.proofs.Files.{deed_at, file_sound_full, file_numbers, file_worker, file_does, file_stretch}
use Rattle.tables.proofs.Shown.{shown_stretch}
use Rattle.tables.proofs.Runs.{Sees, Reached, Course, reached_start, reached_next, reached_stop, reached_end, now_within, event_within, history_next, history_stop, history_end}
use Rattle.early.specs.declared.Tables.{Tables}
use Rattle.early.specs.Steps.{Room, Stepped}
use Rattle.early.proofs.Laws.{lent_still}
use Rattle.early.specs.Runs.{Shows, Ready, Ran}
use Rattle.early.proofs.Shown.{meets_shown, shows_after}

-- the early look passes no clash, and reports under the event's number
early_sees : (W F : ℕ) → W ≤ 16 → Sees early_look W F
early_sees W F few = record {
  calm = λ h i n e q s. calm h n e q s (event_looked W F few h i n e);
  number = λ h i n e m s w u f q. number h n e m s w u f q (event_looked W F few h i n e);
}
  where
    calm : (h : History) (n : ℕ) (e : List Act) → first_of (early_look h n) e ≡ accepted → Some (OnWritten h) e → EventLooked h n e (first_of (early_look h n) e) → ⊥
    calm h n e q s (all_calm _ z) = z (some_on_written s)
    calm h n e q s (one_met a w u f k _) = not_both (first_of (early_look h n) e) n a w u f q k

    number : (h : History) (n : ℕ) (e : List Act) (m s w u f : ℕ) → first_of (early_look h n) e ≡ reported m s w u f → EventLooked h n e (first_of (early_look h n) e) → m ≡ n
    number h n e m s w u f q (all_calm k _) = not_both (first_of (early_look h n) e) m s w u f k q
    number h n e m s w u f q (one_met a b d g k _) = cc

-- nothing more is said at the end
abbrev end : History → ℕ → papers.Verdict
end h n = accepted

-- the events before n were passed and are entered; the tables were lent as t₀
pub record Running (file : List ℕ) (counts : Counts) (t₀ t : Tables) (n : ℕ) : Type 0 where
  pub low : n ≤ counts.events
  pub so_far : Reached early_look end file n
  pub shows : Shows (before [] (acts_in file) n) t₀ t

module _ (file : List ℕ) (counts : Counts) (t₀ : Tables) (ready : Ready file counts t₀) where
  good : Guarantee file counts
  good = guarantee file counts ready.checked

  few : t₀.workers ≤ 16
  few = omega (arith, ready.workers, good.few_workers)

  course : Course early_look end t₀.workers 512 file counts
  course = record { sees = early_sees t₀.workers 512 few; good = good; sound = rw ready.workers (file_sound_full file counts good) }

  pub run_start : Running file counts t₀ t₀ 0
  unfolding before
  run_start = record { low = omega arith; so_far = reached_start course; shows = ready.empty }

  -- before event n
  module _ (t : Tables) (n : ℕ) (run : Running file counts t₀ t n) where
    abbrev now : History
    now = before [] (acts_in file) n

    inside : ActsWithin t₀.workers 512 now
    inside = now_within course n run.so_far

    pub run_end : counts.events ≤ n → Ran file counts accepted t₀ t
    run_end l = record {
      answer = sym (reached_end course n run.so_far l);
      shows = rw (history_end course ready.checked n run.low l) run.shows;
    }

    module _ (l : n < counts.events) where
      abbrev event : List Act
      event = acts_of (deed_at file n)

      event_inside : ActsWithin t₀.workers 512 event
      event_inside = event_within course n run.so_far l

      worker_in : deed_worker (deed_at file n) < t₀.workers
      worker_in = omega (arith, ready.workers, file_worker file counts good n l)

      -- Event n does d. The loop has it from the event and the number of plain fields.
      module _ (plain : ℕ) (p : plain ≡ flags_from (field_label file) counts.fields) (e : Event) (t' : e ≡ event_at file n) (d : Deed) (k : d ≡ deed_of plain e) where
        does : d ≡ deed_at file n
        does = file_does file counts good ready.checked n plain p e t' d k

        pub run_room : Room d t
        run_room = rw does (record {
          numbers = file_numbers file counts good n l;
          sized = record {
            stretch = shown_length 16 (stretch_word t₀.workers now) t₀.stretch.now t.stretch.now run.shows.stretch;
            writer = shown_length 512 (writer_word now) t₀.writer.now t.writer.now run.shows.writer;
            readers = shown_length 8192 (cells (readers_word now)) t₀.readers.now t.readers.now run.shows.readers;
          };
          number = rw (shown_stretch t₀.workers few now t₀.stretch.now t.stretch.now run.shows.stretch (deed_worker (deed_at file n)) worker_in)
              (file_stretch file counts good n (deed_worker (deed_at file n)) run.low);
        })

        module _ (v : papers.Verdict) (t₁ : Tables) (step : Stepped n d v t t₁) where
          -- what the words say of event n is the early look at it
          says : v ≡ first_of (early_look now n) event
          says = step.answer ∙ rw does (meets_shown t₀ t few now inside run.shows run.so_far.calm n (deed_at file n) event_inside)

          pub run_stop : (r : Report) → v ≡ report_of r → Ran file counts v t₀ t₁
          run_stop r o = record {
            answer = o ∙ sym (reached_stop course n run.so_far l r.event r.sort r.worker.0 r.other.0 r.field.0 (sym says ∙ o));
            shows = rw (history_stop course n run.so_far l v r.event r.sort r.worker.0 r.other.0 r.field.0 says o)
                (record {
                  lent = lent_still t₀ t t₁ run.shows.lent step.lent;
                  stretch = rw (rw o at step.stretch) run.shows.stretch;
                  writer = rw (rw o at step.writer) run.shows.writer;
                  readers = rw (rw o at step.readers) run.shows.readers;
                });
          }

        pub run_next : (t₁ : Tables) → Stepped n d accepted t t₁ → Running file counts t₀ t₁ (n + 1)
        run_next t₁ step = record {
          low = omega arith;
          so_far = reached_next course n run.so_far l (sym (says accepted t₁ step));
          shows = rw (history_next course n run.so_far l)
              (shows_after t₀ t few now inside run.shows t₁ event event_inside step.lent
              (rw does at step.stretch) (rw does at step.writer) (rw does at step.readers));
        }
