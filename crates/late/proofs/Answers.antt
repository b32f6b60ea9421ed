-- What each way out of the late finder answers: refused for a table, refused for the file, or judged. And tables cleared.
use mathlib.Core.Path.{◌≡◌, ◌∙◌}
use mathlib.Core.Logic.{◌⊎◌, inl, inr}
use mathlib.Core.Bool.{true, false, and-false}
use mathlib.Core.List.{List}
use Prim.Native.Nat.{ℕ, ◌<◌, ◌≤◌}
use lib.ListN.{length}
use borrow.Author.Tests.{le-leb, lt-leb}
use Rattle.std.specs.Prelude.{Result, Ok, Err}
use Rattle.events.specs.Words.{stretch_word, writer_word, version_word, log_word}
use Rattle.events.specs.Verdicts.{Verdict}
use Rattle.recording.specs.declared.Counts.{Counts}
use Rattle.recording.specs.declared.refusal.Reason.TheVariants.{ShortTable}
use Rattle.recording.specs.declared.refusal.Refusal.{Refusal}
use Rattle.recording.specs.Refusals.{number_of, fine}
use Rattle.recording.specs.File.{checked, Accepted}
use Rattle.recording.proofs.Guarantee.{guarantee}
use Rattle.recording.proofs.Acceptance.{fine_accepted, refused_refusal, short_table}
use Rattle.tables.specs.declared.Objection.{Objection}
use Rattle.tables.specs.Lent.{cells}
use Rattle.tables.specs.Answers.{refused, judged, said_by}
use Rattle.tables.specs.Finds.{shown_by}
use Rattle.tables.proofs.Lent.{shown_is}
use Rattle.late.specs.declared.Tables.{Tables}
use Rattle.late.specs.Finds.{full_tables, fault, Finds}
use Rattle.late.specs.Runs.{Meant, Ran}

-- all workers have a word
pub meant_few : (file : List ℕ) (counts : Counts) (t : Tables) → Meant file counts t → t.workers ≤ 16
meant_few file counts t meant = rw meant.workers (guarantee file counts meant.checked).few_workers

module _ (file S Wr Vr Lg : List ℕ) where
  refused_as : (r : Refusal) → fault file S Wr Vr Lg ≡ Err r → Finds file S Wr Vr Lg (refused (number_of r.reason) r.place) S Wr Vr Lg
  refused_as r q = record { answers = rw q; stretch = rw q; writer = rw q; version = rw q; log = rw q }

  not_full : full_tables S Wr Vr Lg ≡ false → Finds file S Wr Vr Lg (refused 11 0) S Wr Vr Lg
  not_full q = refused_as (record { reason = ShortTable; place = 0 }) (rw q (short_table file))

  -- the first of the tables that is too short, as the code finds it
  pub too_short : (length S < 16) ⊎ ((16 ≤ length S × length Wr < 512) ⊎ ((16 ≤ length S × 512 ≤ length Wr × length Vr < 512) ⊎ (16 ≤ length S × 512 ≤ length Wr × 512 ≤ length Vr × length Lg < 8192)))
      → Finds file S Wr Vr Lg (refused 11 0) S Wr Vr Lg
  too_short (inl l) = not_full (rw (lt-leb 16 (length S) l))
  too_short (inr (inl l)) = not_full (rw (lt-leb 512 (length Wr) l.1, and-false))
  too_short (inr (inr (inl l))) = not_full (rw (lt-leb 512 (length Vr) l.2, and-false, and-false))
  too_short (inr (inr (inr l))) = not_full (rw (lt-leb 8192 (length Lg) l.3, and-false, and-false, and-false))

  module _ (a : 16 ≤ length S) (b : 512 ≤ length Wr) (c : 512 ≤ length Vr) (d : 8192 ≤ length Lg) (r : Result Counts Refusal) (is : r ≡ checked file) where
    full : full_tables S Wr Vr Lg ≡ true
    full = rw (le-leb 16 (length S) a, le-leb 512 (length Wr) b, le-leb 512 (length Vr) c, le-leb 8192 (length Lg) d)

    pub file_refused : (found : Refusal) → r ≡ Err found → Finds file S Wr Vr Lg (refused (number_of found.reason) found.place) S Wr Vr Lg
    file_refused found q = refused_as found (rw full (refused_refusal file r is found q))

    module _ (counts : Counts) (q : r ≡ Ok counts) where
      pub file_accepted : Accepted file counts
      file_accepted = fine_accepted file r is counts q

      -- S', Wr', Vr' and Lg' are what the tables hold once they are back with the lender
      pub file_judged : (answer : Result (Unit {0}) Objection) (v : Verdict) (t₀ t : Tables) (S' Wr' Vr' Lg' : List ℕ) → said_by answer ≡ judged v
          → Ran file v t₀ t → t₀.workers ≡ counts.workers → t₀.stretch.now ≡ S → t₀.writer.now ≡ Wr → t₀.version.now ≡ Vr → t₀.log.now ≡ Lg
          → S' ≡ t.stretch.now → Wr' ≡ t.writer.now → Vr' ≡ t.version.now → Lg' ≡ t.log.now → Finds file S Wr Vr Lg (said_by answer) S' Wr' Vr' Lg'
      file_judged answer v t₀ t S' Wr' Vr' Lg' says ran same s w r l s' w' r' l' =
          let passed : fault file S Wr Vr Lg ≡ fine = rw full file_accepted.fine in
          record {
            answers = rw (passed, ← ran.answer) says;
            stretch =
                rw (passed, ← ran.answer, ← file_accepted.workers, ← same, ← s)
                (s' ∙ shown_is 16 (stretch_word t₀.workers (shown_by file v)) t₀.stretch.now t.stretch.now ran.shows.stretch);
            writer = rw (passed, ← ran.answer, ← w) (w' ∙ shown_is 512 (writer_word (shown_by file v)) t₀.writer.now t.writer.now ran.shows.writer);
            version = rw (passed, ← ran.answer, ← r) (r' ∙ shown_is 512 (version_word (shown_by file v)) t₀.version.now t.version.now ran.shows.version);
            log = rw (passed, ← ran.answer, ← l) (l' ∙ shown_is 8192 (cells (log_word (shown_by file v))) t₀.log.now t.log.now ran.shows.log);
          }
