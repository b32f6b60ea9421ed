-- What each way out of the early finder answers: refused for a table, refused for the file, or judged. And tables cleared.
use Rattle.std.specs.Prelude.{Result, Ok, Err}
use mathlib.Core.Path.{◌≡◌, ◌∙◌}
use mathlib.Core.Logic.{◌⊎◌, inl, inr}
use mathlib.Core.Bool.{true, false, and-false}
use mathlib.Core.List.{List, []}
use Prim.Native.Nat.{ℕ, ◌<◌, ◌≤◌}
use native.Mathlib.Omega.{arith}
use lib.ListN.{length}
use borrow.Author.Tests.{le-leb, lt-leb}
use Rattle.events.specs.Words.{stretch_word, writer_word, readers_word}
use Rattle.events.specs.Verdicts.{Verdict}
use Rattle.recording.specs.declared.refusal.Reason.TheVariants.{ShortTable}
use Rattle.recording.specs.declared.refusal.Refusal.{Refusal}
use Rattle.recording.specs.Refusals.{number_of, fine}
use Rattle.recording.specs.declared.Counts.{Counts}
use Rattle.recording.specs.File.{checked, Accepted}
use Rattle.recording.proofs.Guarantee.{guarantee}
use Rattle.recording.proofs.Acceptance.{fine_accepted, refused_refusal, short_table}
use Rattle.tables.specs.declared.Objection.{Objection}
use Rattle.tables.specs.Lent.{cells}
use Rattle.tables.specs.Answers.{refused, judged, said_by}
use Rattle.tables.specs.Finds.{shown_by}
use Rattle.tables.proofs.Lent.{shown_is, shown_since, shown_itself}
use Rattle.early.specs.declared.Tables.{Tables}
use Rattle.early.specs.Finds.{full_tables, fault, Finds}
use Rattle.early.specs.Runs.{Shows, Ready, Ran}
use Rattle.early.proofs.Laws.{lent_still, lent_itself}

-- the tables cleared
module _ (file : List ℕ) (counts : Counts) (t₀ t : Tables) (cleared : Shows [] t₀ t) where
  pub cleared_ready : Accepted file counts → t₀.workers ≡ counts.workers → Ready file counts t
  cleared_ready accepted same = record {
    checked = accepted;
    workers = cleared.lent.workers ∙ same;
    empty = record {
      lent = lent_itself t;
      stretch = rw cleared.lent.workers (shown_itself 16 (stretch_word t₀.workers []) t₀.stretch.now t.stretch.now cleared.stretch);
      writer = shown_itself 512 (writer_word []) t₀.writer.now t.writer.now cleared.writer;
      readers = shown_itself 8192 (cells (readers_word [])) t₀.readers.now t.readers.now cleared.readers;
    };
  }

  pub cleared_ran : (v : Verdict) (t' : Tables) → Ran file counts v t t' → Ran file counts v t₀ t'
  cleared_ran v t' r = record {
    answer = r.answer;
    shows = record {
      lent = lent_still t₀ t t' cleared.lent r.shows.lent;
      stretch = shown_since 16 (stretch_word t₀.workers []) (stretch_word t₀.workers (shown_by file v)) t₀.stretch.now t.stretch.now t'.stretch.now
          cleared.stretch (rw cleared.lent.workers at r.shows.stretch);
      writer = shown_since 512 (writer_word []) (writer_word (shown_by file v)) t₀.writer.now t.writer.now t'.writer.now cleared.writer r.shows.writer;
      readers = shown_since 8192 (cells (readers_word [])) (cells (readers_word (shown_by file v))) t₀.readers.now t.readers.now t'.readers.now
          cleared.readers r.shows.readers;
    };
  }

-- all workers have a word
pub accepted_few : (file : List ℕ) (counts : Counts) (W : ℕ) → Accepted file counts → W ≡ counts.workers → W ≤ 16
accepted_few file counts W accepted q = omega (arith, (guarantee file counts accepted).few_workers)

module _ (file S Wr Rd : List ℕ) where
  refused_as : (r : Refusal) → fault file S Wr Rd ≡ Err r → Finds file S Wr Rd (refused (number_of r.reason) r.place) S Wr Rd
  refused_as r q = record { answers = rw q; stretch = rw q; writer = rw q; readers = rw q }

  not_full : full_tables S Wr Rd ≡ false → Finds file S Wr Rd (refused 11 0) S Wr Rd
  not_full q = refused_as (record { reason = ShortTable; place = 0 }) (rw q (short_table file))

  -- the first of the tables that is too short, as the code finds it
  pub too_short : (length S < 16) ⊎ ((16 ≤ length S × length Wr < 512) ⊎ (16 ≤ length S × 512 ≤ length Wr × length Rd < 8192))
      → Finds file S Wr Rd (refused 11 0) S Wr Rd
  too_short (inl l) = not_full (rw (lt-leb 16 (length S) l))
  too_short (inr (inl l)) = not_full (rw (lt-leb 512 (length Wr) l.1, and-false))
  too_short (inr (inr l)) = not_full (rw (lt-leb 8192 (length Rd) l.2, and-false, and-false))

  module _ (a : 16 ≤ length S) (b : 512 ≤ length Wr) (c : 8192 ≤ length Rd) (r : Result Counts Refusal) (is : r ≡ checked file) where
    full : full_tables S Wr Rd ≡ true
    full = rw (le-leb 16 (length S) a, le-leb 512 (length Wr) b, le-leb 8192 (length Rd) c)

    pub file_refused : (found : Refusal) → r ≡ Err found → Finds file S Wr Rd (refused (number_of found.reason) found.place) S Wr Rd
    file_refused found q = refused_as found (rw full (refused_refusal file r is found q))

    module _ (counts : Counts) (q : r ≡ Ok counts) where
      pub file_accepted : Accepted file counts
      file_accepted = fine_accepted file r is counts q

      -- S', Wr' and Rd' are what the tables hold once they are back with the lender
      pub file_judged : (answer : Result (Unit {0}) Objection) (v : Verdict) (t₀ t : Tables) (S' Wr' Rd' : List ℕ) → said_by answer ≡ judged v
          → Ran file counts v t₀ t → t₀.workers ≡ counts.workers → t₀.stretch.now ≡ S → t₀.writer.now ≡ Wr → t₀.readers.now ≡ Rd
          → S' ≡ t.stretch.now → Wr' ≡ t.writer.now → Rd' ≡ t.readers.now → Finds file S Wr Rd (said_by answer) S' Wr' Rd'
      file_judged answer v t₀ t S' Wr' Rd' says ran same s w d s' w' d' =
          let passed : fault file S Wr Rd ≡ fine = rw full file_accepted.fine in
          record {
            answers = rw (passed, ← ran.answer) says;
            stretch = rw (passed, ← ran.answer, ← file_accepted.workers, ← same, ← s)
                (s' ∙ shown_is 16 (stretch_word t₀.workers (shown_by file v)) t₀.stretch.now t.stretch.now ran.shows.stretch);
            writer = rw (passed, ← ran.answer, ← w) (w' ∙ shown_is 512 (writer_word (shown_by file v)) t₀.writer.now t.writer.now ran.shows.writer);
            readers = rw (passed, ← ran.answer, ← d)
                (d' ∙ shown_is 8192 (cells (readers_word (shown_by file v))) t₀.readers.now t.readers.now ran.shows.readers);
          }
