-- What the finder's search is given and gives: tables that show a history, word by word.
use Rattle.std.specs.Prelude.{◌≡◌, List, [], ℕ}
use Rattle.events.specs.Acts.{History}
use Rattle.events.specs.Words.{stretch_word, writer_word, version_word, log_word}
use Rattle.events.specs.Verdicts.{Verdict}
use Rattle.recording.specs.declared.Counts.{Counts}
use Rattle.recording.specs.File.{Accepted, field_label}
use Rattle.flags.specs.Flags.{flags_from}
use Rattle.tables.specs.Lent.{Shown, cells}
use Rattle.tables.specs.Finds.{late_of, shown_by}
use Rattle.late.specs.declared.Tables.{Tables}
use Rattle.late.specs.Steps.{Lent}

-- the tables, lent as t₀, show h
pub record Shows (h : History) (t₀ t : Tables) : Type 0 where
  pub lent : Lent t₀ t
  pub stretch : Shown 16 (stretch_word t₀.workers h) t₀.stretch.now t.stretch.now
  pub writer : Shown 512 (writer_word h) t₀.writer.now t.writer.now
  pub version : Shown 512 (version_word h) t₀.version.now t.version.now
  pub log : Shown 8192 (cells (log_word h)) t₀.log.now t.log.now

-- the file is accepted with these counts, and the tables are for its workers and its plain fields
pub record Meant (file : List ℕ) (counts : Counts) (t : Tables) : Type 0 where
  pub checked : Accepted file counts
  pub workers : t.workers ≡ counts.workers
  pub plain : t.plain ≡ flags_from (field_label file) counts.fields

-- and they show that nothing has happened yet
pub record Ready (file : List ℕ) (counts : Counts) (t : Tables) : Type 0 where
  pub meant : Meant file counts t
  pub empty : Shows [] t t

-- the verdict on the recording in the file, and the tables that show what came before
pub record Ran (file : List ℕ) (v : Verdict) (t₀ t : Tables) : Type 0 where
  pub answer : v ≡ late_of file
  pub shows : Shows (shown_by file v) t₀ t
