-- What the finder's search is given and gives: tables that show a history, word by word.
use Rattle.std.specs.Prelude.{◌≡◌, List, [], ℕ}
use Rattle.events.specs.Acts.{History}
use Rattle.events.specs.Words.{stretch_word, writer_word, readers_word}
use Rattle.events.specs.Verdicts.{Verdict}
use Rattle.recording.specs.declared.Counts.{Counts}
use Rattle.recording.specs.File.{Accepted}
use Rattle.tables.specs.Lent.{Shown, cells}
use Rattle.tables.specs.Finds.{early_of, shown_by}
use Rattle.early.specs.declared.Tables.{Tables}
use Rattle.early.specs.Steps.{Lent}

-- the tables, lent as t₀, show h
pub record Shows (h : History) (t₀ t : Tables) : Type 0 where
  pub lent : Lent t₀ t
  pub stretch : Shown 16 (stretch_word t₀.workers h) t₀.stretch.now t.stretch.now
  pub writer : Shown 512 (writer_word h) t₀.writer.now t.writer.now
  pub readers : Shown 8192 (cells (readers_word h)) t₀.readers.now t.readers.now

-- the file is accepted with these counts, and the tables show that nothing has happened yet
pub record Ready (file : List ℕ) (counts : Counts) (t : Tables) : Type 0 where
  pub checked : Accepted file counts
  pub workers : t.workers ≡ counts.workers
  pub empty : Shows [] t t

-- the verdict on the recording in the file, and the tables that show what came before
pub record Ran (file : List ℕ) (counts : Counts) (v : Verdict) (t₀ t : Tables) : Type 0 where
  pub answer : v ≡ early_of file
  pub shows : Shows (shown_by file v) t₀ t
