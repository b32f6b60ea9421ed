-- What the early finder gives for every file and all tables of any length: the answer and each table are functions of what was lent.
use Rattle.std.specs.Prelude.{◌≡◌, Bool, ◌&&◌, List, ℕ, leb, length}
use Rattle.events.specs.Acts.{History}
use Rattle.events.specs.Words.{stretch_word, writer_word, readers_word}
use Rattle.events.specs.Verdicts.{Verdict}
use Rattle.recording.specs.Refusals.{Fault}
use Rattle.recording.specs.File.{refusal, worker_count}
use Rattle.tables.specs.Lent.{cells}
use Rattle.tables.specs.Answers.{Said}
use Rattle.tables.specs.Finds.{early_of, said, shown_by, leaving}

-- Full lengths: stretch 16, writer 512, readers 8,192.
abbrev pub full_tables : List ℕ → List ℕ → List ℕ → Bool
full_tables S Wr Rd = leb 16 (length S) && (leb 512 (length Wr) && leb 8192 (length Rd))

module _ (file S₀ Wr₀ Rd₀ : List ℕ) where
  -- The tests in their order, number 11 first.
  abbrev pub fault : Fault
  fault = refusal (full_tables S₀ Wr₀ Rd₀) file

  -- the early verdict on the recording in the file, and the history that the tables then show
  abbrev pub verdict : Verdict
  verdict = early_of file

  abbrev pub history : History
  history = shown_by file verdict

  -- The tables were lent as S₀, Wr₀, Rd₀.
  pub record Finds (answer : Said) (S Wr Rd : List ℕ) : Type 0 where
    pub answers : answer ≡ said fault verdict
    pub stretch : S ≡ leaving fault 16 (stretch_word (worker_count file) history) S₀
    pub writer : Wr ≡ leaving fault 512 (writer_word history) Wr₀
    pub readers : Rd ≡ leaving fault 8192 (cells (readers_word history)) Rd₀
