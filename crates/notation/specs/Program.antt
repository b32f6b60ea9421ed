-- What the program makes of a text.
use Rattle.std.specs.Prelude.{◌≡◌, List, ℕ, Result, Ok, Err}
use Rattle.notation.specs.declared.NoFile.{NoFile}
use Rattle.notation.specs.declared.NoFile.TheVariants.{Notation, Refused}
use Rattle.recording.specs.declared.refusal.Refusal.{Refusal}
use Rattle.writing.specs.Writing.{writer_says, writer_leaves}
use Rattle.spelling.specs.Notation.{Said, bad, rows}

-- what the writer answers
abbrev pub made_by : Result ℕ Refusal → Result ℕ NoFile
made_by (Err refusal) = Err (Refused refusal)
made_by (Ok n) = Ok n

-- Bad notation gives the place of the first bad word and changes no byte; rows are the writer's to refuse or to write.
abbrev pub made_of : Said → List ℕ → Result ℕ NoFile
made_of (bad place) lent = Err (Notation (record { place = place }))
made_of (rows r) lent = made_by (writer_says r lent)

abbrev pub left_of : Said → List ℕ → List ℕ
left_of (bad place) lent = lent
left_of (rows r) lent = writer_leaves r lent

pub record Makes (says : Said) (lent buffer : List ℕ) (r : Result ℕ NoFile) : Type 0 where
  pub answers : r ≡ made_of says lent
  pub bytes : buffer ≡ left_of says lent
