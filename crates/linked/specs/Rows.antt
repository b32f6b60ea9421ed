-- The answers of the finders and of the writer as rows of six numbers, for a program in another language.
use Rattle.std.specs.Prelude.{◌≡◌, Result, Ok, Err, List, [], ◌∷◌, ℕ}
use Rattle.events.specs.Verdicts.{accepted, reported}
use Rattle.recording.specs.declared.refusal.Refusal.{Refusal}
use Rattle.recording.specs.Refusals.{number_of}
use Rattle.writing.specs.Writing.{Rows, writer_says, Writes}
use Rattle.tables.specs.Answers.{Said, refused, judged}
use Rattle.tables.specs.Finds.{said}
use Rattle.early.specs.Finds as early
use Rattle.late.specs.Finds as late

-- 0 and the refusal's number and place; 1 for an accepted recording; 2 and event, sort, worker, other worker, field; zeros fill the row
abbrev pub row_of : Said → List ℕ
row_of (refused number place) = 0 ∷ number ∷ place ∷ 0 ∷ 0 ∷ 0 ∷ []
row_of (judged accepted) = 1 ∷ 0 ∷ 0 ∷ 0 ∷ 0 ∷ 0 ∷ []
row_of (judged (reported n s w u f)) = 2 ∷ n ∷ s ∷ w ∷ u ∷ f ∷ []

-- the row and every table are those of the early finder's answer
module _ (file S₀ Wr₀ Rd₀ : List ℕ) where
  abbrev pub early_said : Said
  early_said = said (early.fault file S₀ Wr₀ Rd₀) (early.verdict file S₀ Wr₀ Rd₀)

  pub record EarlyLinked (S Wr Rd row : List ℕ) : Type 0 where
    pub row_is : row ≡ row_of early_said
    pub finds : early.Finds file S₀ Wr₀ Rd₀ early_said S Wr Rd

-- and of the late finder's
module _ (file S₀ Wr₀ Vr₀ Lg₀ : List ℕ) where
  abbrev pub late_said : Said
  late_said = said (late.fault file S₀ Wr₀ Vr₀ Lg₀) (late.verdict file S₀ Wr₀ Vr₀ Lg₀)

  pub record LateLinked (S Wr Vr Lg row : List ℕ) : Type 0 where
    pub row_is : row ≡ row_of late_said
    pub finds : late.Finds file S₀ Wr₀ Vr₀ Lg₀ late_said S Wr Vr Lg

-- 0 and the refusal's number and place; 1 and how many bytes were written; zeros fill the row
abbrev pub refused_row : ℕ → ℕ → List ℕ
refused_row number place = 0 ∷ number ∷ place ∷ 0 ∷ 0 ∷ 0 ∷ []

abbrev pub written_row : Result ℕ Refusal → List ℕ
written_row (Err r) = refused_row (number_of r.reason) r.place
written_row (Ok n) = 1 ∷ n ∷ 0 ∷ 0 ∷ 0 ∷ 0 ∷ []

-- the row and the buffer are those of the writer's answer
pub record WriteLinked (r : Rows) (lent buffer row : List ℕ) : Type 0 where
  pub row_is : row ≡ written_row (writer_says r lent)
  pub writes : Writes r lent (writer_says r lent) buffer
