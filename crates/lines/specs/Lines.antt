-- What is printed for a file: trace, early and late lines, or the one line of a refusal.
use Rattle.std.specs.Prelude.{true, cond, List, [], ◌∷◌, ◌++◌, ℕ, eqb}
use Rattle.events.specs.Verdicts.{Verdict, accepted, reported}
use Rattle.std.specs.Prelude.{Ok, Err}
use Rattle.recording.specs.Refusals.{Fault, number_of}
use Rattle.recording.specs.declared.Counts.{Counts}
use Rattle.recording.specs.File.{refusal, counts_in, worker_label, field_label}
use Rattle.tables.specs.Answers.{Said, judged}
use Rattle.tables.specs.Answers as answers
use Rattle.tables.specs.Finds.{early_of, late_of}
use Rattle.byte_rows.specs.Characters.{ascii}
use Rattle.lines.specs.Text.{decimal, line}

-- The first line holds the worker, field and event counts.
unfoldable pub trace_line : Counts → List ℕ
trace_line c = line (ascii "trace") (decimal c.workers ∷ decimal c.fields ∷ decimal c.events ∷ [])

-- A refused one prints one line only, `refused`, number, place.
unfoldable pub refused_line : ℕ → ℕ → List ℕ
refused_line number place = line (ascii "refused") (decimal number ∷ decimal place ∷ [])

-- the other worker's label, `-` if not recorded, which is worker 16
unfoldable pub other_label : List ℕ → ℕ → List ℕ
other_label file u = cond (eqb u 16) (ascii "-") (decimal (worker_label file u))

-- An accepted recording prints `ok` after the finder's name. The others hold event, sort, worker label, other worker's label and field label.
unfoldable pub verdict_line : List ℕ → List ℕ → Verdict → List ℕ
verdict_line file name accepted = line name (ascii "ok" ∷ [])
verdict_line file name (reported n s w u f) =
    line name (decimal n ∷ decimal s ∷ decimal (worker_label file w) ∷ other_label file u ∷ decimal (field_label file f) ∷ [])

-- the line of any answer of a finder
abbrev pub answer_line : List ℕ → List ℕ → Said → List ℕ
answer_line file name (answers.refused number place) = refused_line number place
answer_line file name (judged v) = verdict_line file name v

-- the three lines, with what the two finders said
unfoldable pub report_lines : List ℕ → Counts → Said → Said → List ℕ
report_lines file counts e l = trace_line counts ++ (answer_line file (ascii "early") e ++ answer_line file (ascii "late") l)

-- the one line of a refused file, or the three lines of any other
unfoldable pub printed_after : Fault → List ℕ → List ℕ
printed_after (Err r) file = refused_line (number_of r.reason) r.place
printed_after (Ok done) file = report_lines file (counts_in file) (judged (early_of file)) (judged (late_of file))

-- all that is printed for a file
unfoldable pub printed : List ℕ → List ℕ
printed file = printed_after (refusal true file) file
