-- The texts that a line is put together from, one after another, are the line.
use mathlib.Core.Path.{◌≡◌}
use mathlib.Core.Bool.{Bool, true, false}
use lib.Dec.{eqb}
use mathlib.Core.List.{List, [], ◌∷◌, ◌++◌}
use Prim.Native.Nat.{ℕ, ◌+◌, ◌≤◌}
use native.Mathlib.Omega.{arith}
use lib.ListN.{length}
use Rattle.recording.specs.declared.Counts.{Counts}
use Rattle.recording.specs.File.{worker_label, field_label}
use Rattle.std.specs.Prelude.{Result, Ok, Err}
use Rattle.tables.specs.declared.Report.{Report}
use Rattle.tables.specs.declared.Objection.{Objection}
use Rattle.tables.specs.declared.Objection.TheVariants.{Refused, Reported}
use Rattle.tables.specs.Answers.{report_of, said_by}
use Rattle.byte_rows.specs.Characters.{ascii}
use Rattle.lines.specs.Text.{decimal, rest, line, Puts, Starts}
use Rattle.lines.specs.Lines.{trace_line, refused_line, other_label, verdict_line, answer_line, report_lines}
use Rattle.lines.proofs.Text.{then_puts, looser, puts_starts}

module _ (file : List ℕ) (u : ℕ) (lent : List ℕ) (at : ℕ) (out : List ℕ) (next : ℕ) where
  pub other_unknown : (b : Bool) → b ≡ eqb u 16 → b ≡ true → Puts 2 (ascii " -") lent at out next → Puts 21 (ascii " " ++ other_label file u) lent at out next
  unfolding other_label
  other_unknown b e q p = rw (← e, q) (looser 21 (omega arith) p)

  pub other_known : (b : Bool) → b ≡ eqb u 16 → b ≡ false → (label : ℕ) → label ≡ worker_label file u → Puts 21 (ascii " " ++ decimal label) lent at out next
      → Puts 21 (ascii " " ++ other_label file u) lent at out next
  unfolding other_label
  other_known b e z label q p = rw (← e, z, ← q) p

module _ (lent : List ℕ) (at : ℕ) (o₁ : List ℕ) (n₁ : ℕ) (o₂ : List ℕ) (n₂ : ℕ) (o₃ : List ℕ) (n₃ : ℕ) (o₄ : List ℕ) (n₄ : ℕ) where
  pub refused_put : (number place : ℕ) → at + 50 ≤ length lent → Puts 7 (ascii "refused") lent at o₁ n₁ → Puts 21 (ascii " " ++ decimal number) o₁ n₁ o₂ n₂
      → Puts 21 (ascii " " ++ decimal place) o₂ n₂ o₃ n₃ → Puts 1 (ascii "\n") o₃ n₃ o₄ n₄
      → Puts 50 (refused_line number place) lent at o₄ n₄
  unfolding refused_line line rest
  refused_put number place room word a b end = then_puts 43 word room (λ r. then_puts 22 a r (λ r. then_puts 1 b r (λ _. end)))

  pub trace_put : (counts : Counts) (o₅ : List ℕ) (n₅ : ℕ) → at + 69 ≤ length lent → Puts 5 (ascii "trace") lent at o₁ n₁
      → Puts 21 (ascii " " ++ decimal counts.workers) o₁ n₁ o₂ n₂ → Puts 21 (ascii " " ++ decimal counts.fields) o₂ n₂ o₃ n₃
      → Puts 21 (ascii " " ++ decimal counts.events) o₃ n₃ o₄ n₄ → Puts 1 (ascii "\n") o₄ n₄ o₅ n₅
      → Puts 69 (trace_line counts) lent at o₅ n₅
  unfolding trace_line line rest
  trace_put counts o₅ n₅ room word a b c end =
      then_puts 64 word room (λ r. then_puts 43 a r (λ r. then_puts 22 b r (λ r. then_puts 1 c r (λ _. end))))

pub labels_put : (file : List ℕ) (w u f label label' : ℕ) (lent : List ℕ) (at : ℕ) (o₁ : List ℕ) (n₁ : ℕ) (o₂ : List ℕ) (n₂ : ℕ) (o₃ : List ℕ) (n₃ : ℕ) (o₄ : List ℕ) (n₄ : ℕ)
    → label ≡ worker_label file w → label' ≡ field_label file f → at + 64 ≤ length lent
    → Puts 21 (ascii " " ++ decimal label) lent at o₁ n₁ → Puts 21 (ascii " " ++ other_label file u) o₁ n₁ o₂ n₂
    → Puts 21 (ascii " " ++ decimal label') o₂ n₂ o₃ n₃ → Puts 1 (ascii "\n") o₃ n₃ o₄ n₄
    → Puts 64 (rest (decimal (worker_label file w) ∷ other_label file u ∷ decimal (field_label file f) ∷ [])) lent at o₄ n₄
unfolding rest
labels_put file w u f label label' lent at o₁ n₁ o₂ n₂ o₃ n₃ o₄ n₄ q q' room a b c end =
    rw (← q, ← q') (then_puts 43 a room (λ r. then_puts 22 b r (λ r. then_puts 1 c r (λ _. end))))

-- the line of an answer, after the finder's name
module _ (file name lent : List ℕ) (at : ℕ) (o₁ : List ℕ) (n₁ : ℕ) (o₂ : List ℕ) (n₂ : ℕ) (small : length name ≤ 5) (room : at + 111 ≤ length lent) where
  pub ok_put : (answer : Result (Unit {0}) Objection) → answer ≡ Ok tt → Puts (length name) name lent at o₁ n₁ → Puts 4 (ascii " ok\n") o₁ n₁ o₂ n₂
      → Puts 111 (answer_line file name (said_by answer)) lent at o₂ n₂
  unfolding verdict_line line rest
  ok_put answer q word end = rw q (looser 111 (omega arith) (then_puts 4 word (omega arith) (λ _. end)))

  pub reported_put : (r : Report) (o₃ : List ℕ) (n₃ : ℕ) (o₄ : List ℕ) (n₄ : ℕ)
      → Puts (length name) name lent at o₁ n₁ → Puts 21 (ascii " " ++ decimal r.event) o₁ n₁ o₂ n₂ → Puts 21 (ascii " " ++ decimal r.sort) o₂ n₂ o₃ n₃
      → Puts 64 (rest (decimal (worker_label file r.worker.0) ∷ other_label file r.other.0 ∷ decimal (field_label file r.field.0) ∷ [])) o₃ n₃ o₄ n₄
      → Puts 111 (verdict_line file name (report_of r)) lent at o₄ n₄
  unfolding verdict_line line rest
  reported_put r o₃ n₃ o₄ n₄ word a b labels = then_puts 106 (looser 5 small word) room (λ r. then_puts 85 a r (λ r. then_puts 64 b r (λ _. labels)))

  pub refused_answer : (answer : Result (Unit {0}) Objection) (number place : ℕ) → answer ≡ Err (Refused number place)
      → Puts 50 (refused_line number place) lent at o₁ n₁
      → Puts 111 (answer_line file name (said_by answer)) lent at o₁ n₁
  refused_answer answer number place q p = rw q (looser 111 (omega arith) p)

  pub reported_answer : (answer : Result (Unit {0}) Objection) (r : Report) → answer ≡ Err (Reported r)
      → Puts 111 (verdict_line file name (report_of r)) lent at o₁ n₁
      → Puts 111 (answer_line file name (said_by answer)) lent at o₁ n₁
  reported_answer answer r q p = rw q p

pub report_put : (file : List ℕ) (counts : Counts) (e l : Result (Unit {0}) Objection) (lent o₁ : List ℕ) (n₁ : ℕ) (o₂ : List ℕ) (n₂ : ℕ) (o₃ : List ℕ) (n₃ : ℕ) → length lent ≡ 512
    → Puts 69 (trace_line counts) lent 0 o₁ n₁ → Puts 111 (answer_line file (ascii "early") (said_by e)) o₁ n₁ o₂ n₂
    → Puts 111 (answer_line file (ascii "late") (said_by l)) o₂ n₂ o₃ n₃
    → Starts (report_lines file counts (said_by e) (said_by l)) lent o₃ n₃
unfolding report_lines
report_put file counts e l lent o₁ n₁ o₂ n₂ o₃ n₃ long a b c =
    puts_starts (omega arith) (then_puts 222 a (omega arith) (λ r. then_puts 111 b r (λ _. c)))

pub refused_only : (number place : ℕ) (lent out : List ℕ) (n : ℕ) → length lent ≡ 512 → Puts 50 (refused_line number place) lent 0 out n
    → Starts (refused_line number place) lent out n
refused_only number place lent out n long p = puts_starts (omega arith) p
