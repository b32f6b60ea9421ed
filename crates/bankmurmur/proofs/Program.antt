-- The lines that are formed for a file are what is printed for it, and input past the buffer changes nothing.
use mathlib.Core.Path.{◌≡◌, refl}
use mathlib.Core.Bool.{true}
use mathlib.Core.List.{List}
use Prim.Native.Nat.{ℕ}
use native.Mathlib.Omega.{arith}
use lib.ListN.{take}
use lib.Seq.{take_all}
use Rattle.std.specs.Prelude.{Result, Ok, Err}
use Rattle.recording.specs.declared.refusal.Refusal.{Refusal}
use Rattle.recording.specs.Refusals.{Fault, number_of}
use Rattle.recording.specs.declared.Counts.{Counts}
use Rattle.recording.specs.File.{refusal, checked, counts_in, Accepted}
use Rattle.recording.proofs.Acceptance.{fine_accepted, refused_refusal}
use Rattle.recording.proofs.WellFormed.{fine_well_formed}
use Rattle.recording.proofs.Longer.{longer_refusal}
use Rattle.tables.specs.declared.Objection.{Objection}
use Rattle.tables.specs.Answers.{said_by}
use Rattle.tables.specs.Finds.{early_of, late_of, said}
use Rattle.lines.specs.Text.{Starts}
use Rattle.lines.specs.Lines.{refused_line, report_lines, printed_after, printed}

module _ (file lent out : List ℕ) (n : ℕ) (r : Result Counts Refusal) (is : r ≡ checked file) where
  pub refused_printed : (found : Refusal) (number : ℕ) → r ≡ Err found → number ≡ number_of found.reason → Starts (refused_line number found.place) lent out n
      → Starts (printed file) lent out n
  unfolding printed printed_after
  refused_printed found number q e p = rw (refused_refusal file r is found q) (rw e at p)

  pub judged_printed : (counts : Counts) (e l : Result (Unit {0}) Objection) → r ≡ Ok counts → said_by e ≡ said (refusal true file) (early_of file)
      → said_by l ≡ said (refusal true file) (late_of file)
      → Starts (report_lines file counts (said_by e) (said_by l)) lent out n → Starts (printed file) lent out n
  unfolding printed printed_after
  judged_printed counts e l q early late p =
      let ok : Accepted file counts = fine_accepted file r is counts q in
      let same : counts ≡ counts_in file = λ i. record { workers = ok.workers i; fields = ok.fields i; events = ok.events i } in
      rw (ok.fine, ← same) (rw (early, late, ok.fine) at p)

-- The program uses at most 65,536 bytes of input, and its answer is that of the whole file.
pub whole_printed : (file : List ℕ) → printed (take 65536 file) ≡ printed file
unfolding printed printed_after
whole_printed file = by (refusal true file) refl
  where
    by : (x : Fault) → refusal true file ≡ x → printed_after (refusal true (take 65536 file)) (take 65536 file) ≡ printed_after (refusal true file) file
    by (Err r) e = rw (longer_refusal file 65536 (omega arith) true, e)
    by (Ok done) e =
        let good = fine_well_formed file true e in
        rw (take_all 65536 file (omega (arith, good.size, good.few_workers, good.few_fields, good.few_events)))
