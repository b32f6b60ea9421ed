-- The two finders' statements, and what is proved of the verdicts, give demand 3 of the finders themselves.
use mathlib.Core.Path.{◌≡◌, refl, sym, ◌∙◌, ap}
use mathlib.Core.Bool.{true}
use mathlib.Core.List.{List}
use Prim.Native.Nat.{ℕ}
use Rattle.events.specs.Verdicts.{Verdict}
use Rattle.events.specs.Reports as verdicts
use Rattle.events.proofs.Demands.{late_reports_too, late_not_before, late_at_once, late_by_crossing, late_by_end}
use Rattle.recording.specs.Refusals.{fine}
use Rattle.recording.specs.File.{events_in, event_count, worker_count, field_count, counts_in}
use Rattle.recording.specs.WellFormed.{WellFormed}
use Rattle.recording.proofs.Guarantee.{Guarantee, guarantee}
use Rattle.recording.proofs.WellFormed.{well_formed_fine}
use Rattle.flags.specs.Flags.{first_flag}
use Rattle.tables.specs.Answers.{Said, judged}
use Rattle.tables.specs.Finds.{early_of, late_of}
use Rattle.tables.proofs.Laws.{judged_same}
use Rattle.early.specs.Finds as early
use Rattle.late.specs.Finds as late
use Rattle.demands.specs.Together.{Reports, ReportsSome, ReportsBy, Together}

-- a report of the answer is one of the verdict
module _ (a : Said) (v : Verdict) (says : a ≡ judged v) where
  to_verdict : (n : ℕ) → Reports a n → verdicts.Reports v n
  to_verdict n r = record { sort = r.sort; worker = r.worker; other = r.other; field = r.field; says = judged_same (sym says ∙ r.says) }

  of_verdict : (n : ℕ) → verdicts.Reports v n → Reports a n
  of_verdict n r = record { sort = r.sort; worker = r.worker; other = r.other; field = r.field; says = says ∙ ap judged r.says }

  some_to : ReportsSome a → verdicts.ReportsSome v
  some_to r = record { event = r.event; reports = to_verdict r.event r.reports }

  some_of : verdicts.ReportsSome v → ReportsSome a
  some_of r = record { event = r.event; reports = of_verdict r.event r.reports }

  by_of : (m : ℕ) → verdicts.ReportsBy v m → ReportsBy a m
  by_of m r = record { event = r.event; reports = of_verdict r.event r.reports; in_time = r.in_time }

module _ (file : List ℕ) (good : WellFormed file)
    (S₀ Wr₀ Rd₀ : List ℕ) (full : early.full_tables S₀ Wr₀ Rd₀ ≡ true) (a : Said) (S Wr Rd : List ℕ) (x : early.Finds file S₀ Wr₀ Rd₀ a S Wr Rd)
    (S₁ Wr₁ Vr₁ Lg₁ : List ℕ) (full' : late.full_tables S₁ Wr₁ Vr₁ Lg₁ ≡ true) (b : Said) (S' Wr' Vr' Lg' : List ℕ) (y : late.Finds file S₁ Wr₁ Vr₁ Lg₁ b S' Wr' Vr' Lg') where
  certain : Guarantee file (counts_in file)
  certain = guarantee file (counts_in file) (record { fine = well_formed_fine file good; workers = refl; fields = refl; events = refl })

  early_says : a ≡ judged (early_of file)
  early_says = let passed : early.fault file S₀ Wr₀ Rd₀ ≡ fine = rw full (well_formed_fine file good) in rw passed at x.answers

  late_says : b ≡ judged (late_of file)
  late_says = let passed : late.fault file S₁ Wr₁ Vr₁ Lg₁ ≡ fine = rw full' (well_formed_fine file good) in rw passed at y.answers

  -- DEMAND 3 of `early::find` and `late::find`.
  pub together : Together file a b
  together =
      let W = worker_count file in
      let F = field_count file in
      let P = first_flag file in
      let es = events_in file in
      let v = early_of file in
      let l = late_of file in
      record {
        exactly =
            let e = late_reports_too W F P certain.few_workers es certain.within in
            (λ r. some_of a v early_says (e.0 (some_to b l late_says r)), λ r. some_of b l late_says (e.1 (some_to a v early_says r)));
        never_before = λ n m c r. late_not_before W F P certain.few_workers es certain.within n c m (to_verdict b l late_says m r);
        at_once = λ n c o. of_verdict b l late_says n (late_at_once W F P certain.few_workers es certain.within n c o);
        by_crossing = λ n w u f c wrote ne read m k s.
            by_of b l late_says m (late_by_crossing W F P certain.few_workers es certain.within n c w u f wrote ne read m k s);
        by_end = λ n c. by_of b l late_says (event_count file) (rw certain.count at (late_by_end W F P certain.few_workers es certain.within n c));
      }
