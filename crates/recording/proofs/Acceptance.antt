-- What the check's answer says of the file, and that nothing else can be answered.
use mathlib.Core.Path.{◌≡◌, refl, sym, ◌∙◌, ap}
use mathlib.Core.Bool.{true, false}
use mathlib.Core.List.{List}
use Prim.Native.Nat.{ℕ}
use native.Mathlib.Omega.{arith}
use Rattle.recording.specs.declared.refusal.Refusal.{Refusal}
use Rattle.recording.specs.declared.refusal.Reason.TheVariants.{ShortTable}
use Rattle.recording.specs.Refusals.{Fault, refused}
use Rattle.std.specs.Prelude.{Result, Ok, Err}
use Rattle.recording.specs.declared.Counts.{Counts}
use Rattle.recording.specs.Tests.{need, ◌then◌, all_tests}
use Rattle.recording.specs.File.{refusal, counts_in, answered, checked, Accepted}
use Rattle.recording.specs.WellFormed.{WellFormed}
use Rattle.recording.proofs.WellFormed.{fine_well_formed, well_formed_fine}

module _ (s : List ℕ) (r : Result Counts Refusal) (q : r ≡ checked s) where
  pub fine_accepted : (c : Counts) → r ≡ Ok c → Accepted s c
  unfolding checked
  fine_accepted c k = by (refusal true s) refl (sym k ∙ q)
    where
      by : (x : Fault) → refusal true s ≡ x → Ok c ≡ answered x (counts_in s) → Accepted s c
      by (Ok done) e a =
          let z : c ≡ counts_in s = cc in
          record { fine = e; workers = ap (λ (d : Counts). d.workers) z; fields = ap (λ (d : Counts). d.fields) z; events = ap (λ (d : Counts). d.events) z }
      by (Err r) e a = let z : ◌≡◌ {A = ℕ} 0 1 = cc in absurd (omega arith)

  pub refused_refusal : (found : Refusal) → r ≡ Err found → refusal true s ≡ Err found
  unfolding checked
  refused_refusal found k = by (refusal true s) (sym k ∙ q)
    where
      by : (x : Fault) → Err found ≡ answered x (counts_in s) → x ≡ Err found
      by (Ok done) a = let z : ◌≡◌ {A = ℕ} 0 1 = cc in absurd (omega arith)
      by (Err r) a = cc

-- Test 11 comes before the file is looked at.
pub short_table : (s : List ℕ) → refusal false s ≡ refused ShortTable 0
unfolding refusal all_tests ◌then◌ need
short_table s = refl

-- The check accepts exactly the well-formed files.
module _ (s : List ℕ) where
  pub accepted_well_formed : (c : Counts) → checked s ≡ Ok c → WellFormed s
  accepted_well_formed c k = fine_well_formed s true (fine_accepted s (checked s) refl c k).fine

  pub well_formed_accepted : WellFormed s → checked s ≡ Ok (counts_in s)
  unfolding checked
  well_formed_accepted g = rw (well_formed_fine s g)

-- Any two answers that the check's statement allows are equal.
pub unique : (s : List ℕ) (r r' : Result Counts Refusal) → r ≡ checked s → r' ≡ checked s → r ≡ r'
unique s r r' p q = p ∙ sym q
