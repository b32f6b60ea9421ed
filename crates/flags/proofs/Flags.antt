-- What the number of the first flag says of the fields: those from it on are exactly the flags, since labels rise.
use mathlib.Core.Path.{◌≡◌}
use mathlib.Core.Bool.{Bool}
use mathlib.Core.List.{List}
use Prim.Native.Nat.{ℕ, zero, suc, ◌+◌, ◌-◌, ◌<◌, ◌≤◌}
use native.Mathlib.Omega.{arith}
use lib.Dec.{leb}
use borrow.Author.Tests.{leb-true, leb-false}
use Rattle.events.specs.Search.{lowest}
use Rattle.events.specs.Reports.{Exactly}
use Rattle.events.proofs.Tests.{bool}
use Rattle.events.proofs.Search.{found, lowest_at, lowest_below, lowest_none, none_pass}
use Rattle.recording.specs.declared.Counts.{Counts}
use Rattle.recording.specs.File.{field_count, field_label, Accepted}
use Rattle.recording.specs.WellFormed.{WellFormed}
use Rattle.flags.specs.Flags.{is_flag, flags_from, first_flag}

-- for labels in any order
module _ (label : ℕ → ℕ) (F : ℕ) where
  test : ℕ → Bool
  test f = is_flag (label f)

  -- at most the field count: a number found past it would mean that no field passes
  pub first_flag_low : flags_from label F ≤ F
  unfolding flags_from test
  first_flag_low =
      found (lowest test 0 F)
      (λ u e. rw e (bool (leb u F) (leb-true u F)
      (λ t.
      let past = leb-false u F t in
      let q = none_pass test 0 F (λ f _ l. lowest_below test 0 F u f e (omega arith) (omega arith)) in
      let z : ◌≡◌ {A = ℕ} 0 1 = cc in
      absurd (omega arith))))
      (λ e. rw e (omega arith))

  -- it is a flag, unless the field count stands for it
  pub first_flag_is_flag : flags_from label F < F → 32768 ≤ label (flags_from label F)
  unfolding flags_from test
  first_flag_is_flag l =
      found (lowest test 0 F)
      (λ u e. rw e (leb-true 32768 (label u) (lowest_at test 0 F u e)))
      (λ e. let m : F < F = rw e at l in absurd (omega arith))

  -- no field before it is one
  pub plain_before : (f : ℕ) → f < flags_from label F → label f < 32768
  unfolding flags_from test
  plain_before f l =
      leb-false 32768 (label f)
      (found (lowest test 0 F)
      (λ u e. lowest_below test 0 F u f e (omega arith) (rw e at l))
      (λ e. let m : f < F = rw e at l in lowest_none test 0 F e f (omega arith) (omega arith)))

-- for labels that rise
module _ (label : ℕ → ℕ) (F : ℕ) (rise : (f : ℕ) → f + 1 < F → label f < label (f + 1)) where
  risen : (f k : ℕ) → f + k < F → label f ≤ label (f + k)
  risen f zero l = let z : f + 0 ≡ f = omega arith in rw z (omega arith)
  risen f (suc k) l =
      let z : f + k + 1 ≡ f + suc k = omega arith in
      let before = risen f k (omega arith) in
      let step = rise (f + k) (omega arith) in
      rw (← z) (omega arith)

  pub flags_from_there : (f : ℕ) → f < F → Exactly (flags_from label F ≤ f) (32768 ≤ label f)
  flags_from_there f l = (after, before)
    where
      first : ℕ
      first = flags_from label F

      after : first ≤ f → 32768 ≤ label f
      after a =
          let z : first + (f - first) ≡ f = omega arith in
          let flag = first_flag_is_flag label F (omega arith) in
          let up = rw z at (risen first (f - first) (omega arith)) in
          omega arith

      before : 32768 ≤ label f → first ≤ f
      before a =
          bool (leb first f) (leb-true first f)
          (λ t. let plain = plain_before label F f (leb-false first f t) in absurd (omega arith))

-- In a well-formed file the fields from that number on are exactly the flags.
pub flags_in_file : (file : List ℕ) → WellFormed file → (f : ℕ) → f < field_count file → Exactly (first_flag file ≤ f) (32768 ≤ field_label file f)
unfolding first_flag
flags_in_file file g = flags_from_there (field_label file) (field_count file) g.fields_rise

-- It is at most the field count.
pub plain_in_file : (file : List ℕ) → first_flag file ≤ field_count file
unfolding first_flag
plain_in_file file = first_flag_low (field_label file) (field_count file)

-- With the field count that the check gave, the number is that of the file's first flag.
pub accepted_first_flag : (file : List ℕ) (counts : Counts) (r : ℕ) → Accepted file counts → r ≡ flags_from (field_label file) counts.fields → r ≡ first_flag file
unfolding first_flag
accepted_first_flag file counts r ok q = rw ok.fields at q
