-- Laws of the definitions in Steps and Answers, over plain numbers and lists.
use mathlib.Core.Path.{◌≡◌}
use mathlib.Core.Bool.{false, and-false}
use mathlib.Core.List.{List, [], ◌∷◌}
use Prim.Native.Nat.{ℕ, ◌+◌, ◌<◌, ◌≤◌}
use native.Mathlib.Omega.{arith}
use lib.Dec.{eqb}
use lib.ListN.{length, get_or, set}
use lib.Seq.{get_or-set_same}
use Rattle.std.proofs.lemmas.List.{set-set}
use borrow.Author.Tests.{lt-ltb, le-ltb}
use Rattle.events.specs.Acts.{crosses}
use Rattle.events.proofs.Tests.{same}
use Rattle.events.specs.Verdicts as papers
use Rattle.tables.specs.Answers.{judged}
use Rattle.tables.specs.Steps.{is_open, stretch_with, stretch_after}

module _ (W : ℕ) (S : List ℕ) (w n : ℕ) where
  -- a stretch of number 0 is never open, so it makes no difference which of two equal numbers is tested for 0
  pub open_zero : get_or S w 0 ≡ 0 → false ≡ is_open W S w n
  unfolding is_open
  open_zero z = same n (get_or S w 0) (λ q _. simp (le-ltb 0 n (omega arith), and-false)) (λ _ t. simp (t, and-false))

  pub open_same : w < W → (get_or S w 0 ≡ 0 → ⊥) → eqb n (get_or S w 0) ≡ is_open W S w n
  unfolding is_open
  open_same a z = same n (get_or S w 0) (λ q _. simp (lt-ltb w W a, lt-ltb 0 n (omega arith))) (λ _ t. simp (t, and-false))

  pub open_over : W ≤ w → false ≡ is_open W S w n
  unfolding is_open
  open_over a = simp (le-ltb w W a)

-- two crossings raise a worker's word by two
pub stretch_flag : (S : List ℕ) (w : ℕ) → w < length S → set S w (get_or S w 0 + 2) ≡ stretch_after S (crosses w ∷ crosses w ∷ [])
unfolding stretch_after stretch_with
stretch_flag S w l =
    let two : get_or S w 0 + 2 ≡ get_or S w 0 + 1 + 1 = omega arith in
    rw (get_or-set_same S w (get_or S w 0 + 1) 0 l, set-set S w (get_or S w 0 + 1) (get_or S w 0 + 1 + 1), two)

pub judged_same : {v v' : papers.Verdict} → judged v ≡ judged v' → v ≡ v'
judged_same q = cc
