-- Laws of one worker's column of the log, cleared from field 0 on.
use mathlib.Core.Path.{◌≡◌, refl, sym, ◌∙◌}
use mathlib.Core.Bool.{true, cond, ◌&&◌, and-false}
use mathlib.Core.List.{List}
use Prim.Native.Nat.{ℕ, zero, suc, ◌+◌, ◌*◌, ◌/◌, ◌%◌, ◌<◌, ◌≤◌}
use native.Mathlib.Omega.{arith}
use lib.Dec.{eqb, ltb}
use lib.ListN.{length, get_or, drop, length-set}
use lib.Seq.{drop-set-lt, set-get_or}
use borrow.Author.Tests.{eq-eqb, lt-ltb, le-ltb, ltb-true, ltb-false}
use Rattle.events.proofs.Tests.{bool, same}
use Rattle.tables.specs.Lent.{Shown}
use Rattle.tables.proofs.Lent.{shown_length, get_or-set, eqb_cell}
use Rattle.late.specs.Steps.{cleared}

module _ (d : List ℕ) (w : ℕ) where
  pub length-cleared : (n : ℕ) → length (cleared d w n) ≡ length d
  unfolding cleared
  length-cleared zero = refl
  length-cleared (suc n) = rw length-set (length-cleared n)

  module _ (b : w < 16) where
    pub drop-cleared : (full n : ℕ) → 16 * n ≤ full → drop full (cleared d w n) ≡ drop full d
    unfolding cleared
    drop-cleared full zero l = refl
    drop-cleared full (suc n) l = drop-set-lt full (cleared d w n) (16 * n + w) 0 (omega arith) ∙ drop-cleared full n (omega arith)

    -- the words of the column are 0, and the others stay
    pub get_or-cleared : (n i : ℕ) → 16 * n ≤ length d → get_or (cleared d w n) i 0 ≡ cond (eqb w (i % 16) && ltb (i / 16) n) 0 (get_or d i 0)
    unfolding cleared
    get_or-cleared zero i l = rw (le-ltb (i / 16) 0 (omega arith), and-false)
    get_or-cleared (suc n) i l =
        rw (get_or-set (cleared d w n) (16 * n + w) 0 i (omega (arith, length-cleared n)), eqb_cell n w i b, get_or-cleared n i (omega arith))
        (same n (i / 16)
        (λ q t. rw (t, lt-ltb (i / 16) (suc n) (omega arith), le-ltb (i / 16) n (omega arith), and-false) (bool (eqb w (i % 16)) (λ s. rw s) (λ s. rw s)))
        (λ q t. rw (t, further q)))
      where
        further : {n k : ℕ} → (n ≡ k → ⊥) → ltb k (suc n) ≡ ltb k n
        further {n} {k} q = bool (ltb k n) (λ s. rw s (lt-ltb k (suc n) (omega (arith, ltb-true k n s)))) (λ s. rw s (le-ltb k (suc n) (omega (arith, ltb-false k n s))))

    -- cleared again, it stays
    cleared_again : (n k : ℕ) → 16 * n ≤ length d → k ≤ n → cleared (cleared d w n) w k ≡ cleared d w n
    unfolding cleared
    cleared_again n zero l m = refl
    cleared_again n (suc k) l m =
        let in-column : eqb w ((16 * k + w) % 16) ≡ true = eq-eqb w ((16 * k + w) % 16) (omega arith) in
        let in_rows : ltb ((16 * k + w) / 16) n ≡ true = lt-ltb ((16 * k + w) / 16) n (omega arith) in
        let word : get_or (cleared d w n) (16 * k + w) 0 ≡ 0 = get_or-cleared n (16 * k + w) l ∙ rw (in-column, in_rows) in
        rw (cleared_again n k l (omega arith)) (rw word at (set-get_or (cleared d w n) (16 * k + w) 0))

    pub cleared_twice : (n : ℕ) → 16 * n ≤ length d → cleared (cleared d w n) w n ≡ cleared d w n
    cleared_twice n l = cleared_again n n l (omega arith)

    -- a table that shows words, with the column cleared
    pub shown_cleared : (full n : ℕ) (word word' : ℕ → ℕ) (lent : List ℕ) → Shown full word lent d → 16 * n ≤ full
        → ((i : ℕ) → i < full → word' i ≡ cond (eqb w (i % 16) && ltb (i / 16) n) 0 (word i)) → Shown full word' lent (cleared d w n)
    shown_cleared full n word word' lent s l q = record {
      long = s.long;
      same_length = length-cleared n ∙ s.same_length;
      words = λ i k. get_or-cleared n i (omega (arith, shown_length full word lent d s)) ∙ rw (s.words i k) (sym (q i k));
      past = drop-cleared full n l ∙ s.past;
    }
