-- Stretch and writer words that show a history: what they say of open stretches is what the history says, and with an act entered they
-- show the longer history.
use mathlib.Core.Path.{◌≡◌, refl, sym, ◌∙◌}
use mathlib.Core.Bool.{true, not, ◌&&◌}
use mathlib.Core.List.{List, [], ◌∷◌}
use Prim.Native.Nat.{ℕ, ◌+◌, ◌*◌, ◌/◌, ◌%◌, ◌<◌, ◌≤◌}
use native.Mathlib.Numerals.{add-one}
use native.Mathlib.Omega.{arith}
use lib.Dec.{eqb, ltb}
use lib.ListN.{length, get_or}
use borrow.Author.Tests.{lt-ltb, le-ltb, eq-eqb, ne_eqb, ltb-true, ltb-false, eqb-true}
use Rattle.sorts.specs.Words.{joined}
use Rattle.events.specs.Acts.{Act, History, reads, writes, crosses}
use Rattle.events.specs.Stretches.{stretch_of, has_written}
use Rattle.events.specs.Clashes.{OnWritten}
use Rattle.events.specs.Words.{stretch_word, writer_word}
use Rattle.events.specs.Verdicts.{other_writer}
use Rattle.events.proofs.Tests.{bool, same, and_right}
use Rattle.events.proofs.Search.{lowest_only}
use Rattle.events.proofs.Histories.{ActWithin, ActsWithin, No}
use Rattle.events.proofs.Stretches.{stretch_above, unused_written}
use Rattle.events.proofs.Words.{has_written_lem}
use Rattle.tables.specs.Lent.{filled, Shown}
use Rattle.tables.specs.Steps.{is_open, writer_named, writer_by, stretch_with, writer_with}
use Rattle.tables.proofs.Lent.{shown_same, shown_set, shown_filled, shown_filled_more}
use Rattle.tables.proofs.Laws.{open_over}

-- a number of a worker below the count is open exactly if it is the stretch word
open_is : (W : ℕ) (S : List ℕ) (w n s : ℕ) → w < W → get_or S w 0 ≡ s → 0 < s → is_open W S w n ≡ eqb n s
unfolding is_open
open_is W S w n s l q a =
    rw (lt-ltb w W l, q)
    (bool (ltb 0 n) (λ e. rw e) (λ e. rw (e, ne_eqb n s (λ k. omega (arith, ltb-false 0 n e)))))

module _ (W : ℕ) (few : W ≤ 16) (h : History) (S₀ S : List ℕ) (stretch : Shown 16 (stretch_word W h) S₀ S) where
  pub shown_stretch : (w : ℕ) → w < W → get_or S w 0 ≡ stretch_of h w
  unfolding stretch_word
  shown_stretch w l = stretch.words w (omega arith) ∙ rw (lt-ltb w W l)

  pub shown_open : (w n : ℕ) → w < W → is_open W S w n ≡ eqb n (stretch_of h w)
  shown_open w n l = open_is W S w n (stretch_of h w) l (shown_stretch w l) (stretch_above h w)

  pub stretch_with_lem : (a : Act) → ActWithin W 512 a → Shown 16 (stretch_word W (a ∷ h)) S₀ (stretch_with S a)
  unfolding stretch_with stretch_word stretch_of
  stretch_with_lem (reads w f) i = stretch
  stretch_with_lem (writes w f) i = stretch
  stretch_with_lem (crosses w) i =
      shown_set 16 (stretch_word W h) S₀ (stretch_word W (crosses w ∷ h)) S w (get_or S w 0 + 1) stretch (omega arith) (λ u b.
      same w u
      (λ q t. rw (t, ← q, lt-ltb w W i, shown_stretch w i, add-one))
      (λ _ t. rw t))

  module _ (inside : ActsWithin W 512 h) (Wr₀ Wr : List ℕ) (writer : Shown 512 (writer_word h) Wr₀ Wr) where
    pub writer_with_lem : (a : Act) → ActWithin W 512 a → Shown 512 (writer_word (a ∷ h)) Wr₀ (writer_with S Wr a)
    unfolding writer_with writer_word
    writer_with_lem (reads w f) i = writer
    writer_with_lem (writes w f) i =
        shown_set 512 (writer_word h) Wr₀ (writer_word (writes w f ∷ h)) Wr f (joined (get_or S w 0) w) writer i.1 (λ g b. rw (shown_stretch w i.0))
    writer_with_lem (crosses w) i = writer

    -- as long as no access has met another worker's open stretch that had written its field
    module _ (calm : No OnWritten h) where
      write_open : (f k : ℕ) → k < 16 → writer_word h f % 16 ≡ k → is_open W S k (writer_word h f / 16) ≡ has_written h k f
      write_open f k b q =
          bool (ltb k W)
          (λ t.
          rw (has_written_lem W 512 few h inside calm k f b, shown_open k (writer_word h f / 16) (ltb-true k W t))
          (same (writer_word h f / 16) (stretch_of h k)
          (λ p e. rw e (sym (eq-eqb (writer_word h f) (16 * stretch_of h k + k) (omega arith))))
          (λ p e. rw e (sym (ne_eqb (writer_word h f) (16 * stretch_of h k + k) (λ z. p (omega arith)))))))
          (λ t. let l = ltb-false k W t in rw (unused_written W 512 h inside k f l) (sym (open_over W S k (writer_word h f / 16) l)))

      pub writer_shown : (w f : ℕ) → f < 512 → writer_by W S Wr w f ≡ other_writer h w f
      unfolding writer_named
      writer_shown w f a =
          rw (writer.words f a, write_open f (writer_word h f % 16) (omega arith) refl)
          (sym (lowest_only (λ u. not (eqb u w) && has_written h u f) 0 16 (writer_word h f % 16) (omega arith) (omega arith) (λ u _ l t. omega (arith, only u l (and_right (not (eqb u w)) (has_written h u f) t)))))
        where
          only : (u : ℕ) → u < 16 → has_written h u f ≡ true → writer_word h f ≡ 16 * stretch_of h u + u
          only u l t = eqb-true (writer_word h f) (16 * stretch_of h u + u) (sym (has_written_lem W 512 few h inside calm u f l) ∙ t)

-- the tables before event 0: a 1 for each worker, and 0 elsewhere
pub stretch_at_start : (W : ℕ) (S S₁ S₂ : List ℕ) → W ≤ 16 → 16 ≤ length S → S₁ ≡ filled 16 0 S → S₂ ≡ filled W 1 S₁ → Shown 16 (stretch_word W []) S S₂
unfolding stretch_word stretch_of
stretch_at_start W S S₁ S₂ few l p q =
    rw (q, p)
    (shown_filled_more 16 W 1 (λ i. 0) S (filled 16 0 S) (shown_filled 16 0 S l) few (stretch_word W [])
    (λ i b. rw (lt-ltb i W b))
    (λ i b. rw (le-ltb i W b)))

pub zero_at_start : (full : ℕ) (word : ℕ → ℕ) (l l₁ : List ℕ) → full ≤ length l → l₁ ≡ filled full 0 l → ((i : ℕ) → word i ≡ 0) → Shown full word l l₁
zero_at_start full word l l₁ b q z = rw q (shown_same full (λ i. 0) l word (filled full 0 l) (shown_filled full 0 l b) (λ i _. z i))
