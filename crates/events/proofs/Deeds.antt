-- Laws of what an event does: its deed by its kind and field, and the events that close a stretch by their acts.
use mathlib.Core.Path.{◌≡◌, refl, ◌∙◌}
use mathlib.Core.Bool.{true, cond, ◌&&◌}
use mathlib.Core.List.{List, [], ◌∷◌}
use Prim.Native.Nat.{ℕ, ◌+◌, ◌<◌, ◌≤◌}
use native.Mathlib.Omega.{arith}
use lib.Dec.{eqb, leb, T}
use borrow.Author.Tests.{le-leb, lt-leb, eq-eqb, eqb-true}
use Rattle.sorts.specs.declared.Worker.{Worker}
use Rattle.sorts.specs.declared.Field.{Field}
use Rattle.sorts.specs.Words.{joined}
use Rattle.events.specs.declared.Event.{Event}
use Rattle.events.specs.declared.Event.TheVariants.{Read, Write, Crossing}
use Rattle.events.specs.declared.Deed.{Deed}
use Rattle.events.specs.declared.Deed.TheVariants.{Reads, Writes, Crosses, Signals}
use Rattle.events.specs.Acts.{Act, History, access_does, deed_of, acts_of, entered, reads, writes, crosses}
use Rattle.events.specs.Stretches.{stretch_of}
use Rattle.events.specs.Clashes.{Clash, Some, here, later}
use Rattle.events.specs.Words.{writer_word, readers_word, version_word, log_word}
use Rattle.events.specs.Positions.{closes, event_worker, rise}
use Rattle.events.specs.Reports as said
use Rattle.events.proofs.Tests.{bool, of_T, and_left, and_right}
use Rattle.events.proofs.Stretches.{crossing_calm}

-- what an access does, once the code has tested its field
module _ (P : ℕ) (w : Worker) (f : Field) (d : Deed) where
  pub of_flag : P ≤ f.0 → Signals w ≡ access_does P w f d
  of_flag l = rw (le-leb P f.0 l)

  pub of_plain : f.0 < P → d ≡ access_does P w f d
  of_plain l = rw (lt-leb P f.0 l)

-- what an event does, once the code has found its kind
module _ (P : ℕ) (e : Event) (w : Worker) where
  pub by_read : (f : Field) (d : Deed) → e ≡ Read w f → d ≡ access_does P w f (Reads w f) → d ≡ deed_of P e
  by_read f d q x = rw q x

  pub by_write : (f : Field) (d : Deed) → e ≡ Write w f → d ≡ access_does P w f (Writes w f) → d ≡ deed_of P e
  by_write f d q x = rw q x

  pub by_crossing : e ≡ Crossing w → Crosses w ≡ deed_of P e
  by_crossing q = rw q

-- the acts of an event that closes u's stretch: one crossing at a lock, two at a flag
data OnlyCrosses (u : ℕ) : List Act → Type 0 where
  once : OnlyCrosses u (crosses u ∷ [])
  twice : OnlyCrosses u (crosses u ∷ crosses u ∷ [])

module _ (P u : ℕ) where
  abbrev acts : Event → List Act
  acts e = acts_of (deed_of P e)

  both_hold : (w g : ℕ) → T (leb P g && eqb w u) → (leb P g ≡ true) × (w ≡ u)
  both_hold w g t =
      let b = of_T (leb P g && eqb w u) t in
      (and_left (leb P g) (eqb w u) b, eqb-true w u (and_right (leb P g) (eqb w u) b))

  only_crosses : (e : Event) → T (closes P u e) → OnlyCrosses u (acts e)
  only_crosses (Read w f) t = let b = both_hold w.0 f.0 t in rw (b.0, b.1) twice
  only_crosses (Write w f) t = let b = both_hold w.0 f.0 t in rw (b.0, b.1) twice
  only_crosses (Crossing w) t = rw (eqb-true w.0 u (of_T (eqb w.0 u) t)) once

  pub closes_crosses : (e : Event) → T (closes P u e) → Some (said.Crosses u) (acts e)
  closes_crosses e t = go (only_crosses e t)
    where
      go : {a : List Act} → OnlyCrosses u a → Some (said.Crosses u) a
      go once = here refl
      go twice = here refl

  -- and no other event does
  lock_of : (w : ℕ) → Some (said.Crosses u) (crosses w ∷ []) → w ≡ u
  lock_of w (here q) = cc
  lock_of w (later s) = elim s [ ]

  flag_of : (w : ℕ) → Some (said.Crosses u) (crosses w ∷ crosses w ∷ []) → w ≡ u
  flag_of w (here q) = cc
  flag_of w (later s) = lock_of w s

  access_not : (a : Act) → (said.Crosses u a → ⊥) → Some (said.Crosses u) (a ∷ []) → ⊥
  access_not a z (here q) = z q
  access_not a z (later s) = elim s [ ]

  pub crosses_closes : (e : Event) → Some (said.Crosses u) (acts e) → T (closes P u e)
  crosses_closes (Read w f) s =
      bool (leb P f.0)
      (λ t. rw (t, eq-eqb w.0 u (flag_of w.0 (rw t at s))) tt)
      (λ t. absurd (access_not (reads w.0 f.0) (λ q. let z : ◌≡◌ {A = ℕ} 0 1 = cc in omega arith) (rw t at s)))
  crosses_closes (Write w f) s =
      bool (leb P f.0)
      (λ t. rw (t, eq-eqb w.0 u (flag_of w.0 (rw t at s))) tt)
      (λ t. absurd (access_not (writes w.0 f.0) (λ q. let z : ◌≡◌ {A = ℕ} 0 1 = cc in omega arith) (rw t at s)))
  crosses_closes (Crossing w) s = rw (eq-eqb w.0 u (lock_of w.0 s)) tt

  pub closing_calm : (h : History) (e : Event) → T (closes P u e) → Some (Clash h) (acts e) → ⊥
  closing_calm h e t = go (only_crosses e t)
    where
      go : {a : List Act} → OnlyCrosses u a → Some (Clash h) a → ⊥
      go once (here c) = crossing_calm c
      go once (later s) = elim s [ ]
      go twice (here c) = crossing_calm c
      go twice (later (here c)) = crossing_calm c
      go twice (later (later s)) = elim s [ ]

  -- it clears its worker's log words, and no other word of these tables changes
  module _ (h : History) (e : Event) (t : T (closes P u e)) (f : ℕ) where
    kept : (word : History → ℕ) → ((g : History) → word (crosses u ∷ g) ≡ word g) → word (entered h (acts e)) ≡ word h
    unfolding entered
    kept word k = go (only_crosses e t)
      where
        go : {a : List Act} → OnlyCrosses u a → word (entered h a) ≡ word h
        go once = k h
        go twice = k (crosses u ∷ h) ∙ k h

    pub writer_kept : writer_word (entered h (acts e)) f ≡ writer_word h f
    unfolding writer_word
    writer_kept = kept (λ g. writer_word g f) (λ g. refl)

    pub version_kept : version_word (entered h (acts e)) f ≡ version_word h f
    unfolding version_word
    version_kept = kept (λ g. version_word g f) (λ g. refl)

    pub readers_kept : (w : ℕ) → readers_word (entered h (acts e)) f w ≡ readers_word h f w
    unfolding readers_word
    readers_kept w = kept (λ g. readers_word g f w) (λ g. refl)

    pub log_cleared : (w : ℕ) → log_word (entered h (acts e)) f w ≡ cond (eqb u w) 0 (log_word h f w)
    unfolding entered log_word
    log_cleared w = go (only_crosses e t)
      where
        go : {a : List Act} → OnlyCrosses u a → log_word (entered h a) f w ≡ cond (eqb u w) 0 (log_word h f w)
        go once = refl
        go twice = bool (eqb u w) (λ s. rw s) (λ s. rw s)

-- how far an event raises a worker's stretch number
module _ (h : History) (w u : ℕ) where
  flag_rises : stretch_of (crosses w ∷ crosses w ∷ h) u ≡ stretch_of h u + cond (eqb w u) 2 0
  unfolding stretch_of
  flag_rises = bool (eqb w u) (λ s. rw s (omega arith)) (λ s. rw s (omega arith))

  lock_rises : stretch_of (crosses w ∷ h) u ≡ stretch_of h u + cond (eqb w u) 1 0
  unfolding stretch_of
  lock_rises = bool (eqb w u) (λ s. rw s (omega arith)) (λ s. rw s (omega arith))

  plain_stays : stretch_of h u ≡ stretch_of h u + cond (eqb w u) 0 0
  plain_stays = bool (eqb w u) (λ s. rw s (omega arith)) (λ s. rw s (omega arith))

pub stretch_rises : (P : ℕ) (h : History) (e : Event) (u : ℕ)
    → stretch_of (entered h (acts_of (deed_of P e))) u ≡ stretch_of h u + cond (eqb (event_worker e) u) (rise P e) 0
unfolding entered stretch_of
stretch_rises P h (Read w f) u = bool (leb P f.0) (λ t. rw t (flag_rises h w.0 u)) (λ t. rw t (plain_stays h w.0 u))
stretch_rises P h (Write w f) u = bool (leb P f.0) (λ t. rw t (flag_rises h w.0 u)) (λ t. rw t (plain_stays h w.0 u))
stretch_rises P h (Crossing w) u = lock_rises h w.0 u

-- what number an access of a plain field bears in the tables
module _ (P : ℕ) (h : History) (w : Worker) (f : Field) (plain : f.0 < P) where
  pub write_number : writer_word (entered h (acts_of (deed_of P (Write w f)))) f.0 ≡ joined (stretch_of h w.0) w.0
  unfolding entered writer_word
  write_number = rw (lt-leb P f.0 plain, eq-eqb f.0 f.0 refl)

  pub read_number : readers_word (entered h (acts_of (deed_of P (Read w f)))) f.0 w.0 ≡ stretch_of h w.0
  unfolding entered readers_word
  read_number = rw (lt-leb P f.0 plain, eq-eqb f.0 f.0 refl, eq-eqb w.0 w.0 refl)
