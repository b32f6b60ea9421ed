-- Laws of what open stretches have read and written: whose acts matter, and workers that do not exist.
use mathlib.Core.Path.{◌≡◌, refl, sym, ◌∙◌}
use mathlib.Core.Bool.{false, and-false}
use mathlib.Core.List.{List, [], ◌∷◌}
use Prim.Native.Nat.{ℕ, zero, suc, ◌+◌, ◌*◌, ◌<◌, ◌≤◌}
use native.Mathlib.Omega.{arith}
use lib.Dec.{eqb}
use lib.ListN.{length, get_or}
use borrow.Author.Tests.{ne_eqb}
use Rattle.events.specs.declared.Event.{Event}
use Rattle.events.specs.Acts.{Act, History, recording_of, entered, before, worker_of, reads, writes, crosses}
use Rattle.events.specs.Stretches.{stretch_of, has_read, has_written}
use Rattle.events.specs.Clashes.{Clash, write_after_write, write_after_read, read_after_write, OnWritten, write_on_written, read_on_written, Some, here, later}
use Rattle.events.proofs.Tests.{bool}
use Rattle.events.proofs.Histories.{ActsWithin, event_short, before_next}

-- each crossing raises a stretch's number by one, from 1 on
pub stretch_above : (h : History) (w : ℕ) → 0 < stretch_of h w
unfolding stretch_of
stretch_above [] w = omega arith
stretch_above (reads u g ∷ h) w = stretch_above h w
stretch_above (writes u g ∷ h) w = stretch_above h w
stretch_above (crosses u ∷ h) w = let l = stretch_above h w in bool (eqb u w) (λ e. rw e (omega arith)) (λ e. rw e l)

stretch_next : (a : Act) (h : History) (w : ℕ) → stretch_of (a ∷ h) w ≤ stretch_of h w + 1
unfolding stretch_of
stretch_next (reads u g) h w = omega arith
stretch_next (writes u g) h w = omega arith
stretch_next (crosses u) h w = bool (eqb u w) (λ e. rw e (omega arith)) (λ e. rw e (omega arith))

pub stretch_entered : (h : History) (e : List Act) (w : ℕ) → stretch_of (entered h e) w ≤ stretch_of h w + length e
unfolding entered
stretch_entered h [] w = omega arith
stretch_entered h (a ∷ more) w =
    let x = stretch_entered (a ∷ h) more w in
    let y = stretch_next a h w in
    omega arith

-- an event has at most two acts, so a stretch's number is at most 1 plus twice the events so far
pub stretch_low : (P : ℕ) (es : List Event) (n w : ℕ) → stretch_of (before [] (recording_of P es) n) w ≤ 2 * n + 1
unfolding before stretch_of
stretch_low P es zero w = omega arith
stretch_low P es (suc n) w =
    let x = stretch_low P es n w in
    let y = stretch_entered (before [] (recording_of P es) n) (get_or (recording_of P es) n []) w in
    let z = event_short P es n in
    rw before_next (omega arith)

module _ (a : Act) (h : History) (u f : ℕ) (ne : u ≡ worker_of a → ⊥) where
  differ : eqb (worker_of a) u ≡ false
  differ = ne_eqb (worker_of a) u (λ q. ne (sym q))

-- an act of another worker changes nothing of what u's open stretch has read or written
pub other_read : (a : Act) (h : History) (u f : ℕ) → (u ≡ worker_of a → ⊥) → has_read (a ∷ h) u f ≡ has_read h u f
unfolding has_read
other_read (reads w g) h u f ne = rw (differ (reads w g) h u f ne, and-false)
other_read (writes w g) h u f ne = refl
other_read (crosses w) h u f ne = rw (differ (crosses w) h u f ne)

pub other_written : (a : Act) (h : History) (u f : ℕ) → (u ≡ worker_of a → ⊥) → has_written (a ∷ h) u f ≡ has_written h u f
unfolding has_written
other_written (reads w g) h u f ne = refl
other_written (writes w g) h u f ne = rw (differ (writes w g) h u f ne, and-false)
other_written (crosses w) h u f ne = rw (differ (crosses w) h u f ne)

-- a worker never clashes with itself: its own acts change nothing of what it meets
pub own_clash : (h : History) (a b : Act) → worker_of b ≡ worker_of a → Clash (a ∷ h) b → Clash h b
own_clash h a b q (write_after_write {u = u} {f = f} ne t) = write_after_write ne (rw (other_written a h u f (λ k. ne (k ∙ sym q))) at t)
own_clash h a b q (write_after_read {u = u} {f = f} ne t) = write_after_read ne (rw (other_read a h u f (λ k. ne (k ∙ sym q))) at t)
own_clash h a b q (read_after_write {u = u} {f = f} ne t) = read_after_write ne (rw (other_written a h u f (λ k. ne (k ∙ sym q))) at t)

pub own_on_written : (h : History) (a b : Act) → worker_of b ≡ worker_of a → OnWritten (a ∷ h) b → OnWritten h b
own_on_written h a b q (write_on_written {u = u} {f = f} ne t) = write_on_written ne (rw (other_written a h u f (λ k. ne (k ∙ sym q))) at t)
own_on_written h a b q (read_on_written {u = u} {f = f} ne t) = read_on_written ne (rw (other_written a h u f (λ k. ne (k ∙ sym q))) at t)

pub some_on_written : {h : History} {e : List Act} → Some (OnWritten h) e → Some (Clash h) e
some_on_written (here (write_on_written ne t)) = here (write_after_write ne t)
some_on_written (here (read_on_written ne t)) = here (read_after_write ne t)
some_on_written (later s) = later (some_on_written s)

pub crossing_calm : {h : History} {w : ℕ} → Clash h (crosses w) → ⊥
crossing_calm c = elim c [ ]

-- a worker that does not exist has done nothing
module _ (W F : ℕ) where
  pub unused_read : (h : History) → ActsWithin W F h → (u f : ℕ) → W ≤ u → has_read h u f ≡ false
  unfolding has_read
  unused_read [] i u f l = refl
  unused_read (reads v g ∷ h) i u f l = rw (ne_eqb v u (λ q. omega arith), and-false, unused_read h i.1 u f l)
  unused_read (writes v g ∷ h) i u f l = unused_read h i.1 u f l
  unused_read (crosses v ∷ h) i u f l = rw (ne_eqb v u (λ q. omega arith)) (unused_read h i.1 u f l)

  pub unused_written : (h : History) → ActsWithin W F h → (u f : ℕ) → W ≤ u → has_written h u f ≡ false
  unfolding has_written
  unused_written [] i u f l = refl
  unused_written (reads v g ∷ h) i u f l = unused_written h i.1 u f l
  unused_written (writes v g ∷ h) i u f l = rw (ne_eqb v u (λ q. omega arith), and-false, unused_written h i.1 u f l)
  unused_written (crosses v ∷ h) i u f l = rw (ne_eqb v u (λ q. omega arith)) (unused_written h i.1 u f l)
