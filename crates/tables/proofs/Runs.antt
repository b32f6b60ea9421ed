-- A finder's loop over an accepted file, whatever it looks at: what holds before event n, and what passing or reporting event n gives.
use mathlib.Core.Path.{◌≡◌, sym, ◌∙◌}
use mathlib.Core.List.{List, []}
use Prim.Native.Nat.{ℕ, ◌+◌, ◌<◌, ◌≤◌}
use native.Mathlib.Numerals.{add-one}
use native.Mathlib.Omega.{arith}
use lib.ListN.{length}
use Rattle.events.specs.Acts.{Act, History, acts_of, entered, before}
use Rattle.events.specs.Clashes.{OnWritten, Some}
use Rattle.events.specs.Verdicts.{Verdict, accepted, reported, first_of, walk}
use Rattle.events.proofs.Histories.{ActsWithin, Sound, event_sound, before_next, before_within}
use Rattle.events.proofs.Walks.{Progress, progress_start, progress_next, progress_stop, progress_end}
use Rattle.recording.specs.declared.Counts.{Counts}
use Rattle.recording.specs.File.{Accepted, event_count}
use Rattle.recording.proofs.Guarantee.{Guarantee}
use Rattle.tables.specs.Finds.{acts_in, shown_by}
use Rattle.tables.proofs.Files.{deed_at, file_length, file_event}

-- A look at events, with W workers and F fields: what it passes met no other worker's open stretch that had written its field, and what
-- it reports bears the event's number.
pub record Sees (look : History → ℕ → Act → Verdict) (W F : ℕ) : Type 0 where
  pub calm : (h : History) → ActsWithin W F h → (n : ℕ) (e : List Act) → first_of (look h n) e ≡ accepted → Some (OnWritten h) e → ⊥
  pub number : (h : History) → ActsWithin W F h → (n : ℕ) (e : List Act) (m s w u f : ℕ) → first_of (look h n) e ≡ reported m s w u f → m ≡ n

-- the loop has come to event n of the file
abbrev pub Reached : (History → ℕ → Act → Verdict) → (History → ℕ → Verdict) → List ℕ → ℕ → Type 0
Reached look end file n = Progress look end (acts_in file) n

-- a look, and what is said at the end, on the way through a file that was accepted with these counts
pub record Course (look : History → ℕ → Act → Verdict) (end : History → ℕ → Verdict) (W F : ℕ) (file : List ℕ) (counts : Counts) : Type 0 where
  pub sees : Sees look W F
  pub good : Guarantee file counts
  pub sound : Sound W F (acts_in file)

module _ {look : History → ℕ → Act → Verdict} {end : History → ℕ → Verdict} {W F : ℕ} {file : List ℕ} {counts : Counts} (course : Course look end W F file counts) where
  abbrev verdict : Verdict
  verdict = walk look end [] 0 (acts_in file)

  pub reached_start : Reached look end file 0
  reached_start = progress_start look end (acts_in file)

  module _ (n : ℕ) (so_far : Reached look end file n) where
    abbrev now : History
    now = before [] (acts_in file) n

    pub now_within : ActsWithin W F now
    now_within = before_within W F (acts_in file) course.sound n

    pub reached_end : counts.events ≤ n → verdict ≡ end now n
    reached_end l = progress_end look end W F (acts_in file) course.sound n so_far (omega (arith, file_length file counts course.good))

    module _ (l : n < counts.events) where
      abbrev event : List Act
      event = acts_of (deed_at file n)

      below : n < length (acts_in file)
      below = omega (arith, file_length file counts course.good)

      pub event_within : ActsWithin W F event
      event_within = rw (file_event file counts course.good n l) at (event_sound W F (acts_in file) course.sound n).inside

      pub history_next : before [] (acts_in file) (n + 1) ≡ entered now event
      history_next = rw (add-one, before_next, file_event file counts course.good n l)

      pub reached_next : first_of (look now n) event ≡ accepted → Reached look end file (n + 1)
      reached_next q =
          progress_next look end W F (acts_in file) course.sound n so_far below
          (rw (file_event file counts course.good n l) q)
          (λ s. course.sees.calm now now_within n event q (rw (file_event file counts course.good n l) at s))

      pub reached_stop : (m s w u f : ℕ) → first_of (look now n) event ≡ reported m s w u f → verdict ≡ reported m s w u f
      reached_stop m s w u f q =
          progress_stop look end W F (acts_in file) course.sound n so_far below m s w u f (rw (file_event file counts course.good n l) q)

      -- the tables that show what came before event n show what came before the reported event
      pub history_stop : (v : Verdict) (m s w u f : ℕ) → v ≡ first_of (look now n) event → v ≡ reported m s w u f → shown_by file v ≡ now
      history_stop v m s w u f p q =
          let k : m ≡ n = course.sees.number now now_within n event m s w u f (sym p ∙ q) in
          rw (q, k)

  -- and before the end, all
  pub history_end : Accepted file counts → (n : ℕ) → n ≤ counts.events → counts.events ≤ n → shown_by file accepted ≡ before [] (acts_in file) n
  history_end checked n a b = let q : event_count file ≡ n = omega (arith, checked.events) in rw q
