-- One step of the late finder by the words alone, whatever they are. W is the worker count and F how many fields the walks are over, the
-- plain ones; S, Wr, Vr and Lg are the stretch, writer, version and log words.
use Rattle.std.specs.Prelude.{◌≡◌, Bool, cond, List, [], ◌∷◌, ℕ, zero, suc, ◌+◌, ◌*◌, ◌<◌, ◌≤◌, eqb, length, get_or, set}
use Rattle.sorts.specs.Words.{joined}
use Rattle.events.specs.declared.Deed.{Deed}
use Rattle.events.specs.Acts.{Act, DeedWithin, reads, writes, crosses}
use Rattle.events.specs.Words.{once}
use Rattle.events.specs.Verdicts.{Verdict, accepted, reported, first_of, late_by}
use Rattle.tables.specs.Steps.{writer_by, stretch_with, stretch_after, writer_with, writer_after}
use Rattle.stale.specs.Stale.{stale_field_by}
use Rattle.late.specs.declared.Tables.{Tables}

-- An event's acts, looked at as event n, before any of them is entered.
abbrev pub late_meets : Tables → ℕ → List Act → Verdict
late_meets t n e =
    first_of (late_by (writer_by t.workers t.stretch.now t.writer.now) (stale_field_by t.plain t.log.now t.version.now t.writer.now) n) e

-- w's open stretch was the last writer of f: the writer word is 16 times the stretch number, plus the worker
unfoldable pub wrote_by : List ℕ → List ℕ → ℕ → ℕ → Bool
wrote_by S Wr w f = eqb (get_or Wr f 0) (joined (get_or S w 0) w)

-- Version word of f: how many stretches have written f. A write of the last writer's open stretch is no other stretch's.
unfoldable pub version_with : List ℕ → List ℕ → List ℕ → Act → List ℕ
version_with S Wr Vr (reads w f) = Vr
version_with S Wr Vr (writes w f) = cond (wrote_by S Wr w f) Vr (set Vr f (get_or Vr f 0 + 1))
version_with S Wr Vr (crosses w) = Vr

-- worker w's log words of the first k fields made 0
unfoldable pub cleared : List ℕ → ℕ → ℕ → List ℕ
cleared Lg w zero = Lg
cleared Lg w (suc k) = set (cleared Lg w k) (16 * k + w) 0

-- Log word 16f + w: if w's open stretch has read f at a moment when that same stretch was not the last writer of f, then 1 plus the version
-- of f at the first such read. So w's read of f enters the word once.
unfoldable pub log_read : List ℕ → List ℕ → List ℕ → List ℕ → ℕ → ℕ → List ℕ
log_read S Wr Vr Lg w f = cond (wrote_by S Wr w f) Lg (set Lg (16 * f + w) (once (get_or Lg (16 * f + w) 0) (get_or Vr f 0 + 1)))

-- Else 0. So w's crossing clears its words, and no more than those of the plain fields: nothing of a flag is ever logged.
unfoldable pub log_with : ℕ → List ℕ → List ℕ → List ℕ → List ℕ → Act → List ℕ
log_with F S Wr Vr Lg (reads w f) = log_read S Wr Vr Lg w f
log_with F S Wr Vr Lg (writes w f) = Lg
log_with F S Wr Vr Lg (crosses w) = cleared Lg w F

-- the same with all acts of an event, in their order
unfoldable pub version_after : List ℕ → List ℕ → List ℕ → List Act → List ℕ
version_after S Wr Vr [] = Vr
version_after S Wr Vr (a ∷ more) = version_after (stretch_with S a) (writer_with S Wr a) (version_with S Wr Vr a) more

unfoldable pub log_after : ℕ → List ℕ → List ℕ → List ℕ → List ℕ → List Act → List ℕ
log_after F S Wr Vr Lg [] = Lg
log_after F S Wr Vr Lg (a ∷ more) =
    log_after F (stretch_with S a) (writer_with S Wr a) (version_with S Wr Vr a) (log_with F S Wr Vr Lg a) more

-- every table has its full length
pub record Sized (t : Tables) : Type 0 where
  pub stretch : 16 ≤ length t.stretch.now
  pub writer : 512 ≤ length t.writer.now
  pub version : 512 ≤ length t.version.now
  pub log : 8192 ≤ length t.log.now

-- the tables that were lent stay lent, with whatever words, for as many workers and fields
pub record Lent (t₀ t : Tables) : Type 0 where
  pub workers : t.workers ≡ t₀.workers
  pub plain : t.plain ≡ t₀.plain
  pub stretch : t.stretch.ghost_name ≡ t₀.stretch.ghost_name
  pub writer : t.writer.ghost_name ≡ t₀.writer.ghost_name
  pub version : t.version.ghost_name ≡ t₀.version.ghost_name
  pub log : t.log.ghost_name ≡ t₀.log.ghost_name

-- A step can be taken: the deed's numbers are within the limits, each stretch number joins with a worker in one word, and each version can
-- be counted on.
pub record Room (d : Deed) (t : Tables) : Type 0 where
  pub fields : t.plain ≤ 512
  pub inside : DeedWithin 16 t.plain d
  pub sized : Sized t
  pub numbers : (w : ℕ) → w < 16 → get_or t.stretch.now w 0 < 268435456
  pub versions : (f : ℕ) → f < t.plain → get_or t.version.now f 0 < 4294967295

-- the same of worker w's access of field f
pub record Access (w f : ℕ) (t : Tables) : Type 0 where
  pub worker : w < 16
  pub field : f < 512
  pub sized : Sized t
  pub number : get_or t.stretch.now w 0 < 268435456
  pub counted : get_or t.version.now f 0 < 4294967295

-- the same of worker w's crossing
pub record Crossing (w : ℕ) (t : Tables) : Type 0 where
  pub worker : w < 16
  pub fields : t.plain ≤ 512
  pub sized : Sized t
  pub number : get_or t.stretch.now w 0 < 268435456

-- worker w's stretch closed: its number has risen, and its log words are 0
pub record Closed (w rise : ℕ) (t₀ t : Tables) : Type 0 where
  pub lent : Lent t₀ t
  pub stretch : t.stretch.now ≡ set t₀.stretch.now w (get_or t₀.stretch.now w 0 + rise)
  pub writer : t.writer.now ≡ t₀.writer.now
  pub version : t.version.now ≡ t₀.version.now
  pub log : t.log.now ≡ cleared t₀.log.now w t₀.plain

-- the tables with acts entered
pub record Entered (e : List Act) (t₀ t : Tables) : Type 0 where
  pub lent : Lent t₀ t
  pub stretch : t.stretch.now ≡ stretch_after t₀.stretch.now e
  pub writer : t.writer.now ≡ writer_after t₀.stretch.now t₀.writer.now e
  pub version : t.version.now ≡ version_after t₀.stretch.now t₀.writer.now t₀.version.now e
  pub log : t.log.now ≡ log_after t₀.plain t₀.stretch.now t₀.writer.now t₀.version.now t₀.log.now e

-- The reported event is not entered: the acts of an event that are, after the verdict on it.
abbrev pub passed : Verdict → List Act → List Act
passed accepted e = e
passed (reported n s w u f) e = []

-- event n with the acts e: the answer v, and the tables at exit
pub record Stepped (n : ℕ) (e : List Act) (v : Verdict) (t₀ t : Tables) : Type 0 where
  pub answer : v ≡ late_meets t₀ n e
  pub entered : Entered (passed v e) t₀ t
