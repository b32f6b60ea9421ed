-- What an event does to the three tables, by their words alone, whatever they hold. W is the worker count, S the stretch words, Wr the writer
-- words, Rd the readers words.
use Rattle.std.specs.Prelude.{◌≡◌, Bool, not, ◌&&◌, List, [], ◌∷◌, ℕ, ◌+◌, ◌*◌, ◌<◌, ◌≤◌, eqb, length, get_or, set}
use Rattle.events.specs.declared.Deed.{Deed}
use Rattle.events.specs.Acts.{Act, acts_of, DeedWithin, deed_worker, reads, writes, crosses}
use Rattle.events.specs.Search.{Found, lowest}
use Rattle.events.specs.Verdicts.{Verdict, accepted, reported, first_of, early_by}
use Rattle.early.specs.declared.Tables.{Tables}
use Rattle.tables.specs.Steps.{is_open, writer_by, stretch_with, stretch_after, writer_after}

-- u is another worker than w, and its stretch in the readers words from base on is open
unfoldable pub reader_open : ℕ → List ℕ → List ℕ → ℕ → ℕ → ℕ → Bool
reader_open W S Rd w base u = not (eqb u w) && is_open W S u (get_or Rd (base + u) 0)

-- the lowest of the sixteen workers that is such for field f
abbrev pub reader_by : ℕ → List ℕ → List ℕ → ℕ → ℕ → Found
reader_by W S Rd w f = lowest (reader_open W S Rd w (16 * f)) 0 16

-- what event n meets, where it does d: the first report among its acts, all looked at on the same words
abbrev pub meets : Tables → ℕ → Deed → Verdict
meets t n d =
    let S = t.stretch.now in
    first_of (early_by (writer_by t.workers S t.writer.now) (reader_by t.workers S t.readers.now) n) (acts_of d)

-- the readers words with an act entered: a read leaves its stretch
unfoldable pub readers_with : List ℕ → List ℕ → Act → List ℕ
readers_with S Rd (reads w f) = set Rd (16 * f + w) (get_or S w 0)
readers_with S Rd (writes w f) = Rd
readers_with S Rd (crosses w) = Rd

unfoldable pub readers_after : List ℕ → List ℕ → List Act → List ℕ
readers_after S Rd [] = Rd
readers_after S Rd (a ∷ more) = readers_after (stretch_with S a) (readers_with S Rd a) more

-- the three tables have their full lengths
pub record Sized (t : Tables) : Type 0 where
  pub stretch : 16 ≤ length t.stretch.now
  pub writer : 512 ≤ length t.writer.now
  pub readers : 8192 ≤ length t.readers.now

-- the tables that were lent stay lent, with whatever words, for as many workers
pub record Lent (t₀ t : Tables) : Type 0 where
  pub workers : t.workers ≡ t₀.workers
  pub stretch : t.stretch.ghost_name ≡ t₀.stretch.ghost_name
  pub writer : t.writer.ghost_name ≡ t₀.writer.ghost_name
  pub readers : t.readers.ghost_name ≡ t₀.readers.ghost_name

-- d can be entered: its numbers are in the tables, and its worker's stretch number fits a writer word
pub record Room (d : Deed) (t : Tables) : Type 0 where
  pub numbers : DeedWithin 16 512 d
  pub sized : Sized t
  pub number : get_or t.stretch.now (deed_worker d) 0 < 268435456

-- the tables with d entered
pub record Entered (d : Deed) (t₀ t : Tables) : Type 0 where
  pub lent : Lent t₀ t
  pub stretch : t.stretch.now ≡ stretch_after t₀.stretch.now (acts_of d)
  pub writer : t.writer.now ≡ writer_after t₀.stretch.now t₀.writer.now (acts_of d)
  pub readers : t.readers.now ≡ readers_after t₀.stretch.now t₀.readers.now (acts_of d)

-- A reported event is not entered.
abbrev pub unless : Verdict → List ℕ → List ℕ → List ℕ
unless accepted new old = new
unless (reported n s w u f) new old = old

-- the answer v to event n, where it does d, and the tables after it
pub record Stepped (n : ℕ) (d : Deed) (v : Verdict) (t₀ t : Tables) : Type 0 where
  pub answer : v ≡ meets t₀ n d
  pub lent : Lent t₀ t
  pub stretch : t.stretch.now ≡ unless v (stretch_after t₀.stretch.now (acts_of d)) t₀.stretch.now
  pub writer : t.writer.now ≡ unless v (writer_after t₀.stretch.now t₀.writer.now (acts_of d)) t₀.writer.now
  pub readers : t.readers.now ≡ unless v (readers_after t₀.stretch.now t₀.readers.now (acts_of d)) t₀.readers.now
