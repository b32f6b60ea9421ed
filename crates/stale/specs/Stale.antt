-- What the searches for a stale read find by the words alone, whatever they are. Of F fields, Lg are the log words, Vr the version words
-- and Wr the writer words.
use Rattle.std.specs.Prelude.{Bool, Option, Some, None, List, ℕ, zero, suc, ◌+◌, ◌*◌, ◌≤◌, length, get_or}
use Rattle.sorts.specs.declared.Worker.{Worker}
use Rattle.sorts.specs.declared.Field.{Field}
use Rattle.sorts.specs.Words.{worker_in}
use Rattle.events.specs.Words.{stale_by_words}
use Rattle.events.specs.Search.{Found, lowest, at, none}
use Rattle.events.specs.Verdicts.{Verdict, accepted, reported}
use Rattle.stale.specs.declared.Logs.{Logs}

-- every table has its full length
pub record Sized (l : Logs) : Type 0 where
  pub writer : 512 ≤ length l.writer.now
  pub version : 512 ≤ length l.version.now
  pub log : 8192 ≤ length l.log.now

-- f is logged by w, and the version has risen by at least two, or by at least one with another worker as last writer
unfoldable pub stale_words : List ℕ → List ℕ → List ℕ → ℕ → ℕ → Bool
stale_words Lg Vr Wr w f = stale_by_words (get_or Lg (16 * f + w) 0) (get_or Vr f 0) (worker_in (get_or Wr f 0)) w

-- the lowest such f
abbrev pub stale_field_by : ℕ → List ℕ → List ℕ → List ℕ → ℕ → Found
stale_field_by F Lg Vr Wr w = lowest (stale_words Lg Vr Wr w) 0 F

-- a field that the code found
abbrev pub field_of : Option Field → Found
field_of (Some f) = at f.0
field_of None = none

-- worker w at the field that was found, or else what is found without it
abbrev pub stale_or : ℕ → Found → Option (Worker × Field) → Option (Worker × Field)
stale_or w (at f) more = Some (record { 0 = w }, record { 0 = f })
stale_or w none more = more

-- The search stops at the first worker and field that fails, lowest worker first and then lowest field: k workers from w on.
unfoldable pub first_stale : ℕ → List ℕ → List ℕ → List ℕ → ℕ → ℕ → Option (Worker × Field)
first_stale F Lg Vr Wr w zero = None
first_stale F Lg Vr Wr w (suc k) = stale_or w (stale_field_by F Lg Vr Wr w) (first_stale F Lg Vr Wr (w + 1) k)

-- sort 2, worker w, lowest such f, other worker 16, which means not recorded
abbrev pub said_of : ℕ → Option (Worker × Field) → Verdict
said_of n (Some (w, f)) = reported n 2 w.0 16 f.0
said_of n None = accepted
