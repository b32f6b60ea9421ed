-- The two verdicts, executable.
use Rattle.std.specs.Prelude.{not, ◌&&◌, List, [], ◌∷◌, ℕ, zero, suc, ◌+◌, eqb}
use Rattle.events.specs.declared.Event.{Event}
use Rattle.events.specs.Acts.{Act, History, Recording, recording_of, entered, reads, writes, crosses}
use Rattle.events.specs.Stretches.{has_read, has_written, stale_read}
use Rattle.events.specs.Search.{Found, lowest, at, none}

pub data Verdict : Type 0 where
  accepted : Verdict
  -- event, sort, worker, other worker, field
  reported : ℕ → ℕ → ℕ → ℕ → ℕ → Verdict

-- a report of what was found, or else what is said without it
abbrev pub or_else : Found → (ℕ → Verdict) → Verdict → Verdict
or_else (at u) report v = report u
or_else none report v = v

-- the first of two verdicts that reports
abbrev pub and_then : Verdict → Verdict → Verdict
and_then accepted v = v
and_then (reported n s w u f) v = reported n s w u f

-- the first report among acts that are looked at in their order
unfoldable pub first_of : (Act → Verdict) → List Act → Verdict
first_of look [] = accepted
first_of look (a ∷ more) = and_then (look a) (first_of look more)

-- Events in their order, numbered from n, after h: all acts of an event are looked at before any of them is entered; at the end comes
-- what is said there.
unfoldable pub walk : (History → ℕ → Act → Verdict) → (History → ℕ → Verdict) → History → ℕ → Recording → Verdict
walk look end h n [] = end h n
walk look end h n (e ∷ es) = and_then (first_of (look h n) e) (walk look end (entered h e) (n + 1) es)

-- the lowest of the 16 workers other than w whose open stretch has written f, or has read it
abbrev pub other_writer : History → ℕ → ℕ → Found
other_writer h w f = lowest (λ u. not (eqb u w) && has_written h u f) 0 16

abbrev pub other_reader : History → ℕ → ℕ → Found
other_reader h w f = lowest (λ u. not (eqb u w) && has_read h u f) 0 16

-- The early look at an act of event n, by what finds the other writer and the other reader of worker and field.
-- Sorts: 1 write after write, 2 write after read, 3 read after write. If a write meets both, sort 1 is reported.
abbrev pub early_by : (ℕ → ℕ → Found) → (ℕ → ℕ → Found) → ℕ → Act → Verdict
early_by writer reader n (reads w f) = or_else (writer w f) (λ u. reported n 3 w u f) accepted
early_by writer reader n (writes w f) =
    or_else (writer w f) (λ u. reported n 1 w u f) (or_else (reader w f) (λ u. reported n 2 w u f) accepted)
early_by writer reader n (crosses w) = accepted

abbrev pub early_look : History → ℕ → Act → Verdict
early_look h n a = early_by (other_writer h) (other_reader h) n a

-- Early: the lowest-numbered event that clashes.
abbrev pub early : History → ℕ → Recording → Verdict
early h n es = walk early_look (λ h n. accepted) h n es

-- the lowest of the F fields of which w's open stretch has a stale read
abbrev pub stale_field : ℕ → History → ℕ → Found
stale_field F h w = lowest (stale_read h w) 0 F

-- w's stale reads, at event n: sort 2, the other worker is 16, which means not recorded
abbrev pub stale_by : (ℕ → Found) → ℕ → ℕ → Verdict
stale_by stale n w = or_else (stale w) (λ f. reported n 2 w 16 f) accepted

-- The late look at an act of event n, by what finds the other writer of worker and field, and the stale field of a worker.
abbrev pub late_by : (ℕ → ℕ → Found) → (ℕ → Found) → ℕ → Act → Verdict
late_by writer stale n (reads w f) = or_else (writer w f) (λ u. reported n 3 w u f) accepted
late_by writer stale n (writes w f) = or_else (writer w f) (λ u. reported n 1 w u f) accepted
late_by writer stale n (crosses w) = stale_by stale n w

abbrev pub late_look : ℕ → History → ℕ → Act → Verdict
late_look F h n a = late_by (other_writer h) (stale_field F h) n a

-- After the last event the same test for each of k workers from w on; n is the event count.
unfoldable pub end_by : (ℕ → Found) → ℕ → ℕ → ℕ → Verdict
end_by stale n w zero = accepted
end_by stale n w (suc k) = and_then (stale_by stale n w) (end_by stale n (w + 1) k)

-- Late: at an access, at a crossing, or after the last event, with W workers and F fields.
abbrev pub late : ℕ → ℕ → History → ℕ → Recording → Verdict
late W F h n es = walk (late_look F) (λ h n. end_by (stale_field F h) n 0 W) h n es

-- the verdicts on a whole recording, with P of its F fields plain
abbrev pub early_verdict : ℕ → List Event → Verdict
early_verdict P es = early [] 0 (recording_of P es)

abbrev pub late_verdict : ℕ → ℕ → ℕ → List Event → Verdict
late_verdict W F P es = late W F [] 0 (recording_of P es)
