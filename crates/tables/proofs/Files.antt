-- What both finders draw from an accepted file: the acts of its events, and how far a stretch's number can rise.
use mathlib.Core.Path.{◌≡◌, ◌∙◌}
use mathlib.Core.List.{List, []}
use Prim.Native.Nat.{ℕ, ◌+◌, ◌<◌, ◌≤◌}
use native.Mathlib.Omega.{arith}
use lib.ListN.{length, get_or, drop}
use Rattle.events.specs.declared.Event.{Event}
use Rattle.events.specs.declared.Deed.{Deed}
use Rattle.events.specs.declared.Deed.TheVariants.{Reads, Writes, Crosses, Signals}
use Rattle.events.specs.Acts.{deed_of, acts_of, before, DeedWithin, deed_worker}
use Rattle.events.specs.Stretches.{stretch_of}
use Rattle.events.proofs.Histories.{Sound, recording_sound, recording_length, deed_within, deed_wider, event_is}
use Rattle.events.proofs.Stretches.{stretch_low}
use Rattle.recording.specs.declared.Counts.{Counts}
use Rattle.recording.specs.File.{Accepted, field_label, event_at, events_in}
use Rattle.recording.proofs.Guarantee.{Guarantee}
use Rattle.flags.specs.Flags.{flags_from, first_flag}
use Rattle.flags.proofs.Flags.{accepted_first_flag}
use Rattle.tables.specs.Finds.{acts_in}

-- what event n of a file does
abbrev pub deed_at : List ℕ → ℕ → Deed
deed_at file n = deed_of (first_flag file) (event_at file n)

module _ (file : List ℕ) (counts : Counts) (good : Guarantee file counts) where
  -- no act touches a flag
  pub file_sound : Sound counts.workers (first_flag file) (acts_in file)
  file_sound =
      recording_sound (first_flag file) counts.workers counts.fields (first_flag file) (λ f plain _. plain) (events_in file) good.within

  -- over all the fields that a table has words for
  below : (f : ℕ) → f < first_flag file → f < counts.fields → f < 512
  below f _ l = omega (arith, good.few_fields)

  pub file_sound_full : Sound counts.workers 512 (acts_in file)
  file_sound_full = recording_sound (first_flag file) counts.workers counts.fields 512 below (events_in file) good.within

  pub file_length : length (acts_in file) ≡ counts.events
  file_length = recording_length (first_flag file) (events_in file) ∙ good.count

  module _ (n : ℕ) (l : n < counts.events) where
    pub file_event : get_or (acts_in file) n [] ≡ acts_of (deed_at file n)
    file_event = event_is (first_flag file) (events_in file) (drop (n + 1) (events_in file)) n (event_at file n) (good.next n l)

    pub file_deed : DeedWithin counts.workers (first_flag file) (deed_at file n)
    file_deed =
        deed_within counts.workers counts.fields (first_flag file) (first_flag file) (λ f plain _. plain) (event_at file n) (good.event_within n l)

    pub file_numbers : DeedWithin 16 512 (deed_at file n)
    file_numbers =
        deed_wider counts.workers 16 512 good.few_workers (deed_at file n)
        (deed_within counts.workers counts.fields 512 (first_flag file) below (event_at file n) (good.event_within n l))

    its_worker : (d : Deed) → DeedWithin counts.workers (first_flag file) d → deed_worker d < counts.workers
    its_worker (Reads w f) i = i.0
    its_worker (Writes w f) i = i.0
    its_worker (Crosses w) i = i
    its_worker (Signals w) i = i

    pub file_worker : deed_worker (deed_at file n) < counts.workers
    file_worker = its_worker (deed_at file n) file_deed

  -- what a finder's loop has event n do, with the number of plain fields that the flags gave
  pub file_does : Accepted file counts → (n plain : ℕ) → plain ≡ flags_from (field_label file) counts.fields → (e : Event) → e ≡ event_at file n
      → (d : Deed) → d ≡ deed_of plain e → d ≡ deed_at file n
  file_does ok n plain p e t d k = k ∙ rw (t, accepted_first_flag file counts plain ok p)

  -- 2 * 16,000 + 1, after accesses of flags alone, still joins with a worker into a writer word
  pub file_stretch : (n w : ℕ) → n ≤ counts.events → stretch_of (before [] (acts_in file) n) w < 268435456
  file_stretch n w l = omega (arith, stretch_low (first_flag file) (events_in file) n w, good.few_events)
