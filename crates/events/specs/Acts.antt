-- What an event does: acts of one worker. A history is the acts so far, the latest first, so that each definition looks back from now.
use Rattle.std.specs.Prelude.{cond, List, [], ◌∷◌, ℕ, zero, suc, ◌<◌, leb}
use Rattle.sorts.specs.declared.Worker.{Worker}
use Rattle.sorts.specs.declared.Field.{Field}
use Rattle.events.specs.declared.Event.{Event}
use Rattle.events.specs.declared.Event.TheVariants.{Read, Write, Crossing}
use Rattle.events.specs.declared.Deed.{Deed}
use Rattle.events.specs.declared.Deed.TheVariants.{Reads, Writes, Crosses, Signals}

-- worker and field, each by its number
pub data Act : Type 0 where
  reads : ℕ → ℕ → Act
  writes : ℕ → ℕ → Act
  crosses : ℕ → Act

-- Where P fields are plain, the fields from number P on are flags. Worker w's access of field f does d if the field is plain; of a flag, a
-- read does what a write does.
abbrev pub access_does : ℕ → Worker → Field → Deed → Deed
access_does P w f d = cond (leb P f.0) (Signals w) d

-- what an event does
abbrev pub deed_of : ℕ → Event → Deed
deed_of P (Read w f) = access_does P w f (Reads w f)
deed_of P (Write w f) = access_does P w f (Writes w f)
deed_of P (Crossing w) = Crosses w

-- An access of a plain field is one act, and so is a crossing. An access of a flag closes the worker's stretch, is a stretch by itself and
-- opens the next: it is two crossings.
abbrev pub acts_of : Deed → List Act
acts_of (Reads w f) = reads w.0 f.0 ∷ []
acts_of (Writes w f) = writes w.0 f.0 ∷ []
acts_of (Crosses w) = crosses w.0 ∷ []
acts_of (Signals w) = crosses w.0 ∷ crosses w.0 ∷ []

-- a recording as the finders see it: the acts of each of its events, in their order
abbrev pub Recording : Type 0
Recording = List (List Act)

unfoldable pub recording_of : ℕ → List Event → Recording
recording_of P [] = []
recording_of P (e ∷ es) = acts_of (deed_of P e) ∷ recording_of P es

abbrev pub History : Type 0
History = List Act

-- the history once acts are entered, the first of them first
unfoldable pub entered : History → List Act → History
entered h [] = h
entered h (a ∷ more) = entered (a ∷ h) more

-- the history before event n of the events that follow h
unfoldable pub before : History → Recording → ℕ → History
before h es zero = h
before h [] (suc n) = h
before h (e ∷ es) (suc n) = before (entered h e) es n

-- whose act it is
abbrev pub worker_of : Act → ℕ
worker_of (reads w f) = w
worker_of (writes w f) = w
worker_of (crosses w) = w

-- With W workers and F fields: an event's worker and field are below the counts. A crossing has no field.
abbrev pub EventWithin : ℕ → ℕ → Event → Type 0
EventWithin W F (Read w f) = (w.0 < W) × (f.0 < F)
EventWithin W F (Write w f) = (w.0 < W) × (f.0 < F)
EventWithin W F (Crossing w) = w.0 < W

abbrev pub Within : ℕ → ℕ → List Event → Type 0
Within W F [] = Unit {0}
Within W F (e ∷ es) = EventWithin W F e × Within W F es

-- the same of what an event does
abbrev pub DeedWithin : ℕ → ℕ → Deed → Type 0
DeedWithin W F (Reads w f) = (w.0 < W) × (f.0 < F)
DeedWithin W F (Writes w f) = (w.0 < W) × (f.0 < F)
DeedWithin W F (Crosses w) = w.0 < W
DeedWithin W F (Signals w) = w.0 < W

-- whose deed it is
abbrev pub deed_worker : Deed → ℕ
deed_worker (Reads w f) = w.0
deed_worker (Writes w f) = w.0
deed_worker (Crosses w) = w.0
deed_worker (Signals w) = w.0
