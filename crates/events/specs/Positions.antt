-- What an open stretch has done, which events close it and how far its number rises, said of events and with no history.
use Rattle.std.specs.Prelude.{◌≡◌, Bool, cond, ◌&&◌, List, [], ◌∷◌, ℕ, zero, suc, ◌<◌, ◌≤◌, eqb, leb, T}
use Rattle.events.specs.declared.Event.{Event}
use Rattle.events.specs.declared.Event.TheVariants.{Read, Write, Crossing}

-- event n is e
abbrev pub EventIs : List Event → ℕ → Event → Type 0
EventIs [] n e = ⊥
EventIs (x ∷ es) zero e = x ≡ e
EventIs (x ∷ es) (suc n) e = EventIs es n e

-- Which events close worker u's stretch, where P fields are plain: its crossings, and its accesses of flags, read or write.
abbrev pub closes : ℕ → ℕ → Event → Bool
closes P u (Read w f) = leb P f.0 && eqb w.0 u
closes P u (Write w f) = leb P f.0 && eqb w.0 u
closes P u (Crossing w) = eqb w.0 u

-- event n closes worker u's stretch
pub record ClosesAt (P : ℕ) (es : List Event) (n u : ℕ) : Type 0 where
  pub event : Event
  pub is : EventIs es n event
  pub closing : T (closes P u event)

-- whose event it is
abbrev pub event_worker : Event → ℕ
event_worker (Read w f) = w.0
event_worker (Write w f) = w.0
event_worker (Crossing w) = w.0

-- By how much an event raises its worker's stretch number: a crossing by one, an access of a flag by two, any other not at all.
abbrev pub rise : ℕ → Event → ℕ
rise P (Read w f) = cond (leb P f.0) 2 0
rise P (Write w f) = cond (leb P f.0) 2 0
rise P (Crossing w) = 1

-- Some event before n is e, and no event from there up to n closes w's stretch. An access of a flag closes it, so e is none.
pub record OpenSince (P : ℕ) (es : List Event) (n w : ℕ) (e : Event) : Type 0 where
  pub event : ℕ
  pub earlier : event < n
  pub is : EventIs es event e
  pub none_closes : (k : ℕ) → event ≤ k → k < n → ClosesAt P es k w → ⊥
