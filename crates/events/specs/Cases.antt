-- The fourteen sequences of document 01, a to n, as one table under one statement.
use Rattle.std.specs.Prelude.{◌≡◌, refl, Bool, true, false, ◌&&◌, List, [], ◌∷◌, ℕ, eqb}
use Rattle.events.specs.declared.Event.{Event}
use Rattle.events.specs.declared.Event.TheVariants.{Read, Write, Crossing}
use Rattle.events.specs.Acts.{recording_of, entered}
use Rattle.events.specs.Stretches.{has_read, has_written, stale_read}
use Rattle.events.specs.Search.{lowest}
use Rattle.events.specs.Verdicts.{Verdict, accepted, reported, first_of, walk, end_by, early_verdict, late_verdict}

-- as document 01 writes events: worker, then field
R : ℕ → ℕ → Event
R w f = Read (record { 0 = w }) (record { 0 = f })

W : ℕ → ℕ → Event
W w f = Write (record { 0 = w }) (record { 0 = f })

B : ℕ → Event
B w = Crossing (record { 0 = w })

-- a sequence over one plain field with its worker count, and both verdicts: event, sort, worker, other worker, field
pub record Case : Type 0 where
  workers : ℕ
  events : List Event
  early_says : Verdict
  late_says : Verdict

case : ℕ → List Event → Verdict → Verdict → Case
case w es a b = record { workers = w; events = es; early_says = a; late_says = b }

pub cases : List Case
cases =
    -- a
    case 1 [] accepted accepted ∷
    -- b
    case 2 (W 0 0 ∷ R 1 0 ∷ []) (reported 1 3 1 0 0) (reported 1 3 1 0 0) ∷
    -- c
    case 2 (W 0 0 ∷ B 0 ∷ R 1 0 ∷ []) accepted accepted ∷
    -- d
    case 2 (R 0 0 ∷ W 1 0 ∷ B 1 ∷ B 0 ∷ []) (reported 1 2 1 0 0) (reported 3 2 0 16 0) ∷
    -- e
    case 2 (R 0 0 ∷ W 1 0 ∷ []) (reported 1 2 1 0 0) (reported 2 2 0 16 0) ∷
    -- f
    case 2 (R 0 0 ∷ R 1 0 ∷ []) accepted accepted ∷
    -- g
    case 1 (R 0 0 ∷ W 0 0 ∷ B 0 ∷ []) accepted accepted ∷
    -- h
    case 2 (R 0 0 ∷ W 1 0 ∷ B 1 ∷ W 0 0 ∷ B 0 ∷ []) (reported 1 2 1 0 0) (reported 4 2 0 16 0) ∷
    -- i
    case 2 (W 0 0 ∷ R 0 0 ∷ W 1 0 ∷ []) (reported 2 1 1 0 0) (reported 2 1 1 0 0) ∷
    -- j
    case 3 (R 0 0 ∷ R 1 0 ∷ W 2 0 ∷ []) (reported 2 2 2 0 0) (reported 3 2 0 16 0) ∷
    -- k
    case 2 (R 0 0 ∷ B 0 ∷ W 1 0 ∷ B 1 ∷ []) accepted accepted ∷
    -- l
    case 2 (R 0 0 ∷ W 1 0 ∷ R 0 0 ∷ []) (reported 1 2 1 0 0) (reported 2 3 0 1 0) ∷
    -- m
    case 2 (W 0 0 ∷ B 0 ∷ W 1 0 ∷ R 0 0 ∷ []) (reported 3 3 0 1 0) (reported 3 3 0 1 0) ∷
    -- n
    case 2 (R 0 0 ∷ R 1 0 ∷ W 1 0 ∷ B 1 ∷ B 0 ∷ []) (reported 2 2 1 0 0) (reported 4 2 0 16 0) ∷ []

-- each number of the one is that of the other
same : Verdict → Verdict → Bool
same accepted accepted = true
same accepted (reported n s w u f) = false
same (reported n s w u f) accepted = false
same (reported n s w u f) (reported n' s' w' u' f') = eqb n n' && (eqb s s' && (eqb w w' && (eqb u u' && eqb f f')))

holds : Case → Bool
holds c = same (early_verdict 1 c.events) c.early_says && same (late_verdict c.workers 1 1 c.events) c.late_says

pub all : List Case → Bool
all [] = true
all (c ∷ cs) = holds c && all cs

pub fourteen : all cases ≡ true
unfolding all holds cases case same R W B recording_of entered lowest first_of walk end_by has_read has_written stale_read
fourteen = refl
