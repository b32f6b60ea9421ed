-- Laws of histories: entering an event's acts, the history before an event, and what holds of every act of a recording.
use mathlib.Core.Path.{◌≡◌, refl}
use mathlib.Core.List.{List, [], ◌∷◌}
use Prim.Native.Nat.{ℕ, zero, suc, ◌<◌, ◌≤◌}
use native.Mathlib.Omega.{arith}
use lib.Dec.{leb}
use lib.ListN.{length, get_or, drop}
use borrow.Author.Tests.{leb-false}
use Rattle.sorts.specs.declared.Worker.{Worker}
use Rattle.sorts.specs.declared.Field.{Field}
use Rattle.events.specs.declared.Event.{Event}
use Rattle.events.specs.declared.Event.TheVariants.{Read, Write, Crossing}
use Rattle.events.specs.declared.Deed.{Deed}
use Rattle.events.specs.declared.Deed.TheVariants.{Reads, Writes, Crosses, Signals}
use Rattle.events.specs.Acts.{Act, Recording, History, access_does, deed_of, acts_of, recording_of, entered, before, worker_of, Within, EventWithin, DeedWithin, reads, writes, crosses}
use Rattle.events.specs.Clashes.{Some, SomeAt, here, later}
use Rattle.events.proofs.Tests.{bool}

-- with W workers and F fields
abbrev pub ActWithin : ℕ → ℕ → Act → Type 0
ActWithin W F (reads w f) = (w < W) × (f < F)
ActWithin W F (writes w f) = (w < W) × (f < F)
ActWithin W F (crosses w) = w < W

abbrev pub ActsWithin : ℕ → ℕ → List Act → Type 0
ActsWithin W F [] = Unit {0}
ActsWithin W F (a ∷ more) = ActWithin W F a × ActsWithin W F more

-- more fields do no harm
pub act_wider : (W F G : ℕ) → F ≤ G → (a : Act) → ActWithin W F a → ActWithin W G a
act_wider W F G l (reads w f) i = (i.0, omega arith)
act_wider W F G l (writes w f) i = (i.0, omega arith)
act_wider W F G l (crosses w) i = i

pub acts_wider : (W F G : ℕ) → F ≤ G → (acts : List Act) → ActsWithin W F acts → ActsWithin W G acts
acts_wider W F G l [] i = tt
acts_wider W F G l (a ∷ more) i = (act_wider W F G l a i.0, acts_wider W F G l more i.1)

-- all acts are w's
abbrev pub ActsOf : ℕ → List Act → Type 0
ActsOf w [] = Unit {0}
ActsOf w (a ∷ more) = (worker_of a ≡ w) × ActsOf w more

-- an event's acts are of one worker, and within the counts
pub record EventActs (W F : ℕ) (e : List Act) : Type 0 where
  pub worker : ℕ
  pub own : ActsOf worker e
  pub inside : ActsWithin W F e

abbrev pub Sound : ℕ → ℕ → Recording → Type 0
Sound W F [] = Unit {0}
Sound W F (e ∷ es) = EventActs W F e × Sound W F es

-- What an event does is within the counts too, and touches plain fields alone: it is within G fields, if all fields below P and F are.
module _ (W F G P : ℕ) (low : (f : ℕ) → f < P → f < F → f < G) where
  access_within : (w : Worker) (f : Field) → (w.0 < W) × (f.0 < F) → (d : Deed) → ((w.0 < W) × (f.0 < G) → DeedWithin W G d)
      → DeedWithin W G (access_does P w f d)
  access_within w f i d k =
      bool (leb P f.0) (λ t. rw t i.0) (λ t. rw t (k (i.0, low f.0 (leb-false P f.0 t) i.1)))

  pub deed_within : (e : Event) → EventWithin W F e → DeedWithin W G (deed_of P e)
  deed_within (Read w f) i = access_within w f i (Reads w f) (λ k. k)
  deed_within (Write w f) i = access_within w f i (Writes w f) (λ k. k)
  deed_within (Crossing w) i = i

-- more workers do no harm
pub deed_wider : (W G F : ℕ) → W ≤ G → (d : Deed) → DeedWithin W F d → DeedWithin G F d
deed_wider W G F l (Reads w f) i = (omega arith, i.1)
deed_wider W G F l (Writes w f) i = (omega arith, i.1)
deed_wider W G F l (Crosses w) i = omega arith
deed_wider W G F l (Signals w) i = omega arith

acts_sound : (W F : ℕ) (d : Deed) → DeedWithin W F d → EventActs W F (acts_of d)
acts_sound W F (Reads w f) i = record { worker = w.0; own = (refl, tt); inside = (i, tt) }
acts_sound W F (Writes w f) i = record { worker = w.0; own = (refl, tt); inside = (i, tt) }
acts_sound W F (Crosses w) i = record { worker = w.0; own = (refl, tt); inside = (i, tt) }
acts_sound W F (Signals w) i = record { worker = w.0; own = (refl, (refl, tt)); inside = (i, (i, tt)) }

-- with P plain fields
module _ (P : ℕ) where
  pub recording_sound : (W F G : ℕ) → ((f : ℕ) → f < P → f < F → f < G) → (es : List Event) → Within W F es → Sound W G (recording_of P es)
  unfolding recording_of
  recording_sound W F G low [] i = tt
  recording_sound W F G low (e ∷ es) i =
      (acts_sound W G (deed_of P e) (deed_within W F G P low e i.0), recording_sound W F G low es i.1)

  pub recording_length : (es : List Event) → length (recording_of P es) ≡ length es
  unfolding recording_of
  recording_length [] = refl
  recording_length (e ∷ es) = rw (recording_length es)

  -- the event that stands first of those from n on
  pub event_is : (es rest : List Event) (n : ℕ) (e : Event) → drop n es ≡ e ∷ rest → get_or (recording_of P es) n [] ≡ acts_of (deed_of P e)
  unfolding recording_of
  event_is [] rest zero e q = let z : ◌≡◌ {A = ℕ} 0 1 = cc in absurd (omega arith)
  event_is [] rest (suc n) e q = let z : ◌≡◌ {A = ℕ} 0 1 = cc in absurd (omega arith)
  event_is (x ∷ es) rest zero e q = let k : x ≡ e = cc in rw k
  event_is (x ∷ es) rest (suc n) e q = event_is es rest n e q

  -- an event has at most two acts
  acts_short : (d : Deed) → length (acts_of d) ≤ 2
  acts_short (Reads w f) = omega arith
  acts_short (Writes w f) = omega arith
  acts_short (Crosses w) = omega arith
  acts_short (Signals w) = omega arith

  pub event_short : (es : List Event) (n : ℕ) → length (get_or (recording_of P es) n []) ≤ 2
  unfolding recording_of
  event_short [] n = omega arith
  event_short (e ∷ es) zero = acts_short (deed_of P e)
  event_short (e ∷ es) (suc n) = event_short es n

-- past the end there are no acts
pub event_sound : (W F : ℕ) (es : Recording) → Sound W F es → (n : ℕ) → EventActs W F (get_or es n [])
event_sound W F [] s n = record { worker = 0; own = tt; inside = tt }
event_sound W F (e ∷ es) s zero = s.0
event_sound W F (e ∷ es) s (suc n) = event_sound W F es s.1 n

pub before_next : (h : History) (es : Recording) (n : ℕ) → before h es (suc n) ≡ entered (before h es n) (get_or es n [])
unfolding before entered
before_next h [] zero = refl
before_next h [] (suc n) = refl
before_next h (e ∷ es) zero = refl
before_next h (e ∷ es) (suc n) = before_next (entered h e) es n

module _ (W F : ℕ) where
  pub entered_within : (h : History) (e : List Act) → ActsWithin W F h → ActsWithin W F e → ActsWithin W F (entered h e)
  unfolding entered
  entered_within h [] i j = i
  entered_within h (a ∷ more) i j = entered_within (a ∷ h) more (j.0, i) j.1

  pub before_within : (es : Recording) → Sound W F es → (n : ℕ) → ActsWithin W F (before [] es n)
  unfolding before
  before_within es s zero = tt
  before_within es s (suc n) =
      rw before_next
      (entered_within (before [] es n) (get_or es n []) (before_within es s n) (event_sound W F es s n).inside)

-- no act so far was such
abbrev pub No : (History → Act → Type 0) → History → Type 0
No Such [] = Unit {0}
No Such (a ∷ h) = (Such h a → ⊥) × No Such h

-- What an act meets does not depend on its own worker's acts. So an event's acts that are calm together are calm one after another.
module _ (Such : History → Act → Type 0) (own : (h : History) (a b : Act) → worker_of b ≡ worker_of a → Such (a ∷ h) b → Such h b) where
  back : (h : History) (a : Act) (more : List Act) → ActsOf (worker_of a) more → Some (Such (a ∷ h)) more → Some (Such h) more
  back h a [] o s = elim s [ ]
  back h a (b ∷ more) o (here s) = here (own h a b o.0 s)
  back h a (b ∷ more) o (later s) = later (back h a more o.1 s)

  pub calm_entered : (w : ℕ) (h : History) (e : List Act) → ActsOf w e → (Some (Such h) e → ⊥) → No Such h → No Such (entered h e)
  unfolding entered
  calm_entered w h [] o z c = c
  calm_entered w h (a ∷ more) o z c =
      calm_entered w (a ∷ h) more o.1 (λ s. z (later (back h a more (rw o.0 o.1) s))) (λ s. z (here s), c)

  pub calm_before : (W F : ℕ) (es : Recording) → Sound W F es → (n : ℕ) → ((m : ℕ) → m < n → SomeAt Such es m → ⊥) → No Such (before [] es n)
  unfolding before
  calm_before W F es s zero z = tt
  calm_before W F es s (suc n) z =
      let e = event_sound W F es s n in
      rw before_next
      (calm_entered e.worker (before [] es n) (get_or es n []) e.own (z n (omega arith))
      (calm_before W F es s n (λ m l. z m (omega arith))))
