-- The definitions that look back over a history say what the numbers of the events say.
use mathlib.Core.Path.{◌≡◌, refl, sym, ◌∙◌}
use mathlib.Core.Bool.{Bool, true, false, not, ◌&&◌, ◌||◌, or-true}
use mathlib.Core.List.{List, [], ◌∷◌}
use Prim.Native.Nat.{ℕ, zero, suc}
use native.Mathlib.Omega.{arith}
use lib.Dec.{eqb, leb, T}
use lib.ListN.{get_or}
use borrow.Author.Tests.{eq-eqb, eqb-true}
use Rattle.events.specs.declared.Event.{Event}
use Rattle.events.specs.declared.Event.TheVariants.{Read, Write, Crossing}
use Rattle.events.specs.Acts.{History, deed_of, acts_of, recording_of, entered, before}
use Rattle.events.specs.Stretches.{has_read, has_written}
use Rattle.events.specs.Positions.{EventIs, closes, ClosesAt, OpenSince}
use Rattle.events.specs.Clashes.{Some}
use Rattle.events.specs.Reports.{Exactly, Crosses}
use Rattle.events.proofs.Tests.{bool, same, T_of, of_T, and_left, and_right}
use Rattle.events.proofs.Histories.{before_next}
use Rattle.events.proofs.Deeds.{closes_crosses}

one_event : (es : List Event) (n : ℕ) (d e : Event) → EventIs es n d → EventIs es n e → d ≡ e
one_event (x ∷ es) zero d e p q = sym p ∙ q
one_event (x ∷ es) (suc n) d e p q = one_event es n d e p q
one_event [] n d e p q = absurd p

-- there is an event n, or the recording has ended before
data EventAt (P : ℕ) (es : List Event) (n : ℕ) : Type 0 where
  is_there : (e : Event) → EventIs es n e → get_or (recording_of P es) n [] ≡ acts_of (deed_of P e) → EventAt P es n
  past : ((e : Event) → EventIs es n e → ⊥) → get_or (recording_of P es) n [] ≡ [] → EventAt P es n

event_at_lem : (P : ℕ) (es : List Event) (n : ℕ) → EventAt P es n
unfolding recording_of
event_at_lem P [] n = past (λ e i. i) refl
event_at_lem P (x ∷ es) zero = is_there x refl refl
event_at_lem P (x ∷ es) (suc n) = go (event_at_lem P es n)
  where
    go : EventAt P es n → EventAt P (x ∷ es) (suc n)
    go (is_there e i q) = is_there e i q
    go (past z q) = past z q

-- an event that closes u's stretch is one with a crossing of u among its acts
pub crossing_at : (P : ℕ) (es : List Event) (n u : ℕ) → ClosesAt P es n u → Some (Crosses u) (get_or (recording_of P es) n [])
crossing_at P es n u c = go (event_at_lem P es n)
  where
    go : EventAt P es n → Some (Crosses u) (get_or (recording_of P es) n [])
    go (is_there e i q) = rw (q, one_event es n e c.event i c.is) (closes_crosses P u c.event c.closing)
    go (past z q) = absurd (z c.event c.is)

-- A test of histories that one access of w makes true, that an event which closes w's stretch makes false, and that no other event changes.
pub record Follows (P : ℕ) (has : History → Bool) (access : Event) (w : ℕ) : Type 0 where
  hit : Event → Bool
  begins : has [] ≡ false
  goes_on : (h : History) (e : Event) → has (entered h (acts_of (deed_of P e))) ≡ (hit e || (not (closes P w e) && has h))
  hit_is : (e : Event) → hit e ≡ true → e ≡ access
  hit_closes_not : (e : Event) → hit e ≡ true → closes P w e ≡ false
  access_hits : closes P w access ≡ false → hit access ≡ true

module _ {P : ℕ} {has : History → Bool} {access : Event} {w : ℕ} (follows : Follows P has access w) (es : List Event) where
  abbrev now : ℕ → Bool
  now n = has (before [] (recording_of P es) n)

  next : (n : ℕ) (e : Event) → get_or (recording_of P es) n [] ≡ acts_of (deed_of P e) → now (suc n) ≡ (follows.hit e || (not (closes P w e) && now n))
  next n e q = rw (before_next, q) (follows.goes_on (before [] (recording_of P es) n) e)

  stay : (n : ℕ) → get_or (recording_of P es) n [] ≡ [] → now (suc n) ≡ now n
  unfolding entered
  stay n q = rw (before_next, q)

  not_closing : (n : ℕ) (e : Event) → EventIs es n e → closes P w e ≡ false → ClosesAt P es n w → ⊥
  not_closing n e i q c =
      let k : e ≡ c.event = one_event es n e c.event i c.is in
      absurd (T_of (sym (rw k at q) ∙ of_T (closes P w c.event) c.closing))

  longer : (n : ℕ) → (ClosesAt P es n w → ⊥) → OpenSince P es n w access → OpenSince P es (suc n) w access
  longer n z o = record {
    event = o.event;
    earlier = let l = o.earlier in omega arith;
    is = o.is;
    none_closes = λ k a b c. same k n (λ q _. z (rw q at c)) (λ ne _. o.none_closes k a (omega arith) c);
  }

  shorter : (n : ℕ) (o : OpenSince P es (suc n) w access) → (o.event ≡ n → ⊥) → OpenSince P es n w access
  shorter n o ne = record {
    event = o.event;
    earlier = let l = o.earlier in omega arith;
    is = o.is;
    none_closes = λ k a b. o.none_closes k a (omega arith);
  }

  to_positions : (n : ℕ) → now n ≡ true → OpenSince P es n w access
  unfolding before
  to_positions zero t = absurd (T_of (sym follows.begins ∙ t))
  to_positions (suc n) t = go (to_positions n) (event_at_lem P es n)
    where
      go : (now n ≡ true → OpenSince P es n w access) → EventAt P es n → OpenSince P es (suc n) w access
      go earlier (past z q) = longer n (λ c. z c.event c.is) (earlier (sym (stay n q) ∙ t))
      go earlier (is_there e i q) =
          bool (follows.hit e)
          (λ p.
          record {
            event = n;
            earlier = omega arith;
            is = rw (follows.hit_is e p) at i;
            none_closes = λ k a b c. let m : k ≡ n = omega arith in not_closing n e i (follows.hit_closes_not e p) (rw m at c);
          })
          (λ p.
          let both : (not (closes P w e) && now n) ≡ true = rw p at (sym (next n e q) ∙ t) in
          longer n
          (λ c. not_closing n e i (bool (closes P w e) (λ s. absurd (T_of (rw s at (and_left (not (closes P w e)) (now n) both)))) (λ s. s)) c)
          (earlier (and_right (not (closes P w e)) (now n) both)))

  from_positions : (n : ℕ) → OpenSince P es n w access → now n ≡ true
  unfolding before
  from_positions zero o = absurd (let l = o.earlier in omega arith)
  from_positions (suc n) o = go (λ ne. from_positions n (shorter n o ne)) (event_at_lem P es n)
    where
      go : ((o.event ≡ n → ⊥) → now n ≡ true) → EventAt P es n → now (suc n) ≡ true
      go earlier (past z q) = stay n q ∙ earlier (λ k. z access (rw k at o.is))
      go earlier (is_there e i q) =
          let kept : closes P w e ≡ false =
          bool (closes P w e)
          (λ c. absurd (o.none_closes n (let l = o.earlier in omega arith) (omega arith) (record { event = e; is = i; closing = T_of c })))
          (λ c. c) in
          next n e q ∙ same o.event n
          (λ k _. let a : e ≡ access = one_event es n e access i (rw k at o.is) in rw (a, follows.access_hits (rw a at kept)))
          (λ ne _. rw (kept, earlier ne) (or-true (follows.hit e)))

  pub positions : (n : ℕ) → Exactly (T (now n)) (OpenSince P es n w access)
  positions n = (λ t. to_positions n (of_T (now n) t), λ o. T_of (from_positions n o))

-- worker u's access of field g is worker w's access of field f, which is plain
module _ (P w f : ℕ) where
  abbrev hits : ℕ → ℕ → Bool
  hits u g = not (leb P g) && (eqb g f && eqb u w)

  hits_same : (u g : ℕ) → hits u g ≡ true → (g ≡ f) × (u ≡ w)
  hits_same u g t =
      let both = and_right (not (leb P g)) (eqb g f && eqb u w) t in
      (eqb-true g f (and_left (eqb g f) (eqb u w) both), eqb-true u w (and_right (eqb g f) (eqb u w) both))

  hits_plain : (u g : ℕ) → hits u g ≡ true → (leb P g && eqb u w) ≡ false
  hits_plain u g t = bool (leb P g) (λ s. absurd (T_of (rw s at t))) (λ s. rw s)

  hits_itself : (leb P f && eqb w w) ≡ false → hits w f ≡ true
  hits_itself z =
      bool (leb P f)
      (λ s. absurd (T_of (sym (rw (s, eq-eqb w w refl) at z))))
      (λ s. rw (s, eq-eqb f f refl, eq-eqb w w refl))

  -- two crossings close what one closes
  twice : (u : ℕ) (b : Bool) → (not (eqb u w) && (not (eqb u w) && b)) ≡ (not (eqb u w) && b)
  twice u b = bool (eqb u w) (λ s. rw s) (λ s. rw s)

  abbrev read_of : Event → Bool
  read_of (Read u g) = hits u.0 g.0
  read_of (Write u g) = false
  read_of (Crossing u) = false

  read_of_lem : (e : Event) → read_of e ≡ true → e ≡ Read (record { 0 = w }) (record { 0 = f })
  read_of_lem (Read u g) t = let q = hits_same u.0 g.0 t in rw (← q.0, ← q.1)
  read_of_lem (Write u g) t = absurd (T_of t)
  read_of_lem (Crossing u) t = absurd (T_of t)

  read_plain : (e : Event) → read_of e ≡ true → closes P w e ≡ false
  read_plain (Read u g) t = hits_plain u.0 g.0 t
  read_plain (Write u g) t = absurd (T_of t)
  read_plain (Crossing u) t = absurd (T_of t)

  read_on : (h : History) (e : Event) → has_read (entered h (acts_of (deed_of P e))) w f ≡ (read_of e || (not (closes P w e) && has_read h w f))
  unfolding has_read entered
  read_on h (Read u g) = bool (leb P g.0) (λ t. rw t (twice u.0 (has_read h w f))) (λ t. rw t)
  read_on h (Write u g) = bool (leb P g.0) (λ t. rw t (twice u.0 (has_read h w f))) (λ t. rw t)
  read_on h (Crossing u) = refl

  pub read_follows : Follows P (λ h. has_read h w f) (Read (record { 0 = w }) (record { 0 = f })) w
  unfolding has_read
  read_follows = record {
    hit = read_of;
    begins = refl;
    goes_on = read_on;
    hit_is = read_of_lem;
    hit_closes_not = read_plain;
    access_hits = hits_itself;
  }

  abbrev write_of : Event → Bool
  write_of (Read u g) = false
  write_of (Write u g) = hits u.0 g.0
  write_of (Crossing u) = false

  write_of_lem : (e : Event) → write_of e ≡ true → e ≡ Write (record { 0 = w }) (record { 0 = f })
  write_of_lem (Read u g) t = absurd (T_of t)
  write_of_lem (Write u g) t = let q = hits_same u.0 g.0 t in rw (← q.0, ← q.1)
  write_of_lem (Crossing u) t = absurd (T_of t)

  write_plain : (e : Event) → write_of e ≡ true → closes P w e ≡ false
  write_plain (Read u g) t = absurd (T_of t)
  write_plain (Write u g) t = hits_plain u.0 g.0 t
  write_plain (Crossing u) t = absurd (T_of t)

  write_on : (h : History) (e : Event) → has_written (entered h (acts_of (deed_of P e))) w f ≡ (write_of e || (not (closes P w e) && has_written h w f))
  unfolding has_written entered
  write_on h (Read u g) = bool (leb P g.0) (λ t. rw t (twice u.0 (has_written h w f))) (λ t. rw t)
  write_on h (Write u g) = bool (leb P g.0) (λ t. rw t (twice u.0 (has_written h w f))) (λ t. rw t)
  write_on h (Crossing u) = refl

  pub written_follows : Follows P (λ h. has_written h w f) (Write (record { 0 = w }) (record { 0 = f })) w
  unfolding has_written
  written_follows = record {
    hit = write_of;
    begins = refl;
    goes_on = write_on;
    hit_is = write_of_lem;
    hit_closes_not = write_plain;
    access_hits = hits_itself;
  }
