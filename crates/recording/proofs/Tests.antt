-- Laws of tests in their order: what has passed once the whole is fine.
use mathlib.Core.Path.{◌≡◌, refl}
use mathlib.Core.Bool.{Bool, true, false, ◌&&◌}
use Prim.Native.Nat.{ℕ, zero, suc, ◌+◌, ◌*◌, ◌-◌, ◌<◌, ◌≤◌}
use native.Mathlib.Omega.{arith}
use lib.Dec.{ltb, leb}
use borrow.Author.Tests.{leb-true, le-leb, ltb-true, ltb-false, lt-ltb}
use Rattle.recording.specs.declared.refusal.Reason.{Reason}
use Rattle.recording.specs.declared.refusal.Refusal.{Refusal}
use Rattle.recording.specs.declared.refusal.Reason.TheVariants.{Kind as BadKind, Worker as BadWorker, Field as BadField}
use Rattle.recording.specs.Refusals.{Fault, fine, refused}
use Rattle.std.specs.Prelude.{Ok, Err}
use Rattle.recording.specs.declared.Entry.{Entry}
use Rattle.recording.specs.Tests.{need, ◌then◌, event_bytes, rising, kind_allowed, field_allowed, event_place, event_tests, section, label_section}
use Rattle.recording.specs.File.{answered}

pub need_fine : (t : Bool) (reason : Reason) (place : ℕ) → need t reason place ≡ fine → t ≡ true
unfolding need
need_fine true reason place e = refl
need_fine false reason place e = let z : ◌≡◌ {A = ℕ} 0 1 = cc in absurd (omega arith)

pub then_fine : (a b : Fault) → (a then b) ≡ fine → (a ≡ fine) × (b ≡ fine)
unfolding ◌then◌
then_fine (Ok done) b e = (refl, e)
then_fine (Err refusal) b e = let z : ◌≡◌ {A = ℕ} 0 1 = cc in absurd (omega arith)

pub and_both : (a b : Bool) → a && b ≡ true → (a ≡ true) × (b ≡ true)
and_both true b t = (refl, t)
and_both false b t = let z : ◌≡◌ {A = ℕ} 0 1 = cc in absurd (omega arith)

-- what a section that is fine has passed
pub record Passed (size at : ℕ) (range : Fault) (bytes : ℕ) (items : Fault) : Type 0 where
  pub range_fine : range ≡ fine
  pub room : at + 2 + bytes ≤ size
  pub items_fine : items ≡ fine

pub section_passed : (size at : ℕ) (range : Fault) (bytes : ℕ) (items : Fault) → section size at range bytes items ≡ fine → Passed size at range bytes items
unfolding section
section_passed size at range bytes items e =
    let a = then_fine _ _ e in
    let b = then_fine _ _ a.1 in
    let c = then_fine _ _ b.1 in
    record {
      range_fine = b.0;
      room = leb-true (at + 2 + bytes) size (need_fine _ _ _ c.0);
      items_fine = c.1;
    }

pub answered_ok : {A : Type 0} (x : Fault) (n m : A) → answered x n ≡ Ok m → (x ≡ fine) × (n ≡ m)
answered_ok (Ok done) n m e = (refl, cc)
answered_ok (Err refusal) n m e = let z : ◌≡◌ {A = ℕ} 0 1 = cc in absurd (omega arith)

pub answered_err : {A : Type 0} (x : Fault) (n : A) (refusal : Refusal) → answered x n ≡ Err refusal → x ≡ Err refusal
answered_err (Ok done) n refusal e = let z : ◌≡◌ {A = ℕ} 0 1 = cc in absurd (omega arith)
answered_err (Err found) n refusal e = cc

pub fine_need : (t : Bool) (reason : Reason) (place : ℕ) → t ≡ true → need t reason place ≡ fine
unfolding need
fine_need t reason place e = rw e

pub fine_then : (a b : Fault) → a ≡ fine → b ≡ fine → (a then b) ≡ fine
unfolding ◌then◌
fine_then a b p q = rw p q

-- a test that passes, before or after the others
pub fine_first : (a b : Fault) → a ≡ fine → (a then b) ≡ b
unfolding ◌then◌
fine_first a b p = rw p

pub then_done : (a b : Fault) → b ≡ fine → (a then b) ≡ a
unfolding ◌then◌
then_done (Ok done) b p = p
then_done (Err refusal) b p = refl

pub passed_section : (size at : ℕ) (range : Fault) (bytes : ℕ) (items : Fault) → Passed size at range bytes items → section size at range bytes items ≡ fine
unfolding section
passed_section size at range bytes items p =
    let l = p.room in
    fine_then _ _ (fine_need (leb (at + 2) size) _ _ (le-leb (at + 2) size (omega arith)))
    (fine_then range _ p.range_fine
    (fine_then _ items (fine_need (leb (at + 2 + bytes) size) _ _ (le-leb (at + 2 + bytes) size l)) p.items_fine))

-- a number is the first of some, or comes later
pub first_or_later : {P : Type 0} (n j : ℕ) → n ≤ j → (n ≡ j → P) → (n + 1 ≤ j → P) → P
first_or_later {P} n j l here later = by (ltb n j) refl
  where
    by : (t : Bool) → ltb n j ≡ t → P
    by true e = let m = ltb-true n j e in later (omega arith)
    by false e = let m = ltb-false n j e in here (omega arith)

-- labels rise exactly if each is below the next
pub rising_fine : (label : ℕ → ℕ) (order : Reason) (at n k : ℕ) → rising label order at n k ≡ fine → (j : ℕ) → n ≤ j → j < n + k → label j < label (j + 1)
unfolding rising
rising_fine label order at n zero e j l m = absurd (omega arith)
rising_fine label order at n (suc k) e j l m =
    let a = then_fine _ _ e in
    first_or_later n j l
    (λ q. rw q at (ltb-true (label n) (label (n + 1)) (need_fine _ _ _ a.0)))
    (λ p. rising_fine label order at (n + 1) k a.1 j p (omega arith))

pub fine_rising : (label : ℕ → ℕ) (order : Reason) (at n k : ℕ) → ((j : ℕ) → n ≤ j → j < n + k → label j < label (j + 1)) → rising label order at n k ≡ fine
unfolding rising
fine_rising label order at n zero up = refl
fine_rising label order at n (suc k) up =
    fine_then _ _ (fine_need _ _ _ (lt-ltb (label n) (label (n + 1)) (up n (omega arith) (omega arith))))
    (fine_rising label order at (n + 1) k (λ j l m. up j (omega arith) (omega arith)))

-- a section of labels is fine exactly if its count is in range and its labels are there and rise
module _ (size at count : ℕ) (label : ℕ → ℕ) (limit : ℕ) (range order : Reason) where
  pub record Labels : Type 0 where
    pub some : 1 ≤ count
    pub few : count ≤ limit
    pub room : at + 2 + 2 * count ≤ size
    pub rise : (n : ℕ) → n + 1 < count → label n < label (n + 1)

  pub labels_good : label_section size at count label limit range order ≡ fine → Labels
  unfolding label_section
  labels_good t =
      let p = section_passed size at _ _ _ t in
      let b = and_both (ltb 0 count) (leb count limit) (need_fine _ _ _ p.range_fine) in
      let some = ltb-true 0 count b.0 in
      record {
        some = omega arith;
        few = leb-true count limit b.1;
        room = p.room;
        rise = λ n l. rising_fine label order (at + 2) 0 (count - 1) p.items_fine n (omega arith) (omega arith);
      }

  pub good_labels : Labels → label_section size at count label limit range order ≡ fine
  unfolding label_section
  good_labels g =
      let some = g.some in
      passed_section size at _ _ _
      (record {
        range_fine = fine_need _ _ _ (rw (lt-ltb 0 count (omega arith), le-leb count limit g.few));
        room = g.room;
        items_fine = fine_rising label order (at + 2) 0 (count - 1) (λ n l m. g.rise n (omega arith));
      })

-- a fault so many bytes further on
unfoldable pub further : ℕ → Fault → Fault
further start (Ok done) = fine
further start (Err r) = refused r.reason (start + r.place)

-- an event's tests, by what each of them finds
abbrev found : Bool → Bool → Bool → ℕ → Fault
found kind worker field start = need kind BadKind (event_place BadKind start) then need worker BadWorker (event_place BadWorker start) then need field BadField (event_place BadField start)

-- they answer at any place what they answer at 0, so many bytes further on, and their place is one of the event's bytes
module _ (W F : ℕ) (e : Entry) where
  pub event_further : (start : ℕ) → event_tests W F e start ≡ further start (event_tests W F e 0)
  unfolding event_tests event_place further ◌then◌ need
  event_further start = by (kind_allowed e.kind) (ltb e.worker W) (field_allowed F e.kind e.field)
    where
      by : (kind worker field : Bool) → found kind worker field start ≡ further start (found kind worker field 0)
      by false worker field = let z : start ≡ start + 0 = omega arith in cc
      by true false field = refl
      by true true false = refl
      by true true true = refl

  pub event_byte : (r : Fault) (refusal : Refusal) → r ≡ event_tests W F e 0 → r ≡ Err refusal → refusal.place < event_bytes
  unfolding event_tests event_place ◌then◌ need
  event_byte r refusal = by (kind_allowed e.kind) (ltb e.worker W) (field_allowed F e.kind e.field)
    where
      by : (kind worker field : Bool) → r ≡ found kind worker field 0 → r ≡ Err refusal → refusal.place < event_bytes
      by false worker field t k = let z : 0 ≡ refusal.place = cc in omega arith
      by true false field t k = let z : 1 ≡ refusal.place = cc in omega arith
      by true true false t k = let z : 2 ≡ refusal.place = cc in omega arith
      by true true true t k = let z : ◌≡◌ {A = ℕ} 0 1 = cc in absurd (omega arith)

-- two lists of tests that answer the same
pub then_same : (a a' b b' : Fault) → a ≡ a' → (a ≡ fine → b ≡ b') → (a then b) ≡ (a' then b')
unfolding ◌then◌
then_same (Ok done) a' b b' p q = rw (← p) (q refl)
then_same (Err refusal) a' b b' p q = rw (← p)

pub section_same : (size size' at bytes : ℕ) (range items items' : Fault) → at + 2 ≤ size → at + 2 ≤ size'
    → (range ≡ fine → (at + 2 + bytes ≤ size) × (at + 2 + bytes ≤ size') × (items ≡ items'))
    → section size at range bytes items ≡ section size' at range bytes items'
unfolding section ◌then◌ need
section_same size size' at bytes range items items' l l' q =
    rw (le-leb (at + 2) size l, le-leb (at + 2) size' l')
    (then_same range range _ _ refl
    (λ fine. let p = q fine in rw (le-leb (at + 2 + bytes) size p.0, le-leb (at + 2 + bytes) size' p.1) p.2))
