-- Laws of lent tables: one that is filled from the front, one after a store, one that shows given words.
use mathlib.Core.Path.{◌≡◌, refl, sym, ◌∙◌, ap}
use mathlib.Core.Bool.{cond, ◌&&◌}
use mathlib.Core.List.{List, ◌++◌}
use Prim.Native.Nat.{ℕ, zero, suc, ◌+◌, ◌*◌, ◌/◌, ◌%◌, ◌<◌, ◌≤◌}
use native.Mathlib.Nat.{add-zero}
use native.Mathlib.Omega.{arith}
use Rattle.std.proofs.lemmas.Grind.{common_steps}
use Rattle.std.proofs.lemmas.Slice.{drop-append-drop}
use lib.Dec.{eqb, ltb}
use lib.ListN.{length, get_or, set, replicate, take, drop, length-append, length-replicate, length-take, length-drop, length-set, take-append-drop}
use lib.Seq.{get_or-set_same, get_or-set_other, get_or-take, drop-set-lt, ext_get_or}
use borrow.Author.Tests.{eq-eqb, ne_eqb, ltb-true, ltb-false}
use Rattle.events.proofs.Tests.{bool, same}
use Rattle.tables.specs.Lent.{listed, showing, cells, filled, Shown}

-- a table that is filled from the front
module _ (v : ℕ) (d : List ℕ) where
  pub length-filled : (n : ℕ) → n ≤ length d → length (filled n v d) ≡ length d
  unfolding filled
  length-filled n l = rw (length-append, length-replicate, length-drop) (omega arith)

  drop-filled : (n m : ℕ) → n ≤ m → drop m (filled n v d) ≡ drop m d
  unfolding filled
  drop-filled n m l = drop-append-drop n d (replicate n v) m l (length-replicate n v)

  get_or-past : (n i : ℕ) → n ≤ i → get_or (filled n v d) i 0 ≡ get_or d i 0
  unfolding filled
  get_or-past n i l = grind (arith, common_steps)

  get_or-filled : (n i : ℕ) → i < n → get_or (filled n v d) i 0 ≡ v
  unfolding filled
  get_or-filled n i l = grind (arith, common_steps)

-- a word after a store
pub get_or-set : (l : List ℕ) (i a j : ℕ) → i < length l → get_or (set l i a) j 0 ≡ cond (eqb i j) a (get_or l j 0)
get_or-set l i a j b = same i j (λ q t. rw (t, ← q) (get_or-set_same l i a 0 b)) (λ q t. rw t (get_or-set_other l i j a 0 (λ k. q (sym k))))

length-listed : (word : ℕ → ℕ) (i k : ℕ) → length (listed word i k) ≡ k
unfolding listed
length-listed word i zero = refl
length-listed word i (suc k) = rw (length-listed word (i + 1) k)

get_or-listed : (word : ℕ → ℕ) (i k j : ℕ) → j < k → get_or (listed word i k) j 0 ≡ word (i + j)
unfolding listed
get_or-listed word i zero j l = absurd (omega arith)
get_or-listed word i (suc k) zero l = rw add-zero
get_or-listed word i (suc k) (suc j) l =
    let q : i + suc j ≡ i + 1 + j = omega arith in
    rw q (get_or-listed word (i + 1) k j (omega arith))

module _ (full : ℕ) (word : ℕ → ℕ) (lent : List ℕ) where
  -- so it is determined
  pub shown_is : (l : List ℕ) → Shown full word lent l → l ≡ showing full word lent
  unfolding showing
  shown_is l s = sym (take-append-drop full l) ∙ rw s.past (ap (λ (t : List ℕ). t ++ drop full lent) front)
    where
      enough : length (take full l) ≡ full
      enough = rw length-take (omega (arith, s.same_length, s.long))

      front : take full l ≡ listed word 0 full
      front =
          ext_get_or 0 (take full l) (listed word 0 full) (enough ∙ sym (length-listed word 0 full)) (λ i b.
          let k : i < full = omega (arith, enough) in
          let z : 0 + i ≡ i = omega arith in
          get_or-take full l i 0 k ∙ s.words i k ∙ sym (rw z at (get_or-listed word 0 full i k)))

  pub shown_length : (l : List ℕ) → Shown full word lent l → full ≤ length l
  shown_length l s = omega (arith, s.long, s.same_length)

  pub shown_same : (word' : ℕ → ℕ) (l : List ℕ) → Shown full word lent l → ((i : ℕ) → i < full → word' i ≡ word i) → Shown full word' lent l
  shown_same word' l s q = record {
    long = s.long;
    same_length = s.same_length;
    words = λ i b. s.words i b ∙ sym (q i b);
    past = s.past;
  }

  -- with a store
  pub shown_set : (word' : ℕ → ℕ) (l : List ℕ) (j a : ℕ) → Shown full word lent l → j < full
      → ((i : ℕ) → i < full → word' i ≡ cond (eqb j i) a (word i)) → Shown full word' lent (set l j a)
  shown_set word' l j a s b q = record {
    long = s.long;
    same_length = length-set l j a ∙ s.same_length;
    words = λ i k. get_or-set l j a i (omega (arith, shown_length l s)) ∙ rw (s.words i k) (sym (q i k));
    past = drop-set-lt full l j a b ∙ s.past;
  }

-- filled with one word
pub shown_filled : (full v : ℕ) (lent : List ℕ) → full ≤ length lent → Shown full (λ i. v) lent (filled full v lent)
shown_filled full v lent l = record {
  long = l;
  same_length = length-filled v lent full l;
  words = get_or-filled v lent full;
  past = drop-filled v lent full full (omega arith);
}

-- the first n words filled with another
pub shown_filled_more : (full n v : ℕ) (word : ℕ → ℕ) (lent l : List ℕ) → Shown full word lent l → n ≤ full
    → (word' : ℕ → ℕ) → ((i : ℕ) → i < n → word' i ≡ v) → ((i : ℕ) → n ≤ i → word' i ≡ word i) → Shown full word' lent (filled n v l)
shown_filled_more full n v word lent l s b word' low high = record {
  long = s.long;
  same_length = length-filled v l n (omega (arith, s.long, s.same_length)) ∙ s.same_length;
  words = λ i k. by i k;
  past = drop-filled v l n full b ∙ s.past;
}
  where
    by : (i : ℕ) → i < full → get_or (filled n v l) i 0 ≡ word' i
    by i k =
        bool (ltb i n)
        (λ t. get_or-filled v l n i (ltb-true i n t) ∙ sym (low i (ltb-true i n t)))
        (λ t. get_or-past v l n i (ltb-false i n t) ∙ s.words i k ∙ sym (high i (ltb-false i n t)))

-- sixteen words for each field: word 16f + w
module _ (word : ℕ → ℕ → ℕ) (f w : ℕ) (b : w < 16) where
  pub cell : cells word (16 * f + w) ≡ word f w
  cell = let p : (16 * f + w) / 16 ≡ f = omega arith in let q : (16 * f + w) % 16 ≡ w = omega arith in rw (p, q)

  pub shown_cell : (full : ℕ) (lent l : List ℕ) → Shown full (cells word) lent l → 16 * f + w < full → get_or l (16 * f + w) 0 ≡ word f w
  shown_cell full lent l s k = s.words (16 * f + w) k ∙ cell

-- a place names its field and its worker
pub eqb_cell : (f w i : ℕ) → w < 16 → eqb (16 * f + w) i ≡ (eqb f (i / 16) && eqb w (i % 16))
eqb_cell f w i b =
    same f (i / 16)
    (λ q t.
    rw t
    (same w (i % 16)
    (λ q' t'. rw t' (eq-eqb (16 * f + w) i (omega arith)))
    (λ q' t'. rw t' (ne_eqb (16 * f + w) i (λ k. q' (omega arith))))))
    (λ q t. rw t (ne_eqb (16 * f + w) i (λ k. q (omega arith))))

-- what a table shows after it showed something else
pub shown_since : (full : ℕ) (word word' : ℕ → ℕ) (lent l l' : List ℕ) → Shown full word lent l → Shown full word' l l' → Shown full word' lent l'
shown_since full word word' lent l l' s s' = record {
  long = s.long;
  same_length = s'.same_length ∙ s.same_length;
  words = s'.words;
  past = s'.past ∙ s.past;
}

-- of itself
pub shown_itself : (full : ℕ) (word : ℕ → ℕ) (lent l : List ℕ) → Shown full word lent l → Shown full word l l
shown_itself full word lent l s = record {
  long = omega (arith, s.long, s.same_length);
  same_length = refl;
  words = s.words;
  past = refl;
}
