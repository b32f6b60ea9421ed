-- Laws of a pass over a text: which words are left of it, and what is left behind the next.
use Rattle.std.proofs.Common.{◌≡◌, ℕ, zero, suc, ◌+◌, ◌-◌, ◌<◌, ◌≤◌, Bool, true, false, not, List, [], ◌∷◌, length, get_or, take, drop, Some, None, arith, refl, sym, ap, ◌∙◌, ⊎_elim, length-drop}
use Rattle.std.proofs.lemmas.Option.{none-some}
use Rattle.std.proofs.str.Laws.{order}
use Rattle.std.specs.List.{position, prefix_len, position_or_len}
use Rattle.std.specs.Prelude.{Option}
use Rattle.std.proofs.lemmas.List.{get_or-drop}
use Rattle.std.proofs.lemmas.List.Sums.{prefix_len_passes, prefix_len_stops, prefix_len-le-length, fails_before_first}
use Rattle.std.proofs.lemmas.List.Quantifiers.{position-Some}
use borrow.Author.Tests.{lt-ltb, le-ltb, le-leb, lt-leb, ltb-false}
use lib.Seq.{take_all}
use lib.Dec.{ltb}
use mathlib.Core.Bool.{and-false}
use native.Mathlib.Nat.{sub-zero}
use Rattle.sorts.proofs.Counting.{one_left, none_left}
use Rattle.events.proofs.Tests.{bool}
use Rattle.spelling.specs.declared.word.Heading.{Heading}
use Rattle.spelling.specs.declared.word.Heading.TheVariants.{Before}
use Rattle.spelling.specs.declared.word.Word.{Word}
use Rattle.spelling.specs.declared.words.Placed.{Placed}
use Rattle.spelling.specs.Notation.{is_blank, blank_at, word_under, heading_after, words_from, words}
use Rattle.spelling.specs.Passes.{left_from}

-- the words from byte i on, where one has begun at start
abbrev pass : List ℕ → Heading → ℕ → ℕ → List Placed
pass text heading start i = words_from text heading start i (length text + 1 - i)

-- a text before its first word
pub all_left : (text : List ℕ) → left_from text Before 0 ≡ words text
unfolding left_from words
all_left text = rw (sub-zero (length text + 1))

-- What byte i of a text is.
module _ (text : List ℕ) (i : ℕ) where
  blank_end : length text ≤ i → blank_at text i ≡ true
  unfolding blank_at
  blank_end l = rw (le-leb (length text) i l)

  blank_is : (b : Bool) → i < length text → is_blank (get_or text i 0) ≡ b → blank_at text i ≡ b
  unfolding blank_at
  blank_is b l q = rw (lt-leb (length text) i l) q

-- One byte more.
module _ (text : List ℕ) (heading : Heading) where
  over_blank : (i : ℕ) → i < length text + 1 → blank_at text i ≡ true → left_from text heading i ≡ left_from text heading (i + 1)
  unfolding left_from words_from
  over_blank i l t = rw (one_left i (length text + 1) l, t, le-ltb i i (omega arith))

  over_byte : (start i : ℕ) → i < length text + 1 → blank_at text i ≡ false → pass text heading start i ≡ pass text heading start (i + 1)
  unfolding words_from
  over_byte start i l t = rw (one_left i (length text + 1) l, t, and-false)

  past_end : (i : ℕ) → length text + 1 ≤ i → left_from text heading i ≡ []
  unfolding left_from words_from
  past_end i l = rw (none_left i (length text + 1) l)

  word_ends : (start i : ℕ) (word : Option Word) → start < i → i < length text + 1 → blank_at text i ≡ true → word ≡ word_under heading (take (i - start) (drop start text))
      → pass text heading start i ≡ record { place = start; word = word } ∷ left_from text (heading_after heading word) (i + 1)
  unfolding left_from words_from
  word_ends start i word s l t q = rw (q, one_left i (length text + 1) l, t, lt-ltb start i s)

  -- So many bytes more, up to byte j.
  over_blanks : (n i j : ℕ) → j ≡ i + n → j ≤ length text + 1 → ((k : ℕ) → i ≤ k → k < j → blank_at text k ≡ true) → left_from text heading i ≡ left_from text heading j
  over_blanks zero i j e l h = let same : i ≡ j = omega arith in rw same
  over_blanks (suc n) i j e l h = over_blank i (omega arith) (h i (omega arith) (omega arith)) ∙ over_blanks n (i + 1) j (omega arith) l (λ k a b. h k (omega arith) b)

  over_bytes : (start n i j : ℕ) → j ≡ i + n → j ≤ length text + 1 → ((k : ℕ) → i ≤ k → k < j → blank_at text k ≡ false) → pass text heading start i ≡ pass text heading start j
  over_bytes start zero i j e l h = let same : i ≡ j = omega arith in rw same
  over_bytes start (suc n) i j e l h = over_byte start i (omega arith) (h i (omega arith) (omega arith)) ∙ over_bytes start n (i + 1) j (omega arith) l (λ k a b. h k (omega arith) b)

abbrev begins : ℕ → Bool
begins b = not (is_blank b)

-- A slice of a text to its end, and its bytes.
module _ (text : List ℕ) (i : ℕ) where
  abbrev from : List ℕ
  from = take (length text - i) (drop i text)

  to_end : from ≡ drop i text
  to_end = take_all (length text - i) (drop i text) (rw length-drop (omega arith))

  length_to_end : length from ≡ length text - i
  length_to_end = rw (to_end, length-drop)

  byte_to_end : (k : ℕ) → get_or from k 0 ≡ get_or text (i + k) 0
  byte_to_end k = rw to_end (get_or-drop i text k 0)

  -- a byte that passes the test of a search from byte i on, or does not
  tested : (k : ℕ) (b : Bool) → i ≤ k → k < length text → begins (get_or from (k - i) 0) ≡ b → blank_at text k ≡ not b
  tested k b l m t =
      let same : i + (k - i) ≡ k = omega arith in
      blank_is text k (not b) m (turned (is_blank (get_or text k 0)) b (rw (byte_to_end (k - i), same) at t))
    where
      turned : (blank b : Bool) → not blank ≡ b → blank ≡ not b
      turned true b q = rw (← q)
      turned false b q = rw (← q)

module _ (text : List ℕ) (heading : Heading) (at : ℕ) (low : at ≤ length text) where
  -- no word begins in what is left
  pub no_word : None ≡ position begins (from text at) → left_from text heading at ≡ []
  no_word q =
      let m = position_or_len begins (from text at) in
      bool (ltb m (length (from text at)))
      (λ t. let z : None ≡ Some m = rw t at q in absurd (none-some m z))
      (λ t.
      let far = ltb-false m (length (from text at)) t in
      let size = length_to_end text at in
      over_blanks text heading (length text + 1 - at) at (length text + 1) (omega arith) (omega arith) (λ k a b.
      ⊎_elim
      (λ within. tested text at k false a within (fails_before_first begins (from text at) (k - at) 0 (omega arith)))
      (λ beyond. blank_end text k beyond)
      (order k (length text)))
      ∙ past_end text heading (length text + 1) (omega arith))

  module _ (n k : ℕ) (found : Some n ≡ position begins (from text at)) (long : k ≡ prefix_len begins (from text (at + n))) where
    first : (n < length (from text at)) × (begins (get_or (from text at) n 0) ≡ true) × ((i : ℕ) → i < n → begins (get_or (from text at) i 0) ≡ false)
    first = position-Some begins (from text at) n 0 (sym found)

    fits : at + n < length text
    fits = let size = length_to_end text at in let l = first.0 in omega arith

    within : at + n + k ≤ length text
    within = let size = length_to_end text (at + n) in let l = prefix_len-le-length begins (from text (at + n)) in let b = fits in omega arith

    -- what stands behind the word is a blank or the end of the text
    ends : blank_at text (at + n + k) ≡ true
    ends =
        let size = length_to_end text (at + n) in
        ⊎_elim
        (λ l.
        let short : prefix_len begins (from text (at + n)) < length (from text (at + n)) = omega arith in
        let same : at + n + k - (at + n) ≡ k = omega arith in
        tested text (at + n) (at + n + k) false (omega arith) l (rw (same, long) (prefix_len_stops begins (from text (at + n)) 0 short)))
        (λ l. blank_end text (at + n + k) l)
        (order (at + n + k) (length text))

    -- the word has a byte, since it begins where no blank stands
    some : 0 < k
    some =
        let same : at + n - at ≡ n = omega arith in
        let no_blank : blank_at text (at + n) ≡ false = tested text at (at + n) true (omega arith) fits (rw same first.1) in
        ⊎_elim
        (λ l. l)
        (λ l.
        let none : at + n + k ≡ at + n = omega arith in
        let blank : blank_at text (at + n) ≡ true = rw none at ends in
        let z : ◌≡◌ {A = ℕ} 0 1 = cc in
        absurd (omega arith))
        (order 0 k)

    pub next_word : (word : Option Word) → word ≡ word_under heading (take (at + n + k - (at + n)) (drop (at + n) text))
        → left_from text heading at ≡ record { place = at + n; word = word } ∷ left_from text (heading_after heading word) (at + n + k)
    unfolding left_from
    next_word word q =
        let b = fits in
        let w = within in
        over_blanks text heading n at (at + n) refl (omega arith) (λ i a l. tested text at i false a (omega arith) (first.2 (i - at) (omega arith)))
        ∙ over_bytes text heading (at + n) k (at + n) (at + n + k) refl (omega arith) (λ i a l. tested text (at + n) i true a (omega arith) (prefix_len_passes begins (from text (at + n)) (i - (at + n)) 0 (omega arith)))
        ∙ word_ends text heading (at + n) (at + n + k) word (let s = some in omega arith) (omega arith) ends q
        ∙ ap (λ ws. record { place = at + n; word = word } ∷ ws) (sym (over_blank text (heading_after heading word) (at + n + k) (omega arith) ends))

    -- fewer words are left behind it
    pub fewer : (word : Option Word) → word ≡ word_under heading (take (at + n + k - (at + n)) (drop (at + n) text))
        → length (left_from text (heading_after heading word) (at + n + k)) < length (left_from text heading at)
    fewer word q = rw (next_word word q) (omega arith)
