-- A lent table: its first words are a finder's, the words past its full length stay the lender's.
use Rattle.std.specs.Prelude.{◌≡◌, List, [], ◌∷◌, ◌++◌, ℕ, zero, suc, ◌+◌, ◌/◌, ◌%◌, ◌<◌, ◌≤◌, length, get_or, replicate, drop}

-- word i and the words after it, k of them
unfoldable pub listed : (ℕ → ℕ) → ℕ → ℕ → List ℕ
listed word i zero = []
listed word i (suc k) = word i ∷ listed word (i + 1) k

-- The full length of a table shows these words, whatever stood there before. Words past the full length keep their values.
unfoldable pub showing : ℕ → (ℕ → ℕ) → List ℕ → List ℕ
showing full word lent = listed word 0 full ++ drop full lent

-- The same, word by word: the table l, lent as lent, shows these words in its full length, and past it is as it was.
pub record Shown (full : ℕ) (word : ℕ → ℕ) (lent l : List ℕ) : Type 0 where
  pub long : full ≤ length lent
  pub same_length : length l ≡ length lent
  pub words : (i : ℕ) → i < full → get_or l i 0 ≡ word i
  pub past : drop full l ≡ drop full lent

-- Word 16f + w of a table with sixteen words for each field.
abbrev pub cells : (ℕ → ℕ → ℕ) → ℕ → ℕ
cells word i = word (i / 16) (i % 16)

-- the first n words made v
unfoldable pub filled : ℕ → ℕ → List ℕ → List ℕ
filled n v l = replicate n v ++ drop n l
