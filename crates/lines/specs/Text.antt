-- Text as lists of ASCII numbers: words, decimal numbers, lines, and text put into a buffer.
use Rattle.std.specs.Prelude.{◌≡◌, cond, List, [], ◌∷◌, ◌++◌, ℕ, zero, suc, ◌+◌, ◌/◌, ◌%◌, ◌≤◌, ltb, length, take, drop}
use Prim.Native.Char.{code}
use Rattle.io.specs.Counts.{IsPrefixLen}
use Rattle.byte_rows.specs.Buffer.{put}
use Rattle.lines.specs.declared.Page.{Page}
use Rattle.byte_rows.specs.Characters.{ascii}

abbrev pub digit : ℕ → ℕ
digit d = code "0" + d

-- A number below 10 is its digit; any other is its tenth and then its last digit. The first argument bounds the steps: n or more are enough for n.
unfoldable pub spelled : ℕ → ℕ → List ℕ
spelled zero n = digit n ∷ []
spelled (suc steps) n = cond (ltb n 10) (digit n ∷ []) (spelled steps (n / 10) ++ (digit (n % 10) ∷ []))

-- a number in decimal, with no leading zeros; 0 is one digit
unfoldable pub decimal : ℕ → List ℕ
decimal n = spelled n n

-- words with a space before each, and a line end after the last
unfoldable pub rest : List (List ℕ) → List ℕ
rest [] = ascii "\n"
rest (word ∷ more) = ascii " " ++ (word ++ rest more)

-- a line: its first word and more, a space between, a line end after
unfoldable pub line : List ℕ → List (List ℕ) → List ℕ
line word more = word ++ rest more

-- The text, of at most so many bytes, stands at place at of the buffer that was lent as lent; the next place is past it.
pub record Puts (most : ℕ) (text lent : List ℕ) (at : ℕ) (out : List ℕ) (next : ℕ) : Type 0 where
  pub bytes : out ≡ put lent at text
  pub past : next ≡ at + length text
  pub short : length text ≤ most
  pub whole : length out ≡ length lent

-- The same of a page, which is over the same buffer as before.
pub record PutsOn (most : ℕ) (text : List ℕ) (old new : Page) : Type 0 where
  pub puts : Puts most text old.bytes.now old.at new.bytes.now new.at
  pub same_buffer : new.bytes.ghost_name ≡ old.bytes.ghost_name

-- The first n bytes of the buffer are the text, and all its other bytes are as they were lent.
pub record Starts (text lent out : List ℕ) (n : ℕ) : Type 0 where
  pub counts : IsPrefixLen n out
  pub says : take n out ≡ text
  pub others : drop n out ≡ drop n lent
