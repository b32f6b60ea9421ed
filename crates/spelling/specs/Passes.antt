-- What a pass over a text has still to come to, and what is left in the lent rows.
use Rattle.std.specs.Prelude.{◌≡◌, List, ◌++◌, ℕ, ◌+◌, ◌-◌, cond, ltb, length, drop, set, Option, Some, None, Result, Ok, Err}
use Rattle.writing.specs.Writing.{Rows}
use Rattle.spelling.specs.declared.word.Heading.{Heading}
use Rattle.spelling.specs.declared.word.Word.{Word}
use Rattle.spelling.specs.declared.words.Placed.{Placed}
use Rattle.spelling.specs.declared.Lengths.{Lengths}
use Rattle.spelling.specs.declared.BadWord.{BadWord}
use Rattle.spelling.specs.Notation.{words_from, Said, bad, rows, said}

-- the words that begin at byte i or behind it, under this heading
unfoldable pub left_from : List ℕ → Heading → ℕ → List Placed
left_from text heading i = words_from text heading i i (length text + 1 - i)

-- a row with a value at place n, if there is one and room for it, and the next place
abbrev pub stored : List ℕ → ℕ → Option ℕ → List ℕ
stored row n (Some x) = cond (ltb n (length row)) (set row n x) row
stored row n None = row

abbrev pub place_after : List ℕ → ℕ → Option ℕ → ℕ
place_after row n (Some x) = cond (ltb n (length row)) (n + 1) n
place_after row n None = n

pub record Stores (value : Option ℕ) (n : ℕ) (lent row : List ℕ) (next : ℕ) : Type 0 where
  pub words : row ≡ stored lent n value
  pub past : next ≡ place_after lent n value

-- whatever is answered for a word is what the word gives
pub record Gives (answers : Word → Option ℕ → Type 0) (given : Word → Option ℕ) : Type 0 where
  pub each : (word : Word) (x : Option ℕ) → answers word x → x ≡ given word

-- a lent row with values at its start, and its other words as they were
abbrev pub over : List ℕ → List ℕ → List ℕ
over values lent = values ++ drop (length values) lent

pub record Holds (values lent row : List ℕ) (n : ℕ) : Type 0 where
  pub count : n ≡ length values
  pub words : row ≡ over values lent

-- what reading answers, and what it leaves of lent rows
abbrev pub answer_to : Said → Result Lengths BadWord
answer_to (bad place) = Err (record { place = place })
answer_to (rows r) = Ok (record { workers = length r.worker_labels; fields = length r.field_labels; events = length r.kinds })

abbrev pub left_of : Said → Rows → Rows
left_of (bad place) lent = lent
left_of (rows r) lent =
    record {
      worker_labels = over r.worker_labels lent.worker_labels;
      field_labels = over r.field_labels lent.field_labels;
      kinds = over r.kinds lent.kinds;
      workers = over r.workers lent.workers;
      fields = over r.fields lent.fields;
    }

pub record Reads (text : List ℕ) (lent left : Rows) (r : Result Lengths BadWord) : Type 0 where
  pub answer : r ≡ answer_to (said text)
  pub words : left ≡ left_of (said text) lent
