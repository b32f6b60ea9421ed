-- The notation of document 01 as text: its words, what number or event a word is, and what a whole text says.
use Rattle.std.specs.Prelude.{Bool, cond, ◌&&◌, ◌||◌, List, [], ◌∷◌, ℕ, zero, suc, ◌+◌, ◌-◌, ◌*◌, eqb, ltb, leb, length, get_or, take, drop, Option, Some, None, Result, Ok, Err, is_none, option_map, option_and_then, bytes_eq}
use Rattle.std.specs.List.{position}
use Prim.Native.Char.{code}
use Rattle.byte_rows.specs.Characters.{ascii}
use Rattle.recording.specs.declared.Entry.{Entry}
use Rattle.writing.specs.Writing.{Rows}
use Rattle.spelling.specs.declared.word.Heading.{Heading}
use Rattle.spelling.specs.declared.word.Heading.TheVariants.{Before, Workers, Fields, Events}
use Rattle.spelling.specs.declared.word.Word.{Word}
use Rattle.spelling.specs.declared.word.Word.TheVariants.{Opens, WorkerLabel, FieldLabel, Event}
use Rattle.spelling.specs.declared.words.Placed.{Placed}
use Rattle.spelling.specs.declared.BadWord.{BadWord}

-- Words are separated by blanks: space, tab, line end, carriage return, comma.
abbrev pub is_blank : ℕ → Bool
is_blank b = (((eqb b (code " ") || eqb b 9) || eqb b 10) || eqb b 13) || eqb b (code ",")

-- the number n with these digits after it
unfoldable pub number_after : ℕ → List ℕ → Option ℕ
number_after n [] = Some n
number_after n (b ∷ s) = cond (leb (code "0") b && leb b (code "9")) (number_after (10 * n + (b - code "0")) s) None

-- A number is decimal, of one to nine digits.
unfoldable pub number_of : List ℕ → Option ℕ
number_of word = cond (ltb 0 (length word) && leb (length word) 9) (number_after 0 word) None

-- how many bytes stand before the first dot
abbrev pub dot_in : List ℕ → Option ℕ
dot_in s = position (λ b. eqb b (code ".")) s

-- an event of this kind, if both numbers are there
abbrev pub event_by : ℕ → Option ℕ → Option ℕ → Option Word
event_by kind (Some w) (Some f) = Some (Event (record { kind = kind; worker = w; field = f }))
event_by kind (Some w) None = None
event_by kind None field = None

-- two numbers with a dot between
abbrev pub access_at : ℕ → List ℕ → Option ℕ → Option Word
access_at kind s (Some dot) = event_by kind (number_of (take dot s)) (number_of (drop (dot + 1) s))
access_at kind s None = None

unfoldable pub access_of : ℕ → List ℕ → Option Word
access_of kind s = access_at kind s (dot_in s)

-- An event: R0.3 is a read (kind 1), W1.0 a write (2), B0 a crossing (3), which has field number 0.
unfoldable pub event_of : List ℕ → Option Word
event_of [] = None
event_of (letter ∷ s) =
    cond (eqb letter (code "R")) (access_of 1 s)
    (cond (eqb letter (code "W")) (access_of 2 s)
    (cond (eqb letter (code "B")) (event_by 3 (number_of s) (Some 0)) None))

-- After `workers` every word is a worker label, after `fields` a field label, after `events` an event; before the first heading it is bad.
unfoldable pub entry_under : Heading → List ℕ → Option Word
entry_under Before word = None
entry_under Workers word = option_map WorkerLabel (number_of word)
entry_under Fields word = option_map FieldLabel (number_of word)
entry_under Events word = event_of word

-- A heading may stand anywhere. A word that is none of these is bad.
unfoldable pub word_under : Heading → List ℕ → Option Word
word_under heading word =
    cond (bytes_eq word (ascii "workers")) (Some (Opens Workers))
    (cond (bytes_eq word (ascii "fields")) (Some (Opens Fields))
    (cond (bytes_eq word (ascii "events")) (Some (Opens Events)) (entry_under heading word)))

-- A word ends before a blank or the end of the text.
unfoldable pub blank_at : List ℕ → ℕ → Bool
blank_at text i = leb (length text) i || is_blank (get_or text i 0)

-- the heading that stands after a word
abbrev pub heading_after : Heading → Option Word → Heading
heading_after heading (Some (Opens next)) = next
heading_after heading (Some (WorkerLabel n)) = heading
heading_after heading (Some (FieldLabel n)) = heading
heading_after heading (Some (Event e)) = heading
heading_after heading None = heading

-- The words from byte i on, where so many places are left to look at, the present heading is known, and bytes start to i - 1 are the
-- word that has begun, if any. At a blank it ends; any other byte belongs to it.
unfoldable pub words_from : List ℕ → Heading → ℕ → ℕ → ℕ → List Placed
words_from text heading start i zero = []
words_from text heading start i (suc left) =
    let word = word_under heading (take (i - start) (drop start text)) in
    let more = words_from text (heading_after heading word) (i + 1) (i + 1) left in
    cond (ltb start i && blank_at text i)
    (record { place = start; word = word } ∷ more)
    (words_from text heading (cond (blank_at text i) (i + 1) start) (i + 1) left)

-- the words of a text; the last place to look at is its end
unfoldable pub words : List ℕ → List Placed
words text = words_from text Before 0 0 (length text + 1)

-- the place where the first bad word begins
unfoldable pub first_bad : List Placed → Result (Unit {0}) BadWord
first_bad [] = Ok tt
first_bad (w ∷ ws) = cond (is_none w.word) (Err (record { place = w.place })) (first_bad ws)

-- what a word gives to each of the five rows, if anything
abbrev pub worker_label_in : Word → Option ℕ
worker_label_in (WorkerLabel n) = Some n
worker_label_in (FieldLabel n) = None
worker_label_in (Event e) = None
worker_label_in (Opens heading) = None

abbrev pub field_label_in : Word → Option ℕ
field_label_in (WorkerLabel n) = None
field_label_in (FieldLabel n) = Some n
field_label_in (Event e) = None
field_label_in (Opens heading) = None

abbrev pub event_in : Word → Option Entry
event_in (WorkerLabel n) = None
event_in (FieldLabel n) = None
event_in (Event e) = Some e
event_in (Opens heading) = None

abbrev pub kind_in : Word → Option ℕ
kind_in word = option_map (λ e. e.kind) (event_in word)

abbrev pub worker_in : Word → Option ℕ
worker_in word = option_map (λ e. e.worker) (event_in word)

abbrev pub field_in : Word → Option ℕ
field_in word = option_map (λ e. e.field) (event_in word)

-- a value, if there is one, in front of others
abbrev pub in_front : Option ℕ → List ℕ → List ℕ
in_front (Some n) values = n ∷ values
in_front None values = values

-- the values of a row, in the order of the words
unfoldable pub values_in : (Word → Option ℕ) → List Placed → List ℕ
values_in given [] = []
values_in given (w ∷ ws) = in_front (option_and_then given w.word) (values_in given ws)

-- What a text says: rows, or where its first bad word begins.
pub data Said : Type 0 where
  bad : ℕ → Said
  rows : Rows → Said

-- No text of more than 262,144 bytes is read: it is bad at that place.
unfoldable pub judged : List ℕ → Result (Unit {0}) BadWord
judged text = cond (leb (length text) 262144) (first_bad (words text)) (Err (record { place = 262144 }))

-- A row holds at most one entry more than document 01 allows: the writer refuses such a row, whatever else would follow.
unfoldable pub rows_in : List Placed → Rows
rows_in ws =
    record {
      worker_labels = take 17 (values_in worker_label_in ws);
      field_labels = take 513 (values_in field_label_in ws);
      kinds = take 16001 (values_in kind_in ws);
      workers = take 16001 (values_in worker_in ws);
      fields = take 16001 (values_in field_in ws);
    }

abbrev pub said_by : Result (Unit {0}) BadWord → List Placed → Said
said_by (Err b) ws = bad b.place
said_by (Ok u) ws = rows (rows_in ws)

unfoldable pub said : List ℕ → Said
said text = said_by (judged text) (words text)
