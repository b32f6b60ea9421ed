-- What is handed on from rows that were read is what the text says: as many words of each row as there are entries.
use Rattle.std.proofs.Common.{◌≡◌, ℕ, ◌≤◌, List, [], ◌∷◌, length, take, drop, refl, sym, arith, length-append, length-take}
use Rattle.std.specs.Prelude.{Option, Some, None, Result, Ok, Err, option_and_then}
use lib.Seq.{take_at}
use Rattle.writing.specs.Writing.{Rows}
use Rattle.spelling.specs.declared.word.Word.{Word}
use Rattle.spelling.specs.declared.word.Word.TheVariants.{Opens, WorkerLabel, FieldLabel, Event}
use Rattle.spelling.specs.declared.words.Placed.{Placed}
use Rattle.spelling.specs.declared.Lengths.{Lengths}
use Rattle.spelling.specs.declared.BadWord.{BadWord}
use Rattle.spelling.specs.Notation.{worker_label_in, field_label_in, kind_in, worker_in, field_in, words, in_front, values_in, judged, rows_in, rows, said_by, said}
use Rattle.spelling.specs.Passes.{over, answer_to, left_of, Reads}

-- each event has a kind, a worker and a field
one_each : (word : Option Word) (k w f : List ℕ) → (length k ≡ length w) × (length k ≡ length f)
    → (length (in_front (option_and_then kind_in word) k) ≡ length (in_front (option_and_then worker_in word) w))
    × (length (in_front (option_and_then kind_in word) k) ≡ length (in_front (option_and_then field_in word) f))
one_each None k w f h = h
one_each (Some (Opens heading)) k w f h = h
one_each (Some (WorkerLabel n)) k w f h = h
one_each (Some (FieldLabel n)) k w f h = h
one_each (Some (Event e)) k w f h = (rw h.0, rw (← h.1))

pub even : (ws : List Placed) → (length (values_in kind_in ws) ≡ length (values_in worker_in ws)) × (length (values_in kind_in ws) ≡ length (values_in field_in ws))
unfolding values_in
even [] = (refl, refl)
even (w ∷ ws) = one_each w.word (values_in kind_in ws) (values_in worker_in ws) (values_in field_in ws) (even ws)

-- values at the start of a row
pub record Starts (values row : List ℕ) (n : ℕ) : Type 0 where
  pub within : n ≤ length row
  pub says : take n row ≡ values

starts : (values lent : List ℕ) (n : ℕ) → n ≡ length values → Starts values (over values lent) n
starts values lent n q =
    record { within = rw (q, length-append) (omega arith); says = take_at values (drop (length values) lent) n (sym q) }

-- What is handed to the writer, so many words of each row, is what the text says.
pub record Handed (five left : Rows) (lengths : Lengths) : Type 0 where
  pub worker_labels : Starts five.worker_labels left.worker_labels lengths.workers
  pub field_labels : Starts five.field_labels left.field_labels lengths.fields
  pub kinds : Starts five.kinds left.kinds lengths.events
  pub workers : Starts five.workers left.workers lengths.events
  pub fields : Starts five.fields left.fields lengths.events

same_lengths : {a b : Lengths} → ◌≡◌ {A = Result Lengths BadWord} (Ok a) (Ok b) → a ≡ b
same_lengths q = cc

cut : (k m : List ℕ) → length k ≡ length m → length (take 16001 k) ≡ length (take 16001 m)
cut k m e = rw (length-take 16001 k, length-take 16001 m, e)

handed : (j : Result (Unit {0}) BadWord) (ws : List Placed) (lent : Rows) (lengths : Lengths) → Ok lengths ≡ answer_to (said_by j ws) → Handed (rows_in ws) (left_of (said_by j ws) lent) lengths
unfolding rows_in
handed (Err b) ws lent lengths q = let z : ◌≡◌ {A = ℕ} 0 1 = cc in absurd (omega arith)
handed (Ok u) ws lent lengths q =
    let same = even ws in
    rw (same_lengths q)
    (record {
      worker_labels = starts (take 17 (values_in worker_label_in ws)) lent.worker_labels _ refl;
      field_labels = starts (take 513 (values_in field_label_in ws)) lent.field_labels _ refl;
      kinds = starts (take 16001 (values_in kind_in ws)) lent.kinds _ refl;
      workers = starts (take 16001 (values_in worker_in ws)) lent.workers _ (cut (values_in kind_in ws) (values_in worker_in ws) same.0);
      fields = starts (take 16001 (values_in field_in ws)) lent.fields _ (cut (values_in kind_in ws) (values_in field_in ws) same.1);
    })

module _ (text : List ℕ) (lent left : Rows) (r : Result Lengths BadWord) (read : Reads text lent left r) where
  pub read_handed : (lengths : Lengths) → r ≡ Ok lengths → Handed (rows_in (words text)) left lengths
  unfolding said
  read_handed lengths q = rw read.words (handed (judged text) (words text) lent lengths (rw q at read.answer))

  -- and so the text says rows
  pub read_says : (lengths : Lengths) → r ≡ Ok lengths → said text ≡ rows (rows_in (words text))
  unfolding said
  read_says lengths q = by (judged text) (rw q at read.answer)
    where
      by : (j : Result (Unit {0}) BadWord) → Ok lengths ≡ answer_to (said_by j (words text)) → said_by j (words text) ≡ rows (rows_in (words text))
      by (Ok u) e = refl
      by (Err b) e = let z : ◌≡◌ {A = ℕ} 0 1 = cc in absurd (omega arith)
