-- Laws of a row that is filled with values, one after another, as long as there is room.
use Rattle.std.proofs.Common.{◌≡◌, ℕ, ◌+◌, ◌-◌, ◌≤◌, List, [], ◌∷◌, ◌++◌, length, take, drop, set, arith, sym, add-one, append-nil, length-set, length-take-le, take-append-drop}
use Rattle.std.proofs.Math.Seq.{take-suc-set}
use lib.Seq.{drop-set-lt, drop-drop, append_snoc, take-nil}
use borrow.Author.Tests.{ltb-true, ltb-false}
use lib.Dec.{ltb}
use Rattle.events.proofs.Tests.{bool}
use Rattle.sorts.proofs.Counting.{one_left, none_left}
use Rattle.std.specs.Prelude.{Result, Ok, Option, Some, None, MatchOption, option_and_then}
use Rattle.writing.specs.Writing.{rows_given}
use Rattle.spelling.specs.declared.BadWord.{BadWord}
use Rattle.spelling.specs.declared.word.Word.{Word}
use Rattle.spelling.specs.declared.words.Placed.{Placed}
use Rattle.spelling.specs.Notation.{in_front, values_in, worker_label_in, field_label_in, kind_in, worker_in, field_in, words, judged, rows_in, said}
use Rattle.spelling.specs.Passes.{stored, place_after, Stores, Gives, Holds, Reads}

-- The first n words of a row are values, and with those still to come, as many as have room, they are all; the other words are as they were lent.
pub record Held (all more lent row : List ℕ) (n : ℕ) : Type 0 where
  pub low : n ≤ length row
  pub same : length row ≡ length lent
  pub so_far : take n row ++ take (length lent - n) more ≡ all
  pub others : drop n row ≡ drop n lent

-- a value more, if there is one
held_value : (all more lent row : List ℕ) (n x : ℕ) → Held all (x ∷ more) lent row n → Held all more lent (stored row n (Some x)) (place_after row n (Some x))
held_value all more lent row n x h =
    bool (ltb n (length row))
    (λ t.
    let l = ltb-true n (length row) t in
    let room = one_left n (length lent) (rw h.same at l) in
    let next : take (n + 1) (set row n x) ≡ take n row ++ (x ∷ []) = rw add-one (take-suc-set row n x l) in
    let before : take n row ++ x ∷ take (length lent - (n + 1)) more ≡ all = rw room at h.so_far in
    let after : drop (n + 1) row ≡ drop (n + 1) lent = rw (← drop-drop 1 n row, ← drop-drop 1 n lent, h.others) in
    rw t
    (record {
      low = rw length-set (omega arith);
      same = rw length-set h.same;
      so_far = rw (next, append_snoc (take n row) x (take (length lent - (n + 1)) more)) before;
      others = rw (drop-set-lt (n + 1) row n x (omega arith)) after;
    }))
    (λ t.
    let l = ltb-false n (length row) t in
    let full = none_left n (length lent) (rw h.same at l) in
    let before : take n row ++ [] ≡ all = rw full at h.so_far in
    rw t (record { low = h.low; same = h.same; so_far = rw full before; others = h.others }))

held_stored : (v : Option ℕ) (all more lent row : List ℕ) (n : ℕ) → Held all (in_front v more) lent row n → Held all more lent (stored row n v) (place_after row n v)
held_stored (Some x) all more lent row n h = held_value all more lent row n x h
held_stored None all more lent row n h = h

held_end : (all lent row : List ℕ) (n : ℕ) → Held all [] lent row n → Holds all lent row n
held_end all lent row n h =
    let whole : take n row ≡ all = rw (take-nil (length lent - n), append-nil) at h.so_far in
    record {
      count = rw (← whole) (sym (length-take-le n row h.low));
      words = rw (← whole, length-take-le n row h.low, ← h.others) (sym (take-append-drop n row));
    }

-- what a call gives for a word, if there is one
pub given_by : {answers : Word → Option ℕ → Type 0} {given : Word → Option ℕ} → Gives answers given → (word : Option Word) (x : Option ℕ) → MatchOption word (x ≡ None) (λ w. answers w x) → x ≡ option_and_then given word
given_by gives None x h = h
given_by gives (Some w) x h = gives.each w x h

-- A row, after the words so far, with those that are left of a text.
module _ (given : Word → Option ℕ) (all lent row : List ℕ) (n : ℕ) (left : List Placed) (held : Held all (values_in given left) lent row n) where
  pub held_next : (placed : Placed) (more : List Placed) (v : Option ℕ) (row' : List ℕ) (n' : ℕ) → left ≡ placed ∷ more → v ≡ option_and_then given placed.word → Stores v n row row' n'
      → Held all (values_in given more) lent row' n'
  unfolding values_in
  held_next placed more v row' n' q e s = rw (s.words, s.past, e) (held_stored (option_and_then given placed.word) all (values_in given more) lent row n (rw q at held))

  pub held_all : left ≡ [] → Holds all lent row n
  unfolding values_in
  held_all q = held_end all lent row n (rw q at held)

-- A text that is judged, and the rows that it is read into.
module _ (text : List ℕ) (j : Result (Unit {0}) BadWord) (is : j ≡ judged text) where
  pub read_fine : (u : Unit {0}) (a b c d e a' b' c' d' e' : List ℕ) (na nb nc nd ne : ℕ) → j ≡ Ok u
      → length a ≡ 17 → length b ≡ 513 → length c ≡ 16001 → length d ≡ 16001 → length e ≡ 16001
      → Holds (take (length a) (values_in worker_label_in (words text))) a a' na → Holds (take (length b) (values_in field_label_in (words text))) b b' nb
      → Holds (take (length c) (values_in kind_in (words text))) c c' nc → Holds (take (length d) (values_in worker_in (words text))) d d' nd
      → Holds (take (length e) (values_in field_in (words text))) e e' ne
      → Reads text (rows_given a b c d e) (rows_given a' b' c' d' e') (Ok (record { workers = na; fields = nb; events = nc }))
  unfolding said rows_in
  read_fine u a b c d e a' b' c' d' e' na nb nc nd ne q la lb lc ld le ha hb hc hd he =
      record {
        answer = rw (← is, q, ha.count, hb.count, hc.count, la, lb, lc);
        words = rw (← is, q, ha.words, hb.words, hc.words, hd.words, he.words, la, lb, lc, ld, le);
      }
